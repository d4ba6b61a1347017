-- What a run over the entries of a trace leaves in a buffer: what the parts of the call promise each other. No public promise cites this.
use Rattle.std.specs.Prelude.{◌≡◌, List, [], ℕ, length}
use Rattle.table.specs.Table.{table_in}
use Rattle.table.specs.Answers.{judge, written}
use Rattle.table.specs.Acceptance.{acceptance_answer}
use Rattle.edit_rules.specs.EditParts.{Formed}
use Rattle.edit_trace.specs.Trace.{entries_in}
use Rattle.edit_trace.specs.Run.{run_over, padded}
use Rattle.edit_run.specs.declared.Entries.{Entries}

-- the run is over: its verdict, the entries done, a table of n vertices and m edges, and the buffer
pub record RunResult (buffer trace : List ℕ) (n : ℕ) (r : Entries) (buffer' : List ℕ) : Type 0 where
  pub verdict : let run = run_over (length buffer) (entries_in trace) (table_in buffer) in acceptance_answer r.verdict ≡ judge run.stop []
  pub done : r.done ≡ (run_over (length buffer) (entries_in trace) (table_in buffer)).done
  pub formed : Formed (run_over (length buffer) (entries_in trace) (table_in buffer)).table n r.edges
  pub table : table_in buffer' ≡ (run_over (length buffer) (entries_in trace) (table_in buffer)).table
  pub words : let run = run_over (length buffer) (entries_in trace) (table_in buffer) in buffer' ≡ written (padded run.table run.longest) buffer
