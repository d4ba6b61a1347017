-- The call that replays a trace: change request 9, with its table of refusals.
use Rattle.std.specs.Prelude.{◌≡◌, List, ◌++◌, ℕ, length}
use Rattle.table.specs.Table.{vertex_count, table_in}
use Rattle.table.specs.Answers.{Row, Answer, judge, after}
use Rattle.order.specs.OrderCall.{order_bytes}
use Rattle.classes.specs.ClassesCall.{memory_rows, class_words}
use Rattle.edit_rules.specs.Buffer.{buffer_rows}
use Rattle.edit_trace.specs.Trace.{entries_in, trace_rows}
use Rattle.edit_trace.specs.Run.{passing, Run, run_over, padded}
use Rattle.edit.specs.EditCall.{call_counts}

-- before any entry: 1 to 8, where 4 means "shorter"; 21 to 23; 40
unfoldable pub start_rows : List ℕ → List ℕ → List ℕ → List ℕ → List ℕ → List Row
start_rows buffer trace marks spare classes =
    buffer_rows buffer ++ (memory_rows (vertex_count buffer) (length marks) (length spare) (length classes) ++ trace_rows trace)

-- the run over the entries
abbrev pub replayed : List ℕ → List ℕ → Run
replayed buffer trace = run_over (length buffer) (entries_in trace) (table_in buffer)

-- The promise: the verdict, the entries done, and every lent word. The run's refusal follows the rows before any entry; once those are passed,
-- memory is as after the entries done, whatever the run's verdict: "At the first refused entry the run ends with that refusal and the number of
-- entries done, and memory is as after those."
pub record ReplayCall (buffer trace marks spare classes : List ℕ) (answer : Answer) (entries : ℕ)
    (buffer' marks' spare' classes' : List ℕ) : Type 0 where
  pub verdict : answer ≡ judge (start_rows buffer trace marks spare classes ++ (replayed buffer trace).stop) (call_counts (replayed buffer trace).table)
  pub done : entries ≡ passing (start_rows buffer trace marks spare classes) (replayed buffer trace).done 0
  pub buffer_after : buffer'
      ≡ after (start_rows buffer trace marks spare classes) (padded (replayed buffer trace).table (replayed buffer trace).longest) buffer
  pub marks_after : marks' ≡ after (start_rows buffer trace marks spare classes) (order_bytes (replayed buffer trace).table) marks
  pub spare_after : spare' ≡ after (start_rows buffer trace marks spare classes) (order_bytes (replayed buffer trace).table) spare
  pub classes_after : classes' ≡ after (start_rows buffer trace marks spare classes) (class_words (replayed buffer trace).table) classes
