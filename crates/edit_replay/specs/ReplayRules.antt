-- The refusals of the call that replays a trace, in terms of logic: those before the first entry, and that of the first refused entry.
use Rattle.std.specs.Prelude.{List, ◌++◌, ℕ, length}
use Rattle.table.specs.Table.{vertex_count, table_in}
use Rattle.table.specs.Rules.{Rule}
use Rattle.classes.specs.ClassesRules.{memory_rules}
use Rattle.edit_rules.specs.Buffer.{buffer_rules}
use Rattle.edit_trace.specs.Trace.{entries_in}
use Rattle.edit_trace.specs.TraceRules.{trace_rules, Accepts, Refuses}

-- 1 to 8, where 4 means "shorter"; 21 to 23; 40
abbrev pub start_rules : List ℕ → List ℕ → List ℕ → List ℕ → List ℕ → List Rule
start_rules buffer trace marks spare classes =
    buffer_rules buffer ++ (memory_rules (vertex_count buffer) marks spare classes ++ trace_rules trace)

-- the trace's entries are all accepted, and lead to table h
abbrev pub Runs : List ℕ → List ℕ → List ℕ → Type 1
Runs buffer trace h = Accepts (length buffer) (table_in buffer) (entries_in trace) h

-- so many entries are accepted, and lead to table h, on which the next one is refused k at p
abbrev pub Stops : List ℕ → List ℕ → List ℕ → ℕ → ℕ → ℕ → Type 1
Stops buffer trace h done k p = Refuses (length buffer) (table_in buffer) (entries_in trace) h done k p
