use Rattle.std.proofs.Common.{ℕ, ◌+◌, ◌*◌, List}
use Rattle.table_seed.specs.Progress.{Underway}
use Rattle.table_seed.proofs.writing.write_table.Given as goal

abbrev pub invariant-loop-v : goal.invariant-loop-v
invariant-loop-v l =
    (old : List ℕ) → Underway l.seed l.n l.d l.c old 0 0 0 l.seed l.initial.output → Underway l.seed l.n l.d l.c old l.v (l.v * l.d) (l.v * (2 + l.d)) l.generator.state l.output
