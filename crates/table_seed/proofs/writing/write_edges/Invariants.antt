use Rattle.table_seed.specs.Progress.{EdgesDrawn}
use Rattle.table_seed.proofs.writing.write_edges.Given as goal

abbrev pub invariant-loop-i : goal.invariant-loop-i
invariant-loop-i l = EdgesDrawn l.n l.d l.v l.i l.initial.next.state l.initial.output l.next.state l.output
