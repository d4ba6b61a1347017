use Rattle.edit_links.specs.Links.{Chained}
use Rattle.edit_links.proofs.chain.Given as goal

abbrev pub invariant-loop-x : goal.invariant-loop-x
invariant-loop-x l = Chained l.sources l.x l.heads l.before
