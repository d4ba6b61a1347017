use Rattle.edit_links.specs.LinksLaws.{LinkedBelow}
use Rattle.edit_links.proofs.link_rows.Given as goal

abbrev pub invariant-loop-v : goal.invariant-loop-v
invariant-loop-v l = LinkedBelow l.sources l.targets l.m l.count l.v l.links
