use mathlib.Core.Path.{◌≡◌}
use lib.ListN.{length}
use Rattle.edit_links.specs.LinksLaws.{Walk}
use Rattle.edit_links.proofs.link_row.Given as goal

abbrev pub invariant-loop-p : goal.invariant-loop-p
invariant-loop-p l = (length l.head ≡ length l.initial.head) × (length l.links ≡ length l.initial.links) × Walk l.sources l.targets l.m l.count l.n l.v l.initial.links l.head l.links l.p

abbrev pub decreases-loop-p : goal.decreases-loop-p
decreases-loop-p l = l.p
