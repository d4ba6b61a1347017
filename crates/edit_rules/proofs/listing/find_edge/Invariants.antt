use mathlib.Core.Path.{◌≡◌}
use mathlib.Core.Bool.{true}
use Rattle.theory.specs.Logic.Range.{first}
use Rattle.edit_rules.specs.EditParts.{leads}
use Rattle.edit_rules.proofs.listing.find_edge.Given as goal

abbrev pub invariant-loop-k : goal.invariant-loop-k
invariant-loop-k l = first (leads l.table l.s l.t true) l.j l.m ≡ first (leads l.table l.s l.t true) l.k l.m
