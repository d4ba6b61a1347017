use Rattle.table.specs.Listing.{Appended}
use Rattle.edit_run.specs.Turned.{kept_pairs}
use Rattle.edit_run.proofs.keep_pairs.Given as goal

abbrev pub invariant-loop-x : goal.invariant-loop-x
invariant-loop-x l = Appended (kept_pairs l.sources l.targets l.copies l.links l.end l.x) 0 l.initial.kept l.kept l.initial.ends l.ends l.e
