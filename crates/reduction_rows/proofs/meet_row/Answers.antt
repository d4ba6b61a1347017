-- The first k words of row r are met with those of row v, and no other word is changed.
use native.Mathlib.Omega.{arith}
use Rattle.reduction_rows.specs.MetLaws.{part_start, part_next, part_end}
use Rattle.reduction_rows.proofs.meet_row.Goals as goal

pub loop-k-init : goal.loop-k-init
loop-k-init c = part_start _ _ _ _

pub loop-k-preserved : goal.loop-k-preserved
loop-k-preserved c = part_next _ _ _ _ _ _ (omega arith) (omega arith) c.loop-k.invariant

pub returns : goal.returns
returns c = part_end _ _ _ _ _ _ (omega arith) c.loop-k.invariant
