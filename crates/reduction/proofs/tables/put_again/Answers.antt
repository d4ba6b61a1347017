-- Invariant: the first i words are put again. They are read before the place where the first of them is put, so all that is read is old.
use native.Mathlib.Omega.{arith}
use Rattle.table.specs.PlacingLaws.{placed_start}
use Rattle.reduction.proofs.SourcesLaws.{again_more}
use Rattle.reduction.proofs.tables.put_again.Goals as goal

pub loop-i-init : goal.loop-i-init
loop-i-init c = placed_start _ _ _

pub loop-i-preserved : goal.loop-i-preserved
loop-i-preserved c = let l = c.loop-i in again_more c.args.at c.args.count l.i c.args.words.now _ (omega arith) c.requires l.invariant
