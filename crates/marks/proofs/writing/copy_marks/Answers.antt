-- The first i bytes are copied, and the rest of the buffer is as before.
use native.Mathlib.Omega.{arith}
use lib.ListN.{get_or}
use Rattle.table.specs.AnswersLaws.{written_start, written_more}
use Rattle.marks.proofs.writing.copy_marks.Goals as goal

pub loop-i-init : goal.loop-i-init
loop-i-init c = written_start _ _

pub loop-i-preserved : goal.loop-i-preserved
loop-i-preserved c = rw c.loop-i.invariant (written_more (λ j. get_or c.args.from.now j 0) c.loop-i.i c.args.to.now (omega (arith, c.requires)))
