-- Invariant: the vertices below v have their class numbers, and the k classes among them their lowest members.
use mathlib.Core.Path.{◌∙◌}
use native.Mathlib.Omega.{arith}
use Rattle.table.specs.AnswersLaws.{written_start, written_more}
use Rattle.classes.specs.NumberingLaws.{numbered_start}
use Rattle.classes.proofs.numbering.number_classes.Goals as goal

pub loop-v-init : goal.loop-v-init
loop-v-init c = (written_start _ _, numbered_start _ _ _ _)

pub loop-v-preserved : goal.loop-v-preserved
loop-v-preserved c = let l = c.loop-v in
    let e = c.number_vertex-k.ensures in (e.classes_value ∙ rw l.invariant.0 (written_more _ l.v _ (omega arith)), e.numbered_2)
