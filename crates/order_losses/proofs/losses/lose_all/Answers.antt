-- Before word 0 no losses are written; each word adds those of its 64 vertices.
use mathlib.Core.Path.{refl, sym, ◌∙◌}
use Rattle.words.specs.Words.{has}
use Rattle.order_rows.specs.Bits.{row_bits}
use Rattle.order_rows.specs.MatrixLaws.{cell_row}
use Rattle.order_sets.specs.LossesLaws.{losses_start}
use Rattle.order_losses.proofs.losses.lose_all.Goals as goal

pub loop-j-init : goal.loop-j-init
loop-j-init c = (refl, refl, λ G r f v. losses_start row_bits _ (has c.args.near.now) _ _ (λ x h. sym (cell_row _ x) ∙ c.requires.by_index x h))
