-- Where l is the smaller, as `fall_of`. Else all but what has to stay: what each vertex without a successor in x has is in l.
use mathlib.Core.Path.{ap₂, ◌∙◌}
use mathlib.Core.Bool.{not}
use Rattle.theory.specs.Logic.Bools.{◌&◌}
use Rattle.words.specs.Words.{has}
use Rattle.order_sets.specs.LossesLaws.{near_is, fall_rest}
use Rattle.order_rows.specs.Bits.{row_bits, cell}
use Rattle.order_losses.proofs.edges.fall_of_all.Goals as goal

pub returns-then-size : goal.returns-then-size
returns-then-size c = λ G s t a. c.fall_of.ensures G s

pub returns : goal.returns
returns c = let a = c.args in
    let all = c.either-all in
    λ G s t v w h.
    c.without.ensures w h
    ∙ ap₂ (λ b d. b & not d) (all.ensures w h) (c.falling.ensures w h)
    ∙ fall_rest row_bits G (cell a.edges.now) s (has a.l) (has a.x) (has _) (has _) w h t v
    (c.unite-near.ensures w h ∙ near_is row_bits G (cell a.edges.now) s (has a.x) w h)
    (c.without-even.ensures w h ∙ ap₂ (λ b d. b & not d) (all.ensures w h) (c.row.ensures w h))
