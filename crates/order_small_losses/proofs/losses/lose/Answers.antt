-- A successor whose word did not change lost nothing and has no fall. So of its word an Even vertex loses the falls of the others,
-- and an Odd vertex what falls by the union of their losses, which `lose_odd` works out.
use mathlib.Core.Path.{sym, ap, ◌∙◌}
use borrow.Author.Tests.{eq-eqb, ne_eqb}
use Rattle.theory.specs.Logic.Bools.{◌&◌}
use Rattle.words.specs.Word.{word_bits, digit}
use Rattle.words.specs.WordLaws.{digit_and, digit_read}
use Rattle.order_sets.specs.LossesLaws.{loses_odd, loses_even}
use Rattle.order_small_losses.specs.Words.{bit}
use Rattle.order_small_losses.proofs.losses.lose.Goals as goal

pub returns-then-edges-v-eq1 : goal.returns-then-edges-v-eq1
unfolding bit
returns-then-edges-v-eq1 c = let a = c.args in
    λ G s k f x h.
    c.lose_odd.ensures G s x h
    ∙ loses_odd word_bits G (bit a.edges.now) s (bit a.related.now) a.v c.requires.4 (bit a.lost.now) (digit a.changed) _ k
    (λ y l. digit_and _ _ y) (digit c.unite.result) c.unite.ensures
    (sym (digit_read _ _) ∙ eq-eqb _ _ c.if-edges-v-eq1.true) x

pub returns : goal.returns
unfolding bit
returns c = let a = c.args in
    λ G s k f x h.
    digit_and _ _ x
    ∙ ap (λ b. bit a.related.now a.v x & b) (c.unite-2.ensures x h)
    ∙ loses_even word_bits G (bit a.edges.now) s (bit a.related.now) a.v c.requires.4 (bit a.lost.now) (digit a.changed) _ k
    (λ y l. digit_and _ _ y) (bit a.falls.now) f
    (sym (digit_read _ _) ∙ ne_eqb _ _ c.if-edges-v-eq1.false) x h
