-- Vertices of equal priority differ in priority from the same vertices, so they lose the same, with the same fall.
use mathlib.Core.Path.{refl}
use native.Mathlib.Omega.{arith}
use Rattle.words.specs.Word.{word_bits}
use Rattle.order_sets.specs.RoundsLaws.{parted_copy}
use Rattle.order_small_losses.specs.Words.{bit}
use Rattle.order_small_losses.specs.EdgeWordsLaws.{word_put}
use Rattle.order_small_rounds.proofs.start.copy.Goals as goal

pub returns : goal.returns
unfolding bit
returns c = let a = c.args in
    let fit = c.requires.word_bits_in_bounds in
    let inside = c.requires.u_lt_v.1 in
    λ G t p.
    parted_copy word_bits G a.v _ _ _ _ _ _ _ _ _ p
    (word_put a.related.now a.v _ (omega (arith, fit.0, inside)))
    (word_put a.lost.now a.v _ (omega (arith, fit.1, inside)))
    (word_put a.falls.now a.v _ (omega (arith, fit.2, inside)))
    a.u c.requires.u_lt_v.0 t (λ x h. refl) (λ x h. refl) (λ x h. refl)
