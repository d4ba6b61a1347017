-- Each store changes word a alone, and the fall is that of what is taken out with what is left, as far as Even's predecessors of a ask for it.
use mathlib.Core.Path.{refl, ◌∙◌}
use native.Mathlib.Omega.{arith}
use Rattle.theory.proofs.Logic.BoolsLaws.{and_one}
use Rattle.words.specs.Word.{word_bits, digit}
use Rattle.order_sets.specs.RemovalLaws.{row_taken, asking_covers}
use Rattle.order_small_losses.specs.Words.{bit}
use Rattle.order_small_losses.specs.EdgeWordsLaws.{word_put}
use Rattle.order_small_removal.proofs.rows.take_row.Goals as goal

pub returns : goal.returns
unfolding bit
returns c = let a = c.args in
    row_taken word_bits (bit a.edges.now) _ _ _ _ _ (digit c.unite-asking.result) a.a _ _ _ _ _ _ _ (λ x h. refl) c.size.ensures (λ x h. refl)
    c.without-left.ensures
    (λ G e. (
      asking_covers word_bits G _ _ (digit c.without.result) _ a.a c.requires.small_edges_in_bounds.2 e c.without.ensures c.unite-asking.ensures,
      λ w h t. c.fall_within.ensures G e w h ∙ and_one _ t,
    ))
    (word_put a.related.now _ _ (omega (arith, c.requires))) (word_put a.lost.now _ _ (omega (arith, c.requires)))
    (word_put a.falls.now _ _ (omega (arith, c.requires)))
