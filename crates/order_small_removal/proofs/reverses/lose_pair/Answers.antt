-- A word of `losing` gains the pair. The bits of another word don't count, so it becomes a word of this pair alone.
use mathlib.Core.Path.{sym, ◌∙◌}
use Prim.Native.Nat.{◌<◌}
use native.Mathlib.Omega.{arith}
use lib.ListN.{length}
use borrow.Author.Tests.{eq-eqb, ne_eqb}
use Rattle.words.specs.WordLaws.{digit_zero, digit_read}
use Rattle.order_sets.specs.ReversesLaws.{pair_added, pair_new}
use Rattle.order_small_losses.specs.EdgeWordsLaws.{word_put, word_added, word_anew}
use Rattle.std.proofs.Common.{rules}
use Rattle.order_small_removal.proofs.reverses.lose_pair.Goals as goal

pub returns-then-losing-w-eq1 : goal.returns-then-losing-w-eq1
returns-then-losing-w-eq1 c = pair_added _ _ _ _ _ _ c.requires.1 (sym (digit_read _ _) ∙ eq-eqb _ _ c.if-losing-w-eq1.true) (word_added _ _ _ (search rules) _ _ c.with.ensures)

pub returns : goal.returns
returns c = let a = c.args in
    let h : a.w < length a.next.now = omega (arith, c.requires) in
    pair_new _ _ _ _ _ _ _ _ _ c.requires.1 (sym (digit_read _ _) ∙ ne_eqb _ _ c.if-losing-w-eq1.false) digit_zero (word_put a.next.now a.w 0 h)
    (word_anew a.next.now a.w _ h _ _ c.with-2.ensures) c.with-3.ensures
