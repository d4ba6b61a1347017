-- `less` is what the union of the successors' words lost, and the second union what it still has. Where `less` is empty nothing falls.
use mathlib.Core.Path.{◌≡◌, refl, sym, ap, ◌∙◌}
use mathlib.Core.Bool.{not}
use Prim.Native.Nat.{ℕ, ◌<◌}
use Rattle.theory.specs.Logic.Bools.{◌&◌}
use Rattle.theory.specs.Logic.Range.{any_below}
use Rattle.theory.specs.Games.Game.{Game}
use Rattle.theory.specs.Order.Rows.{united}
use Rattle.words.specs.Word.{word_bits, digit}
use Rattle.words.specs.WordLaws.{digit_zero, some_none}
use Rattle.order_sets.specs.Losses.{EdgeSets}
use Rattle.order_sets.specs.LossesLaws.{united_is, odd_none, odd_some}
use Rattle.order_small_losses.specs.Words.{bit}
use Rattle.order_small_losses.proofs.losses.lose_odd.Goals as goal
use Rattle.order_small_losses.proofs.losses.lose_odd.Lts as lts
use Rattle.order_small_losses.proofs.losses.lose_odd.Reads as reads
use Rattle.order_small_losses.proofs.losses.lose_odd.Tie as tie

-- what the union of the successors' words lost
less : (c : lts.After-strip tie.the-claims reads.Pre reads.Post) (G : Game) → EdgeSets word_bits G (bit c.args.edges.now) → (x : ℕ) → x < word_bits
    → let a = c.args in digit c.strip-less.result x ≡ digit a.gone x & not (united G (bit a.related.now) a.v x)
unfolding bit
less c G s x h = let a = c.args in
    c.strip-less.ensures x h
    ∙ ap (λ b. digit a.gone x & not b)
    (united_is word_bits G (bit a.edges.now) s (bit a.related.now) (bit a.edges.now a.v) a.v x c.requires.2 (λ y k. refl))

pub returns-then-less-eq0 : goal.returns-then-less-eq0
returns-then-less-eq0 c = let a = c.args in
    λ G s x h.
    digit_zero x
    ∙ sym (odd_none word_bits G (bit a.edges.now) s (bit a.related.now) a.v c.requires.2 (digit a.gone) (digit c.strip-less.result)
    (less c.before.before G s) (ap (λ (y : ℕ). any_below word_bits (digit y)) c.if-less-eq0.true ∙ some_none) x)

pub returns : goal.returns
unfolding bit
returns c = let left = c.unite in
    let a = c.args in
    λ G s x h.
    c.fall_within.ensures G s x h
    ∙ odd_some word_bits G (bit a.edges.now) s (bit a.related.now) a.v c.requires.2 (digit a.gone) (digit c.strip-less.result)
    (digit left.result) (less c.before.before.before.before.before G s)
    (λ y k.
    left.ensures y k
    ∙ united_is word_bits G (bit a.edges.now) s (bit a.related.now) (bit a.edges.now a.v) a.v y c.requires.2 (λ z l. refl))
    x
