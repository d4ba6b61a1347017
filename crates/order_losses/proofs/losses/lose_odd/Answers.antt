-- `less` is what the union of the successors' rows lost, and `left` what it still has. Where `less` is empty nothing falls.
use mathlib.Core.Path.{◌≡◌, sym, ap, ◌∙◌}
use mathlib.Core.Bool.{not}
use Prim.Native.Nat.{ℕ, ◌<◌}
use Rattle.theory.specs.Logic.Bools.{◌&◌}
use Rattle.theory.specs.Games.Game.{Game}
use Rattle.theory.specs.Order.Rows.{united, fall}
use Rattle.words.specs.Words.{has}
use Rattle.order_rows.specs.Bits.{row_bits, row_words, cell}
use Rattle.words.specs.WordsLaws.{has_zero}
use Rattle.order_losses.specs.Losses.{EdgeRows}
use Rattle.order_sets.specs.LossesLaws.{united_is, odd_none, odd_some}
use Rattle.order_losses.proofs.losses.lose_odd.Goals as goal
use Rattle.order_losses.proofs.losses.lose_odd.Lts as lts
use Rattle.order_losses.proofs.losses.lose_odd.Reads as reads
use Rattle.order_losses.proofs.losses.lose_odd.Tie as tie

-- what the union of the successors' rows lost
less : (c : lts.After-strip tie.the-claims reads.Pre reads.Post) (G : Game) → EdgeRows G c.args.edges.now → (x : ℕ) → x < row_bits
    → let a = c.args in has c.strip-less.result x ≡ has a.gone x & not (united G (cell a.related.now) a.v x)
less c G s x h = let a = c.args in
    c.strip-less.ensures x h
    ∙ ap (λ b. has a.gone x & not b) (united_is row_bits G (cell a.edges.now) s (cell a.related.now) _ a.v x c.requires.2 c.row-next.ensures)

pub returns-then-not-is_some : goal.returns-then-not-is_some
returns-then-not-is_some c = let a = c.args in
    λ G s x h.
    has_zero row_words x
    ∙ sym (odd_none row_bits G (cell a.edges.now) s (cell a.related.now) a.v c.requires.2 (has a.gone) _ (less c.before.before.before G s)
    (sym c.is_some.ensures ∙ c.if-not-is_some.true) x)

pub returns : goal.returns
returns c = let a = c.args in
    λ G s x h.
    c.fall_within.ensures G s x h
    ∙ ap (λ b. b & fall G (has c.strip-less.result) (has c.unite-left.result) x) (c.row.ensures x h)
    ∙ odd_some row_bits G (cell a.edges.now) s (cell a.related.now) a.v c.requires.2 (has a.gone) _ _ (less c.before.before.before.before.before.before G s)
    (λ y k. c.unite-left.ensures y k ∙ united_is row_bits G (cell a.edges.now) s (cell a.related.now) _ a.v y c.requires.2 c.row-next.ensures) x
