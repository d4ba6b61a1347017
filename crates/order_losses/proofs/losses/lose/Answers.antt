-- A successor whose row did not change lost nothing and has no fall. So of its row an Even vertex loses the falls of the others,
-- and an Odd vertex what falls by the union of their losses, which `lose_odd` works out.
use mathlib.Core.Path.{sym, ap, ap₂, ◌∙◌}
use Rattle.theory.specs.Logic.Bools.{◌&◌}
use Rattle.words.specs.Words.{has}
use Rattle.order_rows.specs.Bits.{row_bits, RowIs, cell}
use Rattle.order_sets.specs.LossesLaws.{loses_odd, loses_even}
use Rattle.order_losses.proofs.losses.lose.Goals as goal
use Rattle.order_losses.proofs.losses.lose.Lts as lts
use Rattle.order_losses.proofs.losses.lose.Reads as reads
use Rattle.order_losses.proofs.losses.lose.Tie as tie

-- the successors of v whose rows changed
which : (c : lts.After-common tie.the-claims reads.Pre reads.Post) → let a = c.args in RowIs c.common-which.result (λ x. cell a.edges.now a.v x & has a.changed x)
which c x h = c.common-which.ensures x h ∙ ap (λ b. b & has c.args.changed x) (c.row.ensures x h)

pub returns-then-holds : goal.returns-then-holds
returns-then-holds c = let a = c.args in
    λ G s k f x h.
    c.lose_odd.ensures G s x h
    ∙ loses_odd row_bits G (cell a.edges.now) s (cell a.related.now) a.v c.requires.4 (cell a.lost.now) (has a.changed) _ k (which c.before.before.before.before.before) _ c.unite.ensures
    (sym c.holds.ensures ∙ c.if-holds.true) x

pub returns : goal.returns
returns c = let a = c.args in
    λ G s k f x h.
    c.common.ensures x h
    ∙ ap₂ ◌&◌ (c.row-2.ensures x h) (c.unite-2.ensures x h)
    ∙ loses_even row_bits G (cell a.edges.now) s (cell a.related.now) a.v c.requires.4 (cell a.lost.now) (has a.changed) _ k (which c.before.before.before.before.before.before) (cell a.falls.now) f
    (sym c.holds.ensures ∙ c.if-holds.false) x h
