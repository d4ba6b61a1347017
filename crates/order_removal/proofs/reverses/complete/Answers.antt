-- The reverses of the losses in the rows before v are losses too. A loss that row v gained meanwhile is the reverse of one at the start,
-- so its own reverse is a loss already.
use Rattle.std.specs.Prelude.{not}
use mathlib.Core.Path.{refl, ap, ◌∙◌}
use Rattle.theory.proofs.Logic.BoolsLaws.{not_in}
use Prim.Native.Nat.{◌+◌}
use native.Mathlib.Omega.{arith}
use Rattle.theory.proofs.Logic.RangeLaws.{first_ge}
use Rattle.words.specs.Words.{has}
use Rattle.order_rows.specs.Bits.{row_bits, cell}
use Rattle.order_rows.specs.MatrixLaws.{row_alone}
use Rattle.order_sets.specs.MembersLaws.{reached_start, reached_next}
use Rattle.order_sets.specs.ReversesLaws.{mirror_start, mirror_next, mirror_end, mirror_none}
use Rattle.order_removal.proofs.reverses.complete.Goals as goal

pub returns-then-not-mirror : goal.returns-then-not-mirror
returns-then-not-mirror c = mirror_none row_bits _ (not_in c.if-not-mirror.true) _ _

pub loop-v-init : goal.loop-v-init
loop-v-init c = let a = c.args in
    let e = c.first_from-v.ensures in (
      rw e (reached_start (has _) row_bits),
      refl,
      refl,
      rw e (mirror_start row_bits (has _) (cell a.next.now) (has a.losing.now) (row_alone _ _ c.row-which.ensures)),
    )

pub row-lost-requires : goal.row-lost-requires
row-lost-requires c = let i = c.loop-v.invariant in omega (arith, i.1, c.requires, c.loop-v-test.true)

pub lose_column-requires : goal.lose_column-requires
lose_column-requires c = let i = c.loop-v.invariant in
    let p = c.requires in (omega (arith, i.1, p), omega (arith, i.2, p), c.loop-v-test.true)

pub loop-v-smaller : goal.loop-v-smaller
loop-v-smaller c = omega (arith, first_ge (has c.row-which.result) (c.loop-v.v + 1) row_bits, c.first_from-v-in-loop-v.ensures, c.loop-v-test.true)

pub loop-v-preserved : goal.loop-v-preserved
loop-v-preserved c = let a = c.args in
    let i = c.loop-v.invariant in
    let t = c.loop-v-test.true in
    let q = c.lose_column in
    let e = c.first_from-v-in-loop-v.ensures in (
      rw e (reached_next (has _) row_bits c.loop-v.v t),
      q.auto.next ∙ i.1,
      q.auto.losing ∙ i.2,
      rw e (mirror_next row_bits (has _) (cell a.next.now) (has a.losing.now) (row_alone _ _ c.row-which.ensures) c.loop-v.v _ _ _ _ _ t (i.0.1 t) i.3 c.row-lost.ensures q.ensures),
    )

pub returns : goal.returns
returns c = let i = c.loop-v.invariant in
    let a = c.args in
    mirror_end row_bits (has _) (cell a.next.now) (has a.losing.now) (row_alone _ _ c.row-which.ensures) a.mirror (ap not c.if-not-mirror.false) _ _ _ (omega (arith, i.0.0, c.loop-v-test.false)) i.3
