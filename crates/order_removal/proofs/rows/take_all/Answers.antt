-- The rows of `losing` before a are taken out, and a is in `losing` or the limit. There are at most limit × limit pairs, which fit 32 bits.
use mathlib.Core.Path.{◌≡◌, refl, ◌∙◌}
use Prim.Native.Nat.{◌+◌}
use native.Mathlib.Omega.{arith}
use Rattle.theory.specs.Logic.Range.{count}
use Rattle.theory.proofs.Logic.RangeLaws.{first_ge}
use Rattle.theory.proofs.Logic.CountLaws.{count_le}
use Rattle.theory.proofs.Logic.SumLaws.{sum_le}
use Rattle.words.specs.Words.{has}
use Rattle.order_rows.specs.Bits.{row_bits, cell}
use Rattle.order_sets.specs.MembersLaws.{reached_start, reached_next}
use Rattle.order_losses.specs.Losses.{struck}
use Rattle.order_sets.specs.RemovalLaws.{taken_start, taken_next}
use Rattle.order_removal.proofs.rows.take_all.Goals as goal

pub loop-a-init : goal.loop-a-init
loop-a-init c = let e = c.first_from-a.ensures in
    let a = c.args in (
      rw e (reached_start (has a.losing.now) row_bits),
      refl,
      refl,
      refl,
      rw e (taken_start row_bits (cell a.edges.now) (cell a.next.now) (has a.losing.now) (cell a.related.now) (cell a.lost.now) (cell a.falls.now)),
    )

pub overflow_add-cleared : goal.overflow_add-cleared
overflow_add-cleared c = let a = c.args in
    let q = c.take_row-cleared in
    omega (
      arith,
      c.loop-a.invariant.4.size,
      q.ensures.size,
      c.loop-a.invariant.0.0,
      sum_le c.loop-a.a row_bits (λ u. count row_bits (struck a.losing.now a.next.now u)) (λ u. count_le row_bits (struck a.losing.now a.next.now u)),
      count_le row_bits (cell a.next.now c.loop-a.a),
    )

pub loop-a-smaller : goal.loop-a-smaller
loop-a-smaller c = omega (arith, first_ge (has c.args.losing.now) (c.loop-a.a + 1) row_bits, c.first_from-a-in-loop-a.ensures, c.loop-a-test.true)

pub loop-a-preserved : goal.loop-a-preserved
loop-a-preserved c = let a = c.args in
    let t = c.loop-a-test.true in
    let q = c.take_row-cleared in
    let i = c.loop-a.invariant in
    let e = c.first_from-a-in-loop-a.ensures in (
      rw e (reached_next (has a.losing.now) row_bits c.loop-a.a t),
      q.auto.related ∙ i.1,
      q.auto.lost ∙ i.2,
      q.auto.falls ∙ i.3,
      rw e (taken_next row_bits (cell a.edges.now) (cell a.next.now) (has a.losing.now) (cell a.related.now) c.loop-a.a (i.0.1 t) t _ _ _ _ _ _ _ _ i.4 q.ensures),
    )

pub returns : goal.returns
returns c = let e : c.loop-a.a ≡ row_bits = omega (arith, c.loop-a.invariant.0.0, c.loop-a-test.false) in
    rw e at c.loop-a.invariant.4
