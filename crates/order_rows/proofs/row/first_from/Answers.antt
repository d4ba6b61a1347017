-- The first number from `at` on is the first from k on: it is in the word of `at`, or that word has none and the next one is searched.
use mathlib.Core.Path.{sym, ◌∙◌}
use native.Mathlib.Omega.{arith}
use Rattle.theory.proofs.Logic.RangeLaws.{first_end_lem}
use Rattle.words.specs.Words.{has}
use Rattle.order_rows.specs.Bits.{row_bits}
use Rattle.order_rows.specs.RowLaws.{first_here, first_later}
use Rattle.std.proofs.Common.{rules}
use Rattle.order_rows.proofs.row.first_from.Goals as goal

pub returns-then-bit-lt64 : goal.returns-then-bit-lt64
returns-then-bit-lt64 c = let f = c.first_from-bit.ensures in
    let a = c.args.a.now in
    let t = c.loop-at-test.true in
    rw f (first_here a c.loop-at.at t (omega (arith, f, c.if-bit-lt64.true)) ∙ sym c.loop-at.invariant.1)

pub loop-at-preserved : goal.loop-at-preserved
loop-at-preserved c = let f = c.first_from-bit.ensures in
    let a = c.args.a.now in
    let t = c.loop-at-test.true in
    (search rules, c.loop-at.invariant.1 ∙ first_later a c.loop-at.at t (λ k. omega (arith, k, f, c.if-bit-lt64.false)))

pub returns : goal.returns
returns c = sym (c.loop-at.invariant.1 ∙ first_end_lem (has c.args.a.now) c.loop-at.at row_bits c.loop-at-test.false)
