-- The rows are the relation after pass `passes` and what that pass took out. A round that takes a pair out is the next pass;
-- there are at most as many such passes as pairs, which gives the measure. A round that takes nothing out is the last pass.
use Rattle.std.specs.Prelude.{List, ℕ}
use Rattle.table.specs.WellFormed.{WellFormed}
use mathlib.Core.Path.{refl, ◌∙◌}
use Prim.Native.Nat.{◌≤◌}
use native.Mathlib.Nat.{mul-le-mul}
use native.Mathlib.Omega.{arith}
use Rattle.table.specs.Limits.{pair_limit}
use Rattle.table.specs.Table.{pair_count, game_of}
use Rattle.words.specs.Words.{has}
use Rattle.order_rows.specs.Bits.{row_bits}
use Rattle.order_sets.specs.RoundsLaws.{after_more, after_last}
use Rattle.order_rounds.proofs.settle.Goals as goal

-- no more pairs than the limit
few : {g : List ℕ} → WellFormed g → pair_count g ≤ pair_limit
few well = mul-le-mul well.vertices well.vertices

pub loop-mirror-init : goal.loop-mirror-init
loop-mirror-init c = let b = c.requires.begun in (refl, refl, refl, refl, refl, b.fell, b.after _)

pub overflow_add-passes : goal.overflow_add-passes
unfolding game_of
overflow_add-passes c = let l : c.loop-mirror.passes ≤ pair_count c.args.game.now = c.loop-mirror.invariant.6.pass.few in
    omega (arith, l, few c.requires.well_formed)

pub round-requires : goal.round-requires
round-requires c = let i = c.loop-mirror.invariant in
    let fit = c.requires.rows_fit in record {
      edge_words_in_bounds = (c.requires.edge_rows.1, omega (arith, fit, i.4));
      rows_fit = (omega (arith, fit, i.0), omega (arith, fit, i.1), omega (arith, fit, i.2), omega (arith, fit, i.3));
    }

pub returns-then-round-eq0 : goal.returns-then-round-eq0
returns-then-round-eq0 c = let i = c.loop-mirror.invariant in
    after_last row_bits _ _ _ _ _ _ (has _) _ _ _ (has _) i.6 (c.round.ensures (game_of c.args.game.now) c.requires.edge_rows.0 i.5 i.6.mirrored) c.if-round-eq0.true

pub loop-mirror-smaller : goal.loop-mirror-smaller
unfolding game_of
loop-mirror-smaller c = let i = c.loop-mirror.invariant in
    let done = c.round.ensures (game_of c.args.game.now) c.requires.edge_rows.0 i.5 i.6.mirrored in
    let more = after_more row_bits _ _ _ _ _ _ (has _) _ _ _ (has _) i.6 done c.if-round-eq0.false in
    omega (arith, more.pass.few)

pub loop-mirror-preserved : goal.loop-mirror-preserved
loop-mirror-preserved c = let i = c.loop-mirror.invariant in
    let k = c.round.auto in
    let done = c.round.ensures (game_of c.args.game.now) c.requires.edge_rows.0 i.5 i.6.mirrored in (
      k.related ∙ i.0,
      k.lost ∙ i.1,
      k.falls ∙ i.2,
      k.next ∙ i.3,
      k.changed ∙ i.4,
      done.fell,
      after_more row_bits _ _ _ _ _ _ (has _) _ _ _ (has _) i.6 done c.if-round-eq0.false,
    )
