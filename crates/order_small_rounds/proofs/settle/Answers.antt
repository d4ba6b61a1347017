-- The rows are the relation after pass `passes` and what that pass took out. A round that takes a pair out is the next pass;
-- there are at most as many such passes as pairs, which gives the measure. A round that takes nothing out is the last pass.
use mathlib.Core.Path.{refl, ◌∙◌}
use Prim.Native.Nat.{◌+◌, ◌≤◌}
use native.Mathlib.Nat.{mul-le-mul}
use native.Mathlib.Omega.{arith}
use Rattle.theory.specs.Order.Rows.{AfterRound}
use Rattle.table.specs.Limits.{pair_limit}
use Rattle.table.specs.Table.{pair_count, game_of}
use Rattle.words.specs.Word.{word_bits, digit}
use Rattle.order_sets.specs.Sets.{struck}
use Rattle.order_sets.specs.Rounds.{RoundIn}
use Rattle.order_sets.specs.RoundsLaws.{after_more, after_last}
use Rattle.order_small_losses.specs.Words.{bit}
use Rattle.order_small_rounds.proofs.settle.Goals as goal
use Rattle.order_small_rounds.proofs.settle.Lts as lts
use Rattle.order_small_rounds.proofs.settle.Reads as reads
use Rattle.order_small_rounds.proofs.settle.Tie as tie

-- no more passes than pairs
few : (c : lts.At-loop tie.the-claims reads.Pre reads.Post goal.the-invariant-loop-taken goal.the-decreases-loop-taken tie.handed_clauses) → let g = c.args.game.now in (c.loop-taken.passes ≤ pair_count g) × (pair_count g ≤ pair_limit)
unfolding game_of
few c = let well = c.requires.well_formed.0 in (c.loop-taken.invariant.5.pass.few, mul-le-mul well.vertices well.vertices)

-- what the round did to the rows of the game
done : (c : lts.After-round tie.the-claims reads.Pre reads.Post goal.the-invariant-loop-taken goal.the-decreases-loop-taken tie.handed_clauses) → RoundIn word_bits c.args.mirror (game_of c.args.game.now) (bit c.loop-taken.related) (bit c.loop-taken.lost) (digit c.loop-taken.changed)
    c.round-taken.result.cleared (bit c.round-taken.new.related) (bit c.round-taken.new.lost) (bit c.round-taken.new.falls) (digit c.round-taken.result.changed)
done c = c.round-taken.ensures (game_of c.args.game.now) c.requires.well_formed.2 c.loop-taken.invariant.4 c.loop-taken.invariant.5.mirrored

pub loop-taken-init : goal.loop-taken-init
loop-taken-init c = let b = c.requires.begun_in in (refl, refl, refl, refl, b.fell, b.after _)

pub overflow_add-passes : goal.overflow_add-passes
overflow_add-passes c = omega (arith, few c.before)

pub round-taken-requires : goal.round-taken-requires
round-taken-requires c = let i = c.loop-taken.invariant in
    let fit = c.requires.words_fit in
    (c.requires.well_formed.1, (omega (arith, fit.0, i.0), omega (arith, fit.1, i.1), omega (arith, fit.2, i.2), omega (arith, fit.3, i.3)))

pub returns-then-taken-eq0 : goal.returns-then-taken-eq0
returns-then-taken-eq0 c = after_last word_bits _ _ _ _ _ _ _ _ _ _ _ c.loop-taken.invariant.5 (done c.before.before.before.before.before.before.before.before.before.before.before) c.if-taken-eq0.true

-- one pass more
more : (c : lts.Else1 tie.the-claims reads.Pre reads.Post goal.the-invariant-loop-taken goal.the-decreases-loop-taken tie.handed_clauses) → AfterRound c.args.mirror (game_of c.args.game.now) (c.loop-taken.passes + 1) (bit c.round-taken.new.related)
    (struck (digit c.round-taken.result.changed) (bit c.round-taken.new.lost))
more c = after_more word_bits _ _ _ _ _ _ _ _ _ _ _ c.loop-taken.invariant.5 (done c.before.before.before.before.before.before.before.before.before.before) c.if-taken-eq0.false

pub loop-taken-smaller : goal.loop-taken-smaller
unfolding game_of
loop-taken-smaller c = omega (arith, (more c.before).pass.few)

pub loop-taken-preserved : goal.loop-taken-preserved
loop-taken-preserved c = let i = c.loop-taken.invariant in
    let k = c.round-taken.auto in (k.related ∙ i.0, k.lost ∙ i.1, k.falls ∙ i.2, k.next ∙ i.3, (done c.before.before.before.before.before.before.before.before.before.before.before).fell, more c.before)
