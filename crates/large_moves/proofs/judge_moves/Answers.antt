-- After each test that does not refuse, the rest of the table of refusals decides.
use mathlib.Core.Path.{◌≡◌, sym, ap, ◌∙◌}
use mathlib.Core.Bool.{So, not, false}
use mathlib.Core.List.{[]}
use Prim.Native.Nat.{ℕ, ◌≤◌, ◌<◌}
use native.Mathlib.Omega.{arith}
use borrow.Author.Tests.{lt-ltb, le-ltb, eq-eqb, ne_eqb}
use lib.Dec.{ltb}
use lib.ListN.{drop}
use Rattle.table.specs.Answers.{Answer, refused, judge}
use Rattle.table.specs.AnswersLaws.{judge_hit, judge_next}
use Rattle.large_moves.specs.Moves.{first_winner, first_stray, first_leaving, move_rows}
use Rattle.large_moves.proofs.judge_moves.Reads as reads
use Rattle.large_moves.proofs.judge_moves.Lts as lts
use Rattle.large_moves.proofs.judge_moves.Goals as goal
use Rattle.large_moves.proofs.judge_moves.Lts as lts
use Rattle.large_moves.proofs.judge_moves.Reads as reads
use Rattle.large_moves.proofs.judge_moves.Tie as tie

-- what the rows after the first k say
abbrev rest : lts.Start tie.the-claims reads.Pre reads.Post → ℕ → Answer
rest s k = judge (drop k (move_rows s.args.game.now s.args.solution.now)) []

-- what a search, with result x, finds and misses below e
finds : {x y e : ℕ} → x ≡ y → x < e → So (ltb y e)
finds {y} {e} q l = lt-ltb y e (omega arith)

misses : {x y e : ℕ} → x ≡ y → e ≤ x → ltb y e ≡ false
misses {y} {e} q l = le-ltb y e (omega arith)

clean1 : (c : lts.Else1 tie.the-claims reads.Pre reads.Post) → rest c.before.before.before.before.before 0 ≡ rest c.before.before.before.before.before 1
unfolding move_rows
clean1 c = judge_next _ _ _ (ap not (eq-eqb _ _ c.if-solution-n.false))

clean2 : (c : lts.Else2 tie.the-claims reads.Pre reads.Post) → rest c.before.before.before.before.before.before.before 0 ≡ rest c.before.before.before.before.before.before.before 2
unfolding move_rows first_winner
clean2 c = clean1 c.before.before ∙ judge_next _ _ _ (misses c.first_at_least-winner.ensures c.if-winner-n.false)

clean3 : (c : lts.Else3 tie.the-claims reads.Pre reads.Post) → rest c.before.before.before.before.before.before.before.before.before 0 ≡ rest c.before.before.before.before.before.before.before.before.before 3
unfolding move_rows first_stray
clean3 c = clean2 c.before.before ∙ judge_next _ _ _ (misses c.first_stray-stray.ensures c.if-stray-n.false)

clean4 : (c : lts.Else4 tie.the-claims reads.Pre reads.Post) → rest c.before.before.before.before.before.before.before.before.before.before.before 0 ≡ rest c.before.before.before.before.before.before.before.before.before.before.before 4
unfolding move_rows first_leaving
clean4 c = clean3 c.before.before ∙ judge_next _ _ _ (misses c.first_leaving-leaving.ensures c.if-leaving-m.false)

pub returns-then-solution-n : goal.returns-then-solution-n
unfolding move_rows
returns-then-solution-n c = rw c.refused.ensures (sym (judge_hit _ _ _ (ap not (ne_eqb _ _ c.if-solution-n.true))))

pub returns-then-winner-n : goal.returns-then-winner-n
unfolding move_rows first_winner
returns-then-winner-n c = let e = c.first_at_least-winner.ensures in
    rw c.refused-then-winner-n.ensures (ap (refused 82) e ∙ sym (clean1 c.before.before.before.before ∙ judge_hit _ _ _ (finds e c.if-winner-n.true)))

pub returns-then-stray-n : goal.returns-then-stray-n
unfolding move_rows first_stray
returns-then-stray-n c = let e = c.first_stray-stray.ensures in
    rw c.refused-then-stray-n.ensures (ap (refused 83) e ∙ sym (clean2 c.before.before.before.before ∙ judge_hit _ _ _ (finds e c.if-stray-n.true)))

pub returns-then-leaving-m : goal.returns-then-leaving-m
unfolding move_rows first_leaving
returns-then-leaving-m c = let e = c.first_leaving-leaving.ensures in
    rw c.refused-then-leaving-m.ensures (ap (refused 84) e ∙ sym (clean3 c.before.before.before.before ∙ judge_hit _ _ _ (finds e c.if-leaving-m.true)))

pub returns : goal.returns
unfolding move_rows judge
returns c = sym (clean4 c.before)
