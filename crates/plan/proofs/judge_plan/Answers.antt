-- Each row is looked at in order; past 12 the plan is well sized, past 13 well formed.
use native.Mathlib.Omega.{arith}
use mathlib.Core.Path.{◌≡◌, sym, ◌∙◌}
use mathlib.Core.List.{List, []}
use lib.ListN.{length, drop}
use borrow.Author.Tests.{lt-ltb, le-ltb}
use mathlib.Core.Bool.{false}
use Prim.Native.Nat.{ℕ, ◌≤◌, ◌<◌}
use Rattle.table.specs.Table.{vertex_count}
use Rattle.table.specs.Answers.{judge}
use Rattle.table.specs.AnswersLaws.{judge_hit, judge_next}
use Rattle.plan_links.specs.PlanTable.{position_count, link_count, plan_length}
use Rattle.plan_links.specs.Refusals.{bad_size, first_beyond}
use Rattle.plan.specs.Acceptance.{plan_rows}
use Rattle.plan_links.specs.PlanFormed.{PlanFormed}
use Rattle.plan_links.specs.PlanFormedLaws.{size_good, words_good}
use Rattle.plan.proofs.judge_plan.Goals as goal

module _ (game : List ℕ) (player : ℕ) (plan : List ℕ) (number : player ≤ 1) (size : bad_size plan ≡ false) where
  past_size : judge (plan_rows game player plan) [] ≡ judge (drop 2 (plan_rows game player plan)) []
  unfolding plan_rows
  past_size = judge_next _ _ _ (le-ltb _ _ number) ∙ judge_next _ _ _ size

  no_beyond : length plan ≤ first_beyond (vertex_count game) plan → plan_length (position_count plan) (link_count plan) ≤ first_beyond (vertex_count game) plan
  no_beyond h = omega (arith, h, (size_good _ size).size)

  formed : length plan ≤ first_beyond (vertex_count game) plan → PlanFormed (vertex_count game) plan
  formed h = words_good _ _ (size_good _ size) (no_beyond h)

  past_words : length plan ≤ first_beyond (vertex_count game) plan → judge (plan_rows game player plan) [] ≡ judge (drop 3 (plan_rows game player plan)) []
  unfolding plan_rows
  past_words h = past_size ∙ judge_next _ _ _ (le-ltb _ _ (no_beyond h))

pub returns-then-player-gt1 : goal.returns-then-player-gt1
unfolding plan_rows
returns-then-player-gt1 c = rw c.refused.ensures (sym (judge_hit _ _ _ (lt-ltb _ _ c.if-player-gt1.true)))

pub returns-then-bad_size : goal.returns-then-bad_size
unfolding plan_rows
returns-then-bad_size c = rw c.refused-then-bad_size.ensures
    (sym (judge_next _ _ _ (le-ltb _ _ c.if-player-gt1.false) ∙ judge_hit _ _ _ (sym c.bad_size.ensures ∙ c.if-bad_size.true)))

pub first_beyond-beyond-requires : goal.first_beyond-beyond-requires
first_beyond-beyond-requires c = size_good _ (sym c.bad_size.ensures ∙ c.if-bad_size.false)

pub returns-then-beyond-plan : goal.returns-then-beyond-plan
unfolding plan_rows
returns-then-beyond-plan c =
    let a = c.args in
    let h = c.first_beyond-beyond.ensures in
    let size = sym c.bad_size.ensures ∙ c.if-bad_size.false in
    let t : first_beyond (vertex_count a.game.now) a.plan.now < plan_length (position_count a.plan.now) (link_count a.plan.now) = omega (arith, c.if-beyond-plan.true, h, (size_good _ size).size) in
    rw (c.refused-then-beyond-plan.ensures, h) (sym (past_size a.game.now a.player a.plan.now c.if-player-gt1.false size ∙ judge_hit _ _ _ (lt-ltb _ _ t)))

pub bounds-plan-1 : goal.bounds-plan-1
bounds-plan-1 c = let s = size_good _ (sym c.bad_size.ensures ∙ c.if-bad_size.false) in omega (arith, s.size, s.some)

pub overflow_cast-l : goal.overflow_cast-l
overflow_cast-l c = omega (arith, (size_good _ (sym c.bad_size.ensures ∙ c.if-bad_size.false)).links)

pub first_stray-stray-requires : goal.first_stray-stray-requires
first_stray-stray-requires c =
    let a = c.args in
    (c.requires, formed a.game.now a.player a.plan.now c.if-player-gt1.false (sym c.bad_size.ensures ∙ c.if-bad_size.false) (rw c.first_beyond-beyond.ensures at c.if-beyond-plan.false))

pub returns-then-stray-l : goal.returns-then-stray-l
unfolding plan_rows
returns-then-stray-l c =
    let a = c.args in
    let h = c.first_stray-stray.ensures in
    rw (c.refused-then-stray-l.ensures, h)
    (sym (past_words a.game.now a.player a.plan.now c.if-player-gt1.false (sym c.bad_size.ensures ∙ c.if-bad_size.false) (rw c.first_beyond-beyond.ensures at c.if-beyond-plan.false)
    ∙ judge_hit _ _ _ (lt-ltb _ _ (rw h at c.if-stray-l.true))))

pub judge_positions-requires : goal.judge_positions-requires
judge_positions-requires c =
    let a = c.args in
    record {
      game = c.requires;
      number = c.if-player-gt1.false;
      formed = formed a.game.now a.player a.plan.now c.if-player-gt1.false (sym c.bad_size.ensures ∙ c.if-bad_size.false) (rw c.first_beyond-beyond.ensures at c.if-beyond-plan.false);
    }

pub returns : goal.returns
unfolding plan_rows
returns c =
    let a = c.args in
    c.judge_positions.ensures
    ∙ sym (past_words a.game.now a.player a.plan.now c.if-player-gt1.false (sym c.bad_size.ensures ∙ c.if-bad_size.false) (rw c.first_beyond-beyond.ensures at c.if-beyond-plan.false)
    ∙ judge_next _ _ _ (le-ltb _ _ (rw c.first_stray-stray.ensures at c.if-stray-l.false)))
