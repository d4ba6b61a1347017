-- After each test that does not refuse, the rest of the table of refusals decides.
use mathlib.Core.Path.{◌≡◌, sym, ap, ◌∙◌}
use mathlib.Core.Bool.{So, not, false}
use mathlib.Core.List.{[]}
use Prim.Native.Nat.{ℕ, ◌≤◌, ◌<◌}
use native.Mathlib.Omega.{arith}
use borrow.Author.Tests.{lt-ltb, le-ltb, eq-eqb, ne_eqb}
use lib.Dec.{ltb}
use lib.ListN.{drop}
use Rattle.table.specs.Table.{vertex_count}
use Rattle.table.specs.Answers.{Answer, refused, judge}
use Rattle.table.specs.AnswersLaws.{judge_hit, judge_next}
use Rattle.large_solution.specs.Places.{Placed, from_last, first_beyond, first_misplaced, first_bad_run, first_climb, place_rows}
use Rattle.large_solution.proofs.PlacesLaws.{placed_by}
use Rattle.large_solution.proofs.judge_places.Reads as reads
use Rattle.large_solution.proofs.judge_places.Lts as lts
use Rattle.large_solution.proofs.judge_places.Goals as goal
use Rattle.large_solution.proofs.judge_places.Lts as lts
use Rattle.large_solution.proofs.judge_places.Reads as reads
use Rattle.large_solution.proofs.judge_places.Tie as tie

-- what the rows after the first k say
abbrev rest : lts.Start tie.the-claims reads.Pre reads.Post → ℕ → Answer
rest s k = judge (drop k (place_rows s.args.game.now s.args.solution.now s.args.certificate.now)) []

-- what a search, with result x, finds and misses below e
finds : {x y e : ℕ} → x ≡ y → x < e → So (ltb y e)
finds {y} {e} q l = lt-ltb y e (omega arith)

misses : {x y e : ℕ} → x ≡ y → e ≤ x → ltb y e ≡ false
misses {y} {e} q l = le-ltb y e (omega arith)

clean1 : (c : lts.Else1 tie.the-claims reads.Pre reads.Post) → rest c.before.before.before.before.before.before 0 ≡ rest c.before.before.before.before.before.before 1
unfolding place_rows
clean1 c = judge_next _ _ _ (ap not (eq-eqb _ _ c.if-certificate-n.false))

clean2 : (c : lts.Else2 tie.the-claims reads.Pre reads.Post) → rest c.before.before.before.before.before.before.before.before 0 ≡ rest c.before.before.before.before.before.before.before.before 2
unfolding place_rows first_beyond
clean2 c = clean1 c.before.before ∙ judge_next _ _ _ (misses c.first_at_least-beyond.ensures c.if-beyond-n.false)

clean3 : (c : lts.Else3 tie.the-claims reads.Pre reads.Post) → rest c.before.before.before.before.before.before.before.before.before.before 0 ≡ rest c.before.before.before.before.before.before.before.before.before.before 3
unfolding place_rows first_misplaced
clean3 c = clean2 c.before.before ∙ judge_next _ _ _ (misses c.first_misplaced-misplaced.ensures c.if-misplaced-n.false)

clean4 : (c : lts.Else4 tie.the-claims reads.Pre reads.Post) → rest c.before.before.before.before.before.before.before.before.before.before.before.before 0 ≡ rest c.before.before.before.before.before.before.before.before.before.before.before.before 4
unfolding place_rows first_bad_run
clean4 c = clean3 c.before.before ∙ judge_next _ _ _ (misses c.first_bad_run-run.ensures c.if-run-n.false)

clean5 : (c : lts.Else5 tie.the-claims reads.Pre reads.Post) → rest c.before.before.before.before.before.before.before.before.before.before.before.before.before.before 0 ≡ rest c.before.before.before.before.before.before.before.before.before.before.before.before.before.before 5
unfolding place_rows first_climb
clean5 c = clean4 c.before.before ∙ judge_next _ _ _ (misses c.first_climb-climbs.ensures c.if-climbs-m.false)

placed : (c : lts.Else2 tie.the-claims reads.Pre reads.Post) → Placed c.args.certificate.now (vertex_count c.args.game.now)
placed c = placed_by _ _ c.if-certificate-n.false (misses c.first_at_least-beyond.ensures c.if-beyond-n.false)

pub returns-then-certificate-n : goal.returns-then-certificate-n
unfolding place_rows
returns-then-certificate-n c = rw c.refused.ensures (sym (judge_hit _ _ _ (ap not (ne_eqb _ _ c.if-certificate-n.true))))

pub returns-then-beyond-n : goal.returns-then-beyond-n
unfolding place_rows first_beyond
returns-then-beyond-n c = let e = c.first_at_least-beyond.ensures in
    rw c.refused-then-beyond-n.ensures (ap (refused 86) e ∙ sym (clean1 c.before.before.before.before ∙ judge_hit _ _ _ (finds e c.if-beyond-n.true)))

pub first_misplaced-misplaced-requires : goal.first_misplaced-misplaced-requires
first_misplaced-misplaced-requires c = placed c.before

pub returns-then-misplaced-n : goal.returns-then-misplaced-n
unfolding place_rows first_misplaced
returns-then-misplaced-n c = let e = c.first_misplaced-misplaced.ensures in
    rw c.refused-then-misplaced-n.ensures (ap (refused 87) e ∙ sym (clean2 c.before.before.before.before ∙ judge_hit _ _ _ (finds e c.if-misplaced-n.true)))

pub first_bad_run-run-requires : goal.first_bad_run-run-requires
first_bad_run-run-requires c = (c.requires, placed c.before.before.before)

pub returns-then-run-n : goal.returns-then-run-n
unfolding place_rows first_bad_run
returns-then-run-n c = let e = c.first_bad_run-run.ensures in
    let n = vertex_count c.args.game.now in
    rw c.refused-then-run-n.ensures
    (ap (λ (x : ℕ). refused 88 (from_last n x)) e ∙ sym (clean3 c.before.before.before.before ∙ judge_hit _ _ _ (finds e c.if-run-n.true)))

pub first_climb-climbs-requires : goal.first_climb-climbs-requires
first_climb-climbs-requires c = (c.requires, placed c.before.before.before.before.before)

pub returns-then-climbs-m : goal.returns-then-climbs-m
unfolding place_rows first_climb
returns-then-climbs-m c = let e = c.first_climb-climbs.ensures in
    rw c.refused-then-climbs-m.ensures (ap (refused 89) e ∙ sym (clean4 c.before.before.before.before ∙ judge_hit _ _ _ (finds e c.if-climbs-m.true)))

pub returns : goal.returns
unfolding place_rows judge
returns c = sym (clean5 c.before)
