-- Each way out is a row of the acceptor's table of refusals, or none of them.
use native.Mathlib.Omega.{arith}
use native.Mathlib.Nat.{mul-le-mul}
use mathlib.Core.Path.{◌≡◌, sym, ap, ◌∙◌}
use mathlib.Core.Bool.{false}
use mathlib.Core.List.{List}
use Prim.Native.Nat.{ℕ, ◌+◌, ◌*◌, ◌≤◌}
use lib.ListN.{length}
use Rattle.table.specs.Limits.{pair_limit}
use Rattle.table.specs.Table.{vertex_count, pair_count}
use Rattle.marks.specs.Marks.{marks_length, has_unused}
use Rattle.order_acceptor.specs.RelationCall.{pair_by, first_failing}
use Rattle.order_acceptor.specs.RelationCallLaws.{first_failing_le, relation_short, relation_unused, relation_fails, relation_passes}
use Rattle.order_acceptor.proofs.judge_marks.Goals as goal
use Rattle.order_acceptor.proofs.judge_marks.Lts as lts
use Rattle.order_acceptor.proofs.judge_marks.Reads as reads
use Rattle.order_acceptor.proofs.judge_marks.Tie as tie

abbrev game : lts.Start tie.the-claims reads.Pre reads.Post tie.handed_clauses → List ℕ
game s = s.args.game.now

abbrev marks : lts.Start tie.the-claims reads.Pre reads.Post tie.handed_clauses → List ℕ
marks s = s.args.marks.now

pairs_are : (s : lts.Start tie.the-claims reads.Pre reads.Post tie.handed_clauses) → s.args.n * s.args.n ≡ pair_count (game s)
pairs_are s = ap (λ (k : ℕ). k * k) s.requires.1

few : (s : lts.Start tie.the-claims reads.Pre reads.Post tie.handed_clauses) → pair_count (game s) ≤ pair_limit
few s = let w = s.requires.0.vertices in omega (arith, mul-le-mul w w)

needed : (c : lts.After-length_for tie.the-claims reads.Pre reads.Post tie.handed_clauses) → c.length_for-needed.result ≡ marks_length (vertex_count (game c.before.before.before))
needed c = c.length_for-needed.ensures ∙ ap marks_length c.requires.1

fit : (c : lts.Else1 tie.the-claims reads.Pre reads.Post tie.handed_clauses) → marks_length (vertex_count (game c.before.before.before.before)) ≤ length (marks c.before.before.before.before)
fit c = rw (needed c.before) at c.if-marks-needed.false

unused : (c : lts.After-has_unused tie.the-claims reads.Pre reads.Post tie.handed_clauses) → c.has_unused.result ≡ has_unused (marks c.before.before.before.before.before) (pair_count (game c.before.before.before.before.before))
unused c = rw (pairs_are c.before.before.before.before.before) at c.has_unused.ensures

clear : (c : lts.Else2 tie.the-claims reads.Pre reads.Post tie.handed_clauses) → has_unused (marks c.before.before.before.before.before.before) (pair_count (game c.before.before.before.before.before.before)) ≡ false
clear c = sym (unused c.before) ∙ c.if-has_unused.false

place : (c : lts.After-failing_pair tie.the-claims reads.Pre reads.Post tie.handed_clauses)
    → c.failing_pair-failing.result.v * c.args.n + c.failing_pair-failing.result.w ≡ first_failing (pair_by c.args.mirror) (game c.before.before.before.before.before.before.before) (marks c.before.before.before.before.before.before.before)
place c =
    let f = c.failing_pair-failing in
    ap (λ (k : ℕ). f.result.v * k + f.result.w) c.requires.1 ∙ f.ensures

limit : (c : lts.After-failing_pair tie.the-claims reads.Pre reads.Post tie.handed_clauses) → first_failing (pair_by c.args.mirror) (game c.before.before.before.before.before.before.before) (marks c.before.before.before.before.before.before.before) ≤ pair_limit
limit c = omega (arith, first_failing_le (pair_by c.args.mirror) (game c.before.before.before.before.before.before.before) (marks c.before.before.before.before.before.before.before), few c.before.before.before.before.before.before.before)

pub length_for-needed-requires : goal.length_for-needed-requires
length_for-needed-requires c = let p = c.requires in omega (arith, p.1, p.0.vertices)

pub returns-then-marks-needed : goal.returns-then-marks-needed
returns-then-marks-needed c = rw (c.refused.ensures, needed c.before.before.before) (relation_short _ _ _ c.requires.0 (rw (needed c.before.before.before) at c.if-marks-needed.true))

pub overflow_mul-pairs : goal.overflow_mul-pairs
overflow_mul-pairs c = omega (arith, pairs_are c.before.before.before.before.before, few c.before.before.before.before.before)

pub has_unused-requires : goal.has_unused-requires
has_unused-requires c = omega (arith, pairs_are c.before.before.before.before.before, fit c.before)

-- there is a byte
pub overflow_sub-needed : goal.overflow_sub-needed
overflow_sub-needed c = let p = c.requires.0.some in omega (arith, needed c.before.before.before.before, mul-le-mul p p)

pub returns-then-has_unused : goal.returns-then-has_unused
returns-then-has_unused c = rw (c.refused-then-has_unused.ensures, needed c.before.before.before.before.before) (relation_unused _ _ _ c.requires.0 (fit c.before.before.before.before) (sym (unused c.before.before.before) ∙ c.if-has_unused.true))

pub failing_pair-failing-requires : goal.failing_pair-failing-requires
failing_pair-failing-requires c = record { well_formed = c.requires.0; game_in_bounds = fit c.before.before.before }

pub overflow_mul-place : goal.overflow_mul-place
overflow_mul-place c = omega (arith, place c.before.before, limit c.before.before)

pub overflow_add-place : goal.overflow_add-place
overflow_add-place c = omega (arith, place c.before.before.before, limit c.before.before.before)

pub returns-then-place-pairs : goal.returns-then-place-pairs
returns-then-place-pairs c = rw (c.refused-then-place-pairs.ensures, place c.before.before.before.before.before)
    (relation_fails _ _ _ c.requires.0 (fit c.before.before.before.before.before.before.before.before) (clear c.before.before.before.before.before.before) (rw (place c.before.before.before.before.before, pairs_are c.before.before.before.before.before.before.before.before.before.before.before.before) at c.if-place-pairs.true))

pub returns : goal.returns
returns c = relation_passes _ _ _ c.requires.0 (fit c.before.before.before.before.before.before.before) (clear c.before.before.before.before.before) (rw (place c.before.before.before.before, pairs_are c.before.before.before.before.before.before.before.before.before.before.before) at c.if-place-pairs.false)
