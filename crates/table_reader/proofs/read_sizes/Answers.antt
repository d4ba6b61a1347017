-- After each test that does not refuse, the rest of the table of refusals decides: `clean1` to `clean7`.
use mathlib.Core.Path.{◌≡◌, refl, sym, ap, ◌∙◌}
use mathlib.Core.Logic.{⊎_elim}
use mathlib.Core.Bool.{So, not, false}
use mathlib.Core.List.{List, [], ◌∷◌}
use Prim.Native.Nat.{ℕ, ◌≤◌, ◌<◌}
use native.Mathlib.Omega.{arith}
use borrow.Author.Tests.{lt-ltb, le-ltb, eq-eqb, ne_eqb}
use lib.Dec.{eqb, ltb}
use lib.ListN.{drop}
use Rattle.theory.specs.Logic.Bools.{◌or◌}
use Rattle.theory.proofs.Logic.BoolsLaws.{or_left, or_right}
use Rattle.table.specs.Limits.{vertex_limit}
use Rattle.table.specs.Table.{vertex_count, table_edges}
use Rattle.table.specs.Answers.{Answer, refused, judge}
use Rattle.table.specs.AnswersLaws.{judge_hit, judge_next}
use Rattle.table.specs.Reading.{game_rows_by, game_rows, sizes_answer}
use Rattle.table.specs.Flags.{Sized, EndsInside}
use Rattle.table.specs.FlagsLaws.{ends_inside}
use Rattle.table_reader.proofs.read_sizes.Goals as goal
use Rattle.table_reader.proofs.read_sizes.Lts as lts
use Rattle.table_reader.proofs.read_sizes.Reads as reads
use Rattle.table_reader.proofs.read_sizes.Tie as tie

-- what the rows after the first k say
abbrev rest : List ℕ → ℕ → Answer
rest g k = judge (drop k (game_rows g)) (vertex_count g ∷ table_edges g ∷ [])

-- what a search, with result x, finds and misses below e
finds : {x y e : ℕ} → x ≡ y → x < e → So (ltb y e)
finds {y} {e} q l = lt-ltb y e (omega arith)

misses : {x y e : ℕ} → x ≡ y → e ≤ x → ltb y e ≡ false
misses {y} {e} q l = le-ltb y e (omega arith)

abbrev game1 : lts.Else1 tie.the-claims reads.Pre reads.Post → List ℕ
game1 c = c.args.game.now

abbrev game2 : lts.Else3 tie.the-claims reads.Pre reads.Post → List ℕ
game2 c = game1 c.before.before.before.before

abbrev game3 : lts.Else4 tie.the-claims reads.Pre reads.Post → List ℕ
game3 c = game2 c.before

abbrev game4 : lts.Else5 tie.the-claims reads.Pre reads.Post → List ℕ
game4 c = game3 c.before

abbrev game5 : lts.Else6 tie.the-claims reads.Pre reads.Post → List ℕ
game5 c = game4 c.before.before

abbrev game6 : lts.Else7 tie.the-claims reads.Pre reads.Post → List ℕ
game6 c = game5 c.before.before

abbrev game7 : lts.Else8 tie.the-claims reads.Pre reads.Post → List ℕ
game7 c = game6 c.before.before

few : (c : lts.Else3 tie.the-claims reads.Pre reads.Post) → vertex_count (game2 c) ≤ vertex_limit
few c = c.if-n-gt-VERTICES.false

sized : (c : lts.Else5 tie.the-claims reads.Pre reads.Post) → Sized (game4 c) (vertex_count (game4 c)) (table_edges (game4 c))
sized c = record { vertices = refl; edges = refl; few_vertices = few c.before.before; few_edges = c.if-m-gt-EDGES.false; size = c.if-len-n.false }

ends : (c : lts.Else7 tie.the-claims reads.Pre reads.Post) → EndsInside (game6 c)
ends c = ends_inside (game6 c) (omega (arith, c.first_end-end.ensures, c.if-end-len.false, sized c.before.before.before.before))

clean1 : (c : lts.Else1 tie.the-claims reads.Pre reads.Post) → sizes_answer (game1 c) ≡ rest (game1 c) 1
unfolding sizes_answer game_rows_by
clean1 c = judge_next _ _ _ (le-ltb _ _ c.if-len-lt2.false)

clean2 : (c : lts.Else3 tie.the-claims reads.Pre reads.Post) → sizes_answer (game2 c) ≡ rest (game2 c) 2
unfolding game_rows_by ◌or◌
clean2 c = clean1 c.before.before.before.before ∙ judge_next _ _ _ (rw (ne_eqb (vertex_count (game2 c)) 0 c.if-n-eq0.false) (le-ltb _ _ c.if-n-gt-VERTICES.false))

clean3 : (c : lts.Else4 tie.the-claims reads.Pre reads.Post) → sizes_answer (game3 c) ≡ rest (game3 c) 3
unfolding game_rows_by
clean3 c = clean2 c.before ∙ judge_next _ _ _ (le-ltb _ _ c.if-m-gt-EDGES.false)

clean4 : (c : lts.Else5 tie.the-claims reads.Pre reads.Post) → sizes_answer (game4 c) ≡ rest (game4 c) 4
unfolding game_rows_by
clean4 c = clean3 c.before ∙ judge_next _ _ _ (ap not (eq-eqb _ _ c.if-len-n.false))

clean5 : (c : lts.Else6 tie.the-claims reads.Pre reads.Post) → sizes_answer (game5 c) ≡ rest (game5 c) 5
unfolding game_rows_by
clean5 c = clean4 c.before.before ∙ judge_next _ _ _ (misses c.first_owner-owner.ensures c.if-owner-n.false)

clean6 : (c : lts.Else7 tie.the-claims reads.Pre reads.Post) → sizes_answer (game6 c) ≡ rest (game6 c) 6
unfolding game_rows_by
clean6 c = clean5 c.before.before ∙ judge_next _ _ _ (misses c.first_end-end.ensures (rw (sized c.before.before.before.before).size at c.if-end-len.false))

clean7 : (c : lts.Else8 tie.the-claims reads.Pre reads.Post) → sizes_answer (game7 c) ≡ rest (game7 c) 7
unfolding game_rows_by
clean7 c = clean6 c.before.before ∙ judge_next _ _ _ (misses c.first_lacking-lacking.ensures c.if-lacking-n.false)

pub returns-then-len-lt2 : goal.returns-then-len-lt2
unfolding sizes_answer game_rows_by
returns-then-len-lt2 c = rw c.refused.ensures (sym (judge_hit _ _ _ (lt-ltb _ _ c.if-len-lt2.true)))

pub overflow_cast-n : goal.overflow_cast-n
overflow_cast-n c = omega (arith, c.shared_slice_known-2-1.given 0)

pub overflow_cast-m : goal.overflow_cast-m
overflow_cast-m c = omega (arith, c.shared_slice_known-3-1.given 1)

bad_count : (c : lts.Joined2 tie.the-claims reads.Pre reads.Post) → So (eqb (vertex_count (game1 c.before.before.before)) 0 or ltb vertex_limit (vertex_count (game1 c.before.before.before)))
bad_count c = ⊎_elim (λ w. or_left _ (eq-eqb _ _ w)) (λ w. or_right _ (lt-ltb _ _ w.1)) c.then-n-eq0.either

pub returns-then-n-eq0 : goal.returns-then-n-eq0
unfolding game_rows_by
returns-then-n-eq0 c = rw c.refused-then-n-eq0.ensures (sym (clean1 c.before.before.before.before.before ∙ judge_hit _ _ _ (bad_count c.before.before)))

pub returns-then-m-gt-EDGES : goal.returns-then-m-gt-EDGES
unfolding game_rows_by
returns-then-m-gt-EDGES c = rw c.refused-then-m-gt-EDGES.ensures (sym (clean2 c.before.before.before ∙ judge_hit _ _ _ (lt-ltb _ _ c.if-m-gt-EDGES.true)))

pub overflow_mul-n : goal.overflow_mul-n
overflow_mul-n c = omega (arith, few c.before.before)

pub overflow_add-n : goal.overflow_add-n
overflow_add-n c = omega (arith, few c.before.before)

pub overflow_add-n-2 : goal.overflow_add-n-2
overflow_add-n-2 c = omega (arith, few c.before.before)

pub returns-then-len-n : goal.returns-then-len-n
unfolding game_rows_by
returns-then-len-n c = rw c.refused-then-len-n.ensures (sym (clean3 c.before.before.before ∙ judge_hit _ _ _ (ap not (ne_eqb _ _ c.if-len-n.true))))

pub first_owner-owner-requires : goal.first_owner-owner-requires
first_owner-owner-requires c = let s = sized c.before in (refl, s.few_vertices, omega arith)

pub overflow_mul-n-2 : goal.overflow_mul-n-2
overflow_mul-n-2 c = omega (arith, sized c.before.before)

pub overflow_add-n-3 : goal.overflow_add-n-3
overflow_add-n-3 c = omega (arith, sized c.before.before)

pub returns-then-owner-n : goal.returns-then-owner-n
unfolding game_rows_by
returns-then-owner-n c = let e = c.first_owner-owner.ensures in
    rw c.refused-then-owner-n.ensures (ap (refused 5) e ∙ sym (clean4 c.before.before.before.before ∙ judge_hit _ _ _ (finds e c.if-owner-n.true)))

pub first_end-end-requires : goal.first_end-end-requires
first_end-end-requires c = sized c.before.before.before

pub returns-then-end-len : goal.returns-then-end-len
unfolding game_rows_by
returns-then-end-len c = let e = c.first_end-end.ensures in
    let z = sized c.before.before.before.before.before.before in
    rw c.refused-then-end-len.ensures (ap (refused 6) e ∙ sym (clean5 c.before.before.before.before ∙ judge_hit _ _ _ (finds e (rw z.size at c.if-end-len.true))))

pub first_lacking-lacking-requires : goal.first_lacking-lacking-requires
first_lacking-lacking-requires c = (sized c.before.before.before.before.before, ends c.before)

pub returns-then-lacking-n : goal.returns-then-lacking-n
unfolding game_rows_by
returns-then-lacking-n c = let e = c.first_lacking-lacking.ensures in
    rw c.refused-then-lacking-n.ensures (ap (refused 8) e ∙ sym (clean6 c.before.before.before.before ∙ judge_hit _ _ _ (finds e c.if-lacking-n.true)))

pub returns : goal.returns
unfolding game_rows_by judge
returns c = sym (clean7 c.before)
