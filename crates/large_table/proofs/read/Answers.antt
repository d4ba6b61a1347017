-- After each test that does not refuse, the rest of the table of refusals decides: `clean1` to `clean5`.
use mathlib.Core.Path.{◌≡◌, sym, ap, ◌∙◌}
use mathlib.Core.Bool.{not}
use mathlib.Core.List.{List, [], ◌∷◌}
use Prim.Native.Nat.{ℕ}
use borrow.Author.Tests.{lt-ltb, le-ltb, eq-eqb, ne_eqb}
use lib.ListN.{drop, length}
use Rattle.table.specs.Table.{vertex_count, table_edges, table_length}
use Rattle.table.specs.Answers.{Answer, refused, judge}
use Rattle.table.specs.AnswersLaws.{judge_hit, judge_next}
use Rattle.table.specs.Reading.{first_owner, first_end}
use Rattle.large_table.specs.Reading.{large_rows, large_answer}
use Rattle.large_table.proofs.read.Goals as goal
use Rattle.large_table.proofs.read.Lts as lts
use Rattle.large_table.proofs.read.Reads as reads
use Rattle.large_table.proofs.read.Tie as tie

-- what the rows after the first k say
abbrev rest : List ℕ → ℕ → Answer
rest g k = judge (drop k (large_rows g)) (vertex_count g ∷ table_edges g ∷ [])

abbrev game1 : lts.Else1 tie.the-claims reads.Pre reads.Post → List ℕ
game1 c = c.args.game.now

abbrev game2 : lts.Else2 tie.the-claims reads.Pre reads.Post → List ℕ
game2 c = game1 c.before.before.before

abbrev game3 : lts.Else3 tie.the-claims reads.Pre reads.Post → List ℕ
game3 c = game2 c.before

abbrev game4 : lts.Else4 tie.the-claims reads.Pre reads.Post → List ℕ
game4 c = game3 c.before.before

abbrev game5 : lts.Else5 tie.the-claims reads.Pre reads.Post → List ℕ
game5 c = game4 c.before.before

size : (c : lts.Else3 tie.the-claims reads.Pre reads.Post) → length (game3 c) ≡ table_length (vertex_count (game3 c)) (table_edges (game3 c))
size c = c.if-len-n.false

owner_is : (c : lts.After-first_at_least tie.the-claims reads.Pre reads.Post) → c.first_at_least-owner.result ≡ first_owner (game3 c.before)
unfolding first_owner
owner_is c = c.first_at_least-owner.ensures

end_is : (c : lts.After-first_at_least2 tie.the-claims reads.Pre reads.Post) → c.first_at_least-end.result ≡ first_end (game4 c.before)
unfolding first_end
end_is c = rw (← size c.before.before.before) c.first_at_least-end.ensures

clean1 : (c : lts.Else1 tie.the-claims reads.Pre reads.Post) → large_answer (game1 c) ≡ rest (game1 c) 1
unfolding large_answer large_rows
clean1 c = judge_next _ _ _ (le-ltb _ _ c.if-len-lt2.false)

clean2 : (c : lts.Else2 tie.the-claims reads.Pre reads.Post) → large_answer (game2 c) ≡ rest (game2 c) 2
unfolding large_rows
clean2 c = clean1 c.before.before.before ∙ judge_next _ _ _ (ne_eqb (vertex_count (game2 c)) 0 c.if-n-eq0.false)

clean3 : (c : lts.Else3 tie.the-claims reads.Pre reads.Post) → large_answer (game3 c) ≡ rest (game3 c) 3
unfolding large_rows
clean3 c = clean2 c.before ∙ judge_next _ _ _ (ap not (eq-eqb _ _ c.if-len-n.false))

clean4 : (c : lts.Else4 tie.the-claims reads.Pre reads.Post) → large_answer (game4 c) ≡ rest (game4 c) 4
unfolding large_rows
clean4 c = clean3 c.before.before ∙ judge_next _ _ _ (le-ltb _ _ (rw (owner_is c.before) at c.if-owner-n.false))

clean5 : (c : lts.Else5 tie.the-claims reads.Pre reads.Post) → large_answer (game5 c) ≡ rest (game5 c) 5
unfolding large_rows
clean5 c = clean4 c.before.before ∙ judge_next _ _ _ (le-ltb _ _ (rw (end_is c.before, size c.before.before.before.before) at c.if-end-len.false))

pub returns-then-len-lt2 : goal.returns-then-len-lt2
unfolding large_answer large_rows
returns-then-len-lt2 c = rw c.refused.ensures (sym (judge_hit _ _ _ (lt-ltb _ _ c.if-len-lt2.true)))

pub returns-then-n-eq0 : goal.returns-then-n-eq0
unfolding large_rows
returns-then-n-eq0 c = rw c.refused-then-n-eq0.ensures (sym (clean1 c.before.before.before.before.before ∙ judge_hit _ _ _ (eq-eqb _ _ c.if-n-eq0.true)))

pub returns-then-len-n : goal.returns-then-len-n
unfolding large_rows
returns-then-len-n c = rw c.refused-then-len-n.ensures (sym (clean2 c.before.before.before ∙ judge_hit _ _ _ (ap not (ne_eqb _ _ c.if-len-n.true))))

pub returns-then-owner-n : goal.returns-then-owner-n
unfolding large_rows
returns-then-owner-n c = let e = owner_is c.before.before.before in
    rw c.refused-then-owner-n.ensures (ap (refused 5) e ∙ sym (clean3 c.before.before.before.before ∙ judge_hit _ _ _ (lt-ltb _ _ (rw e at c.if-owner-n.true))))

pub returns-then-end-len : goal.returns-then-end-len
unfolding large_rows
returns-then-end-len c = let e = end_is c.before.before.before in
    let z = size c.before.before.before.before.before.before in
    rw c.refused-then-end-len.ensures (ap (refused 6) e ∙ sym (clean4 c.before.before.before.before ∙ judge_hit _ _ _ (lt-ltb _ _ (rw (e, z) at c.if-end-len.true))))

pub returns : goal.returns
unfolding large_rows judge
returns c = sym (clean5 c.before)
