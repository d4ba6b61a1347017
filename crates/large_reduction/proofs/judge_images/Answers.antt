-- After each test that does not refuse, the rest of the table of refusals decides.
use mathlib.Core.Path.{◌≡◌, refl, sym, ap, ◌∙◌}
use mathlib.Core.Bool.{not}
use mathlib.Core.List.{List, [], ◌∷◌}
use Prim.Native.Nat.{ℕ, ◌+◌, ◌*◌}
use borrow.Author.Tests.{eq-eqb, ne_eqb}
use lib.ListN.{drop, length}
use lib.Dec.{eqb, ltb}
use Rattle.theory.specs.Logic.Range.{first}
use Rattle.table.specs.Table.{vertex_count, table_edges}
use Rattle.table.specs.Answers.{Answer, Row, row, refused, judge}
use Rattle.table.specs.AnswersLaws.{judge_hit, judge_next}
use Rattle.large_images.specs.Images.{member_strays, image_strays, start_strays, owner_strays, after_strays, Long, Images, Starts, first_empty, first_image, first_start, first_owner, first_after, image_rows}
use Rattle.large_images.proofs.ImagesLaws.{images_by, starts_by}
use Rattle.large_reduction.proofs.ReductionCallLaws.{finds, misses}
use Rattle.large_reduction.proofs.judge_images.Goals as goal
use Rattle.large_reduction.proofs.judge_images.Lts as lts
use Rattle.large_reduction.proofs.judge_images.Reads as reads
use Rattle.large_reduction.proofs.judge_images.Tie as tie

-- the table of refusals by the sizes
abbrev rows : (g r l c : List ℕ) (n m k q : ℕ) → List Row
rows g r l c n m k q =
    let empty = first (member_strays l c n) 0 k in
    let image = first (image_strays g r l c n m k q) 0 m in
    let start = first (start_strays g r c n m k) 0 n in
    let owner = first (owner_strays g r l c n k q) 0 n in
    let after = first (after_strays g r c n m k q) 0 m in
    row 101 (not (eqb (length c) (n + k + 2 * m))) (length c)
    ∷ row 102 (ltb empty k) empty
    ∷ row 103 (ltb image m) image
    ∷ row 104 (ltb start n) start
    ∷ row 105 (ltb owner n) owner
    ∷ row 106 (ltb after m) after
    ∷ []

rows_by : (g r l c : List ℕ) {n m k q : ℕ} → n ≡ vertex_count g → m ≡ table_edges g → k ≡ vertex_count r → q ≡ table_edges r
    → rows g r l c n m k q ≡ image_rows g r l c
unfolding image_rows first_empty first_image first_start first_owner first_after
rows_by g r l c en em ek eq = rw (en, em, ek, eq) refl

-- what the rows after the first k say
abbrev rest : lts.Start tie.the-claims reads.Pre reads.Post tie.handed_clauses → ℕ → Answer
rest s k = let x = s.args.merge in judge (drop k (rows x.game.now x.reduced.now x.classes.now x.certificate.now x.n x.m x.k x.q)) []

whole : (s : lts.Start tie.the-claims reads.Pre reads.Post tie.handed_clauses) → let x = s.args.merge in
    rest s 0 ≡ judge (image_rows x.game.now x.reduced.now x.classes.now x.certificate.now) []
whole s = let e = s.requires.sizes in ap (λ (rs : List Row). judge rs []) (rows_by _ _ _ _ e.0 e.1 e.2 e.3)

abbrev start1 : lts.Else1 tie.the-claims reads.Pre reads.Post tie.handed_clauses → lts.Start tie.the-claims reads.Pre reads.Post tie.handed_clauses
start1 c = search

abbrev start2 : lts.Else2 tie.the-claims reads.Pre reads.Post tie.handed_clauses → lts.Start tie.the-claims reads.Pre reads.Post tie.handed_clauses
start2 c = search

abbrev start3 : lts.Else3 tie.the-claims reads.Pre reads.Post tie.handed_clauses → lts.Start tie.the-claims reads.Pre reads.Post tie.handed_clauses
start3 c = search

abbrev start4 : lts.Else4 tie.the-claims reads.Pre reads.Post tie.handed_clauses → lts.Start tie.the-claims reads.Pre reads.Post tie.handed_clauses
start4 c = search

abbrev start5 : lts.Else5 tie.the-claims reads.Pre reads.Post tie.handed_clauses → lts.Start tie.the-claims reads.Pre reads.Post tie.handed_clauses
start5 c = search

abbrev start6 : lts.Else6 tie.the-claims reads.Pre reads.Post tie.handed_clauses → lts.Start tie.the-claims reads.Pre reads.Post tie.handed_clauses
start6 c = search

clean1 : (c : lts.Else1 tie.the-claims reads.Pre reads.Post tie.handed_clauses) → rest (start1 c) 0 ≡ rest (start1 c) 1
clean1 c = judge_next _ _ _ (ap not (eq-eqb _ _ c.if-merge.false))

clean2 : (c : lts.Else2 tie.the-claims reads.Pre reads.Post tie.handed_clauses) → rest (start2 c) 0 ≡ rest (start2 c) 2
clean2 c = clean1 c.before.before ∙ judge_next _ _ _ (misses c.first_empty-empty.ensures c.if-empty-merge.false)

clean3 : (c : lts.Else3 tie.the-claims reads.Pre reads.Post tie.handed_clauses) → rest (start3 c) 0 ≡ rest (start3 c) 3
clean3 c = clean2 c.before.before ∙ judge_next _ _ _ (misses c.first_image-image.ensures c.if-image-merge.false)

clean4 : (c : lts.Else4 tie.the-claims reads.Pre reads.Post tie.handed_clauses) → rest (start4 c) 0 ≡ rest (start4 c) 4
clean4 c = clean3 c.before.before ∙ judge_next _ _ _ (misses c.first_start-start.ensures c.if-start-merge.false)

clean5 : (c : lts.Else5 tie.the-claims reads.Pre reads.Post tie.handed_clauses) → rest (start5 c) 0 ≡ rest (start5 c) 5
clean5 c = clean4 c.before.before ∙ judge_next _ _ _ (misses c.first_owner-owner.ensures c.if-owner-merge.false)

clean6 : (c : lts.Else6 tie.the-claims reads.Pre reads.Post tie.handed_clauses) → rest (start6 c) 0 ≡ rest (start6 c) 6
clean6 c = clean5 c.before.before ∙ judge_next _ _ _ (misses c.first_after-after.ensures c.if-after-merge.false)

long : (c : lts.Else1 tie.the-claims reads.Pre reads.Post tie.handed_clauses) → let a = (start1 c).args in
    Long a.merge.certificate.now a.merge.n a.merge.k a.merge.m
long c = record { words = c.if-merge.false }

images : (c : lts.Else3 tie.the-claims reads.Pre reads.Post tie.handed_clauses) → let a = (start3 c).args in
    Images a.merge.certificate.now a.merge.n a.merge.k a.merge.m a.merge.q
images c = let a = (start3 c).args in
    images_by a.merge.game.now a.merge.reduced.now a.merge.classes.now a.merge.certificate.now _ _ _ _ (misses c.first_image-image.ensures c.if-image-merge.false)

starts : (c : lts.Else4 tie.the-claims reads.Pre reads.Post tie.handed_clauses) → let a = (start4 c).args in Starts a.merge.certificate.now a.merge.n a.merge.m
starts c = let a = (start4 c).args in
    starts_by a.merge.game.now a.merge.reduced.now a.merge.certificate.now _ _ _ (misses c.first_start-start.ensures c.if-start-merge.false)

pub returns-then-merge : goal.returns-then-merge
returns-then-merge c = let s = c.before.before in
    rw c.refused.ensures (sym (judge_hit _ _ _ (ap not (ne_eqb _ _ c.if-merge.true))) ∙ whole s)

pub first_empty-empty-requires : goal.first_empty-empty-requires
first_empty-empty-requires c = let p = (start1 c).requires.tables in (p.2, long c)

pub returns-then-empty-merge : goal.returns-then-empty-merge
returns-then-empty-merge c = let e = c.first_empty-empty.ensures in
    rw c.refused-then-empty-merge.ensures (ap (refused 102) e ∙ sym (clean1 c.before.before.before ∙ judge_hit _ _ _ (finds e c.if-empty-merge.true)) ∙ whole (start1 c.before.before.before))

pub first_image-image-requires : goal.first_image-image-requires
first_image-image-requires c = let p = (start2 c).requires.tables in (p.0, p.1, p.2, long c.before.before)

pub returns-then-image-merge : goal.returns-then-image-merge
returns-then-image-merge c = let e = c.first_image-image.ensures in
    rw c.refused-then-image-merge.ensures (ap (refused 103) e ∙ sym (clean2 c.before.before.before ∙ judge_hit _ _ _ (finds e c.if-image-merge.true)) ∙ whole (start2 c.before.before.before))

pub first_start-start-requires : goal.first_start-start-requires
first_start-start-requires c = let p = (start3 c).requires.tables in (p.0, p.1, long c.before.before.before.before, images c)

pub returns-then-start-merge : goal.returns-then-start-merge
returns-then-start-merge c = let e = c.first_start-start.ensures in
    rw c.refused-then-start-merge.ensures (ap (refused 104) e ∙ sym (clean3 c.before.before.before ∙ judge_hit _ _ _ (finds e c.if-start-merge.true)) ∙ whole (start3 c.before.before.before))

pub first_owner-owner-requires : goal.first_owner-owner-requires
first_owner-owner-requires c = let p = (start4 c).requires.tables in (p.0, p.1, p.2, long c.before.before.before.before.before.before, images c.before.before, starts c)

pub returns-then-owner-merge : goal.returns-then-owner-merge
returns-then-owner-merge c = let e = c.first_owner-owner.ensures in
    rw c.refused-then-owner-merge.ensures (ap (refused 105) e ∙ sym (clean4 c.before.before.before ∙ judge_hit _ _ _ (finds e c.if-owner-merge.true)) ∙ whole (start4 c.before.before.before))

pub first_after-after-requires : goal.first_after-after-requires
first_after-after-requires c = let p = (start5 c).requires.tables in (p.0, p.1, long c.before.before.before.before.before.before.before.before, images c.before.before.before.before)

pub returns-then-after-merge : goal.returns-then-after-merge
returns-then-after-merge c = let e = c.first_after-after.ensures in
    rw c.refused-then-after-merge.ensures (ap (refused 106) e ∙ sym (clean5 c.before.before.before ∙ judge_hit _ _ _ (finds e c.if-after-merge.true)) ∙ whole (start5 c.before.before.before))

pub returns : goal.returns
unfolding judge
returns c = sym (clean6 c) ∙ whole (start6 c)
