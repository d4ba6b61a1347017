-- A reduction is refused with k at p exactly if the first rule whose condition holds has number k and names p; accepted exactly if it passes.
use Rattle.std.specs.Prelude.{◌≡◌, ◌↔◌, ◌≢◌, ℕ, ◌+◌, ◌-◌, ◌*◌, ◌≤◌, ◌<◌, length, get_or}
use Rattle.std.proofs.Math.Path.{refl, ap}
use Rattle.std.proofs.Math.Bool.{not, So}
use mathlib.Core.List.{List, []}
use Rattle.std.proofs.Math.Decide.{dec_lt}
use native.Mathlib.Omega.{arith}
use borrow.Author.Tests.{ltb-true, lt-ltb, leb-true, le-leb, eqb-true, eq-eqb, leb-false, lt-leb, not-false}
use Rattle.theory.proofs.Logic.BoolsLaws.{clash, So_not, and_in, and_out}
use Rattle.theory.proofs.Logic.RangeLaws.{none_found, found_none}
use Rattle.table.specs.Table.{vertex_count, table_edges, priority_at, source_at}
use Rattle.table.specs.Answers.{Row, accepted, refused, Clean}
use Rattle.table.specs.AnswersLaws.{judge_accepted, judge_clean, clean_append, clean_split}
use Rattle.table.specs.ReadingLaws.{differs}
use Rattle.table.specs.Rules.{Rule, FirstRule, Rendered, none, next}
use Rattle.table.specs.RulesLaws.{renders_placed, renders_first, refused_by, rendered_append}
use Rattle.large_table.specs.Reading.{large_rows}
use Rattle.large_table.specs.ReadingLaws.{large_render, clean_formed, formed_clean}
use Rattle.large_images.specs.Images.{class_at}
use Rattle.large_images.proofs.ImagesRulesLaws.{image_rows_render, clean_certified, certified_clean}
use Rattle.large_reduction.specs.ReductionCall.{edge_descends, priority_differs, shifted, first_descent, first_beyond, first_different, class_rows, merge_rows, reduction_answer}
use Rattle.large_reduction.proofs.ReductionCallLaws.{shifted_clean, clean_shifted}
use Rattle.large_reduction.specs.ReductionRules.{shifted_rules, Descends, class_rules, reduction_rules, Ascending, Classed, ReductionPasses}

-- ---- the reader's rows for the reduced game

pub shifted_render : {rs : List Row} {qs : List Rule} → Rendered rs qs → Rendered (shifted rs) (shifted_rules qs)
unfolding shifted
shifted_render none = none
shifted_render (next x xs) = next (record { number = ap (λ (k : ℕ). k + 90) x.number; holds = x.holds; place = x.place }) (shifted_render xs)

-- ---- 97 to 100

descends_says : (r : List ℕ) (e : ℕ) → So (edge_descends r (vertex_count r) e) ↔ Descends r e
unfolding edge_descends
descends_says r e = (
  λ t. let x = and_out t in
      let b = ltb-true 0 e x.0 in
      let z : 1 + 2 * vertex_count r + e ≡ 2 + 2 * vertex_count r + (e - 1) = omega arith in
      record { before = b; lower = rw z at (ltb-true (source_at r e) (get_or r (1 + 2 * vertex_count r + e) 0) x.1) },
  λ d. let b = d.before in
      let z : 1 + 2 * vertex_count r + e ≡ 2 + 2 * vertex_count r + (e - 1) = omega arith in
      and_in (lt-ltb 0 e b) (rw z (lt-ltb _ _ d.lower)),
)

module _ (g r l : List ℕ) where
  abbrev n : ℕ
  n = vertex_count g

  class_rows_render : Rendered (class_rows g r l) (class_rules g r l)
  unfolding class_rows first_descent first_beyond first_different priority_differs
  class_rows_render =
      next (renders_first 97 _ (Descends r) 0 (table_edges r) (λ e. e) (omega arith) (descends_says r))
      (next (renders_placed 98 (length l) _ _ (differs (length l) n))
      (next
      (renders_first 99 _ (λ v. vertex_count r ≤ class_at l v) 0 n (λ v. v) (omega arith)
      (λ v. (leb-true (vertex_count r) (class_at l v), le-leb (vertex_count r) (class_at l v))))
      (next
      (renders_first 100 _ (λ v. priority_at g v ≢ priority_at r (class_at l v)) 0 n (λ v. v) (omega arith)
      (λ v. differs (priority_at g v) (priority_at r (class_at l v))))
      none)))

  clean_ascending : Clean (class_rows g r l) → Ascending r
  unfolding class_rows first_descent
  clean_ascending c e h = elim (dec_lt (source_at r (e + 1)) (source_at r e)) [
    | yes x ↦ (
        let z : e + 1 - 1 ≡ e = omega arith in
        clash ((descends_says r (e + 1)).1 (record { before = omega arith; lower = rw z x })) (none_found _ (table_edges r) c.0 (e + 1) h))
    | no x ↦ omega arith
  ]

  clean_classed : Clean (class_rows g r l) → Classed g r l
  unfolding class_rows first_beyond first_different priority_differs
  clean_classed (_, (c₂, (c₃, (c₄, _)))) = record {
    words = eqb-true (length l) n (not-false _ c₂);
    inside = λ v h. leb-false (vertex_count r) (class_at l v) (none_found _ n c₃ v h);
    priority = λ v h. eqb-true _ _ (not-false _ (none_found _ n c₄ v h));
  }

  classed_clean : Ascending r → Classed g r l → Clean (class_rows g r l)
  unfolding class_rows first_descent first_beyond first_different priority_differs
  classed_clean a x = (
    found_none _ (table_edges r) (λ e h. So_not (λ t. never e h ((descends_says r e).0 t))),
    (
      ap not (eq-eqb _ _ x.words),
      (
        found_none _ n (λ v h. lt-leb (vertex_count r) (class_at l v) (x.inside v h)),
        (found_none _ n (λ v h. ap not (eq-eqb _ _ (x.priority v h))), tt),
      ),
    ),
  )
    where
      never : (e : ℕ) → e < table_edges r → Descends r e → ⊥
      never e h d =
          let b = d.before in
          let z : e - 1 + 1 ≡ e = omega arith in
          omega (arith, rw z at (a (e - 1) (omega arith)), d.lower)

-- ---- the call

module _ (g r l c : List ℕ) where
  -- refused exactly by the table
  pub reduction_refused : (k p : ℕ) → (reduction_answer g r l c ≡ refused k p) ↔ FirstRule (reduction_rules g r l c) k p
  unfolding reduction_answer merge_rows
  reduction_refused =
      refused_by []
      (rendered_append (large_render g) (rendered_append (shifted_render (large_render r)) (rendered_append (class_rows_render g r l) (image_rows_render g r l c))))
      refl

  pub reduction_accepted : (counts : List ℕ) → reduction_answer g r l c ≡ accepted counts → ReductionPasses g r l c
  unfolding reduction_answer merge_rows
  reduction_accepted counts e =
      let (x, xs) = clean_split (large_rows g) _ (judge_accepted _ [] counts e).0 in
      let (y, ys) = clean_split (shifted (large_rows r)) _ xs in
      let (z, zs) = clean_split (class_rows g r l) _ ys in
      record {
        game = clean_formed g x;
        reduced = clean_formed r (shifted_clean (large_rows r) y);
        ascending = clean_ascending g r l z;
        classed = clean_classed g r l z;
        certified = clean_certified g r l c zs;
      }

  pub reduction_accepts : ReductionPasses g r l c → reduction_answer g r l c ≡ accepted []
  unfolding reduction_answer merge_rows
  reduction_accepts x =
      judge_clean _ []
      (clean_append (large_rows g) _ (formed_clean g x.game)
      (clean_append (shifted (large_rows r)) _ (clean_shifted (large_rows r) (formed_clean r x.reduced))
      (clean_append (class_rows g r l) _ (classed_clean g r l x.ascending x.classed) (certified_clean g r l c x.certified))))
