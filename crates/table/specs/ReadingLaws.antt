-- Laws of the reader: its computed rows render document 01's, so it refuses k at p exactly as that table says, and accepts exactly
-- the well-formed tables.
use Rattle.std.specs.Prelude.{◌≡◌, refl, ◌⊎◌, ◌↔◌, ◌≢◌, Bool, not, List, [], ◌∷◌, ◌++◌, ℕ, ◌+◌, ◌-◌, ◌*◌, ◌≤◌, ◌<◌, eqb, ltb, leb, length, get_or, Ok, Err}
use Rattle.std.proofs.Common.{sym, inl, inr, ⊎_elim, add-sub_of_le, arith, ltb-true, lt-ltb, leb-true, le-leb, eqb-true, eq-eqb, ne_eqb}
use Rattle.std.proofs.Math.Bool.{So}
use Rattle.std.proofs.Math.Decide.{dec_lt, dec_le, ℕ_discrete}
use Rattle.std.proofs.lemmas.Bool.{eqb-false, not-false}
use Rattle.theory.specs.Logic.Bools.{◌or◌}
use Rattle.theory.proofs.Logic.BoolsLaws.{decide, So_not, not_in, not_out, or_left, or_right, or_out}
use Rattle.theory.specs.Logic.Range.{any_below}
use Rattle.theory.proofs.Logic.RangeLaws.{any_out, any_fails}
use Rattle.theory.specs.Games.Game.{edge_count}
use Rattle.table.specs.Limits.{vertex_limit, edge_limit}
use Rattle.table.specs.Table.{vertex_count, table_edges, owner_at, source_at, table_length, game_of}
use Rattle.table.specs.Answers.{Row, row, accepted, refused, judge, Clean}
use Rattle.table.specs.Rules.{Some, first_such, FirstRule, NoRule, no_rule, fails, Renders, Rendered, none, next}
use Rattle.table.specs.AnswersLaws.{judge_accepted, judge_clean, judge_past, judge_stays}
use Rattle.table.specs.RulesLaws.{renders_placed, renders_first, refused_by, clean_none, none_clean}
use Rattle.table.specs.Reading.{lacks_edge, first_owner, first_end, first_lacking, game_rows_by, game_rows, read_answer, sizes_answer}
use Rattle.table.specs.Filling.{filling_answer}
use Rattle.table.specs.ReadingRules.{Lacks, game_rules_by, game_rules}
use Rattle.table.specs.WellFormed.{WellFormed, WellSized}
use Rattle.table.specs.Flags.{EndsInside}
use Rattle.table.specs.declared.FilledSizes.{FilledSizes}
use Rattle.table.specs.declared.Refusal.{Refusal}

-- ---- what the reader's tests say

bad_count : (n : ℕ) → So (eqb n 0 or ltb vertex_limit n) ↔ ((n ≡ 0) ⊎ (vertex_limit < n))
bad_count n = (
  λ h. ⊎_elim (λ a. inl (eqb-true n 0 a)) (λ b. inr (ltb-true vertex_limit n b)) (or_out h),
  λ s. ⊎_elim (λ a. or_left (ltb vertex_limit n) (eq-eqb n 0 a)) (λ b. or_right (eqb n 0) (lt-ltb vertex_limit n b)) s,
)

pub differs : (a b : ℕ) → So (not (eqb a b)) ↔ (a ≢ b)
differs a b = (λ h. eqb-false a b (not_out h), λ d. not_in (ne_eqb a b d))

lacks : (g : List ℕ) (v : ℕ) → So (lacks_edge g v) ↔ Lacks g v
unfolding lacks_edge
lacks g v = (
  λ h j l. eqb-false (source_at g j) v (any_fails (table_edges g) _ (not_out h) j l),
  λ d. not_in {b = any_below (table_edges g) (λ j. eqb (source_at g j) v)} (So_not (λ h. let r = any_out h in d r.0 r.1 (eqb-true (source_at g r.0) v r.2))),
)

-- rows 5 and 6, whatever the limits of the sizes are
pub owner_renders : (g : List ℕ) → Renders (row 5 (ltb (first_owner g) (2 + 2 * vertex_count g)) (first_owner g))
    (first_such 5 (λ k. 1 < get_or g k 0) (2 + vertex_count g) (2 + 2 * vertex_count g) (λ k. k))
unfolding first_owner
owner_renders g =
    let n = vertex_count g in
    renders_first 5 (λ k. ltb 1 (get_or g k 0)) (λ k. 1 < get_or g k 0) (2 + n) (2 + 2 * n) (λ k. k) (omega arith) (λ k. (ltb-true 1 (get_or g k 0), lt-ltb 1 (get_or g k 0)))

pub end_renders : (g : List ℕ) → Renders (row 6 (ltb (first_end g) (table_length (vertex_count g) (table_edges g))) (first_end g))
    (first_such 6 (λ k. vertex_count g ≤ get_or g k 0) (2 + 2 * vertex_count g) (table_length (vertex_count g) (table_edges g)) (λ k. k))
unfolding first_end
end_renders g =
    let n = vertex_count g in
    renders_first 6 (λ k. leb n (get_or g k 0)) (λ k. n ≤ get_or g k 0) (2 + 2 * n) (table_length n (table_edges g)) (λ k. k) (omega arith) (λ k. (leb-true n (get_or g k 0), le-leb n (get_or g k 0)))

pub rows_render_by : (unfit : ℕ → ℕ → Bool) (Unfit : ℕ → ℕ → Type 0) → ((a b : ℕ) → So (unfit a b) ↔ Unfit a b)
    → (g : List ℕ) → Rendered (game_rows_by unfit g) (game_rules_by Unfit g)
unfolding game_rows_by first_lacking
rows_render_by unfit Unfit says g =
    let n = vertex_count g in
    let m = table_edges g in
    next (renders_placed 1 (length g) _ _ (ltb-true (length g) 2, lt-ltb (length g) 2))
    (next (renders_placed 2 0 _ _ (bad_count n))
    (next (renders_placed 3 1 _ _ (ltb-true edge_limit m, lt-ltb edge_limit m))
    (next (renders_placed 4 (length g) _ _ (says (length g) (table_length n m)))
    (next (owner_renders g)
    (next (end_renders g)
    (next (renders_first 8 (lacks_edge g) (Lacks g) 0 n (λ v. v) (omega arith) (lacks g))
    none))))))

pub rows_render : (g : List ℕ) → Rendered (game_rows g) (game_rules g)
rows_render = rows_render_by _ _ differs

-- ---- the reader refuses k at p exactly if rule k is the first whose condition holds, and it names p

pub read_refused : (g : List ℕ) (k p : ℕ) → (read_answer g ≡ refused k p) ↔ FirstRule (game_rules g) k p
unfolding read_answer
read_refused g = refused_by _ (rows_render g) refl

-- ---- it accepts exactly the well-formed tables, with n, m and the number of different edges

-- rules 5 and 6 hold of no word: owners and edge ends are as they should be
pub owners_fit : (g : List ℕ) → (¬ Some (λ k. 1 < get_or g k 0) (2 + vertex_count g) (2 + 2 * vertex_count g)) ↔ ((v : ℕ) → v < vertex_count g → owner_at g v ≤ 1)
owners_fit g = (
  λ d v h. elim (dec_lt 1 (owner_at g v)) [ yes l ↦ absurd (d (2 + vertex_count g + v, omega arith, omega arith, l)) | no l ↦ omega arith ],
  λ f s. let x = rw (add-sub_of_le s.1) at (f (s.0 - (2 + vertex_count g)) (omega arith)) in omega arith,
)

pub ends_fit : (g : List ℕ) → (¬ Some (λ k. vertex_count g ≤ get_or g k 0) (2 + 2 * vertex_count g) (table_length (vertex_count g) (table_edges g))) ↔ EndsInside g
ends_fit g = (
  λ d. record {
    sources = λ j h. inside d (2 + 2 * vertex_count g + j) (omega arith) (omega arith);
    targets = λ j h. inside d (2 + 2 * vertex_count g + table_edges g + j) (omega arith) (omega arith);
  },
  outside,
)
  where
    inside : (¬ Some (λ k. vertex_count g ≤ get_or g k 0) (2 + 2 * vertex_count g) (table_length (vertex_count g) (table_edges g)))
        → (k : ℕ) → 2 + 2 * vertex_count g ≤ k → k < table_length (vertex_count g) (table_edges g) → get_or g k 0 < vertex_count g
    inside d k a b = elim (dec_le (vertex_count g) (get_or g k 0)) [ yes l ↦ absurd (d (k, a, b, l)) | no l ↦ omega arith ]

    outside : EndsInside g → Some (λ k. vertex_count g ≤ get_or g k 0) (2 + 2 * vertex_count g) (table_length (vertex_count g) (table_edges g)) → ⊥
    outside e h =
        let k = h.0 in
        let s = 2 + 2 * vertex_count g in
        let t = 2 + 2 * vertex_count g + table_edges g in
        elim (dec_lt k t) [
          | yes l ↦ (let x = rw (add-sub_of_le h.1) at (e.sources (k - s) (omega arith)) in omega arith)
          | no l ↦ (let x = rw (add-sub_of_le {n = k} {m = t} (omega arith)) at (e.targets (k - t) (omega arith)) in omega arith)
        ]

none_well : (g : List ℕ) → NoRule (game_rules g) → WellFormed g
unfolding lacks_edge
none_well g (fails d₁ (fails d₂ (fails d₃ (fails d₄ (fails d₅ (fails d₆ (fails d₈ no_rule))))))) = record {
  some = let x : vertex_count g ≢ 0 = λ e. d₂ (inl e) in omega arith;
  vertices = let x : ¬ (vertex_limit < vertex_count g) = λ l. d₂ (inr l) in omega arith;
  edges = omega arith;
  size = elim (ℕ_discrete (length g) (table_length (vertex_count g) (table_edges g))) [ yes e ↦ e | no e ↦ absurd (d₄ e) ];
  owners = (owners_fit g).0 d₅;
  sources = ((ends_fit g).0 d₆).sources;
  targets = ((ends_fit g).0 d₆).targets;
  total = λ v h. elim (decide (lacks_edge g v)) [
    | inl t ↦ absurd (d₈ (v, omega arith, h, (lacks g v).0 t))
    | inr f ↦ (let r = any_out {n = table_edges g} {p = λ j. eqb (source_at g j) v} (not-false _ f) in (r.0, r.1, eqb-true (source_at g r.0) v r.2))
  ];
}

well_none : (g : List ℕ) → WellFormed g → NoRule (game_rules g)
well_none g w =
    fails (λ (h : length g < 2). omega (arith, w.size))
    (fails count
    (fails (λ (h : edge_limit < table_edges g). omega (arith, w.edges))
    (fails (λ (h : length g ≢ table_length (vertex_count g) (table_edges g)). h w.size)
    (fails ((owners_fit g).1 w.owners)
    (fails ((ends_fit g).1 (record { sources = w.sources; targets = w.targets }))
    (fails (λ (h : Some (Lacks g) 0 (vertex_count g)). let t = w.total h.0 h.2 in h.3 t.0 t.1 t.2) no_rule))))))
  where
    count : (vertex_count g ≡ 0) ⊎ (vertex_limit < vertex_count g) → ⊥
    count (inl e) = omega (arith, w.some)
    count (inr l) = omega (arith, w.vertices)

pub well_clean : (g : List ℕ) → WellFormed g → Clean (game_rows g)
well_clean g w = none_clean (rows_render g) (well_none g w)

pub read_accepted : (g counts : List ℕ) → read_answer g ≡ accepted counts → WellFormed g × (counts ≡ vertex_count g ∷ table_edges g ∷ edge_count (game_of g) ∷ [])
unfolding read_answer
read_accepted g counts e = let a = judge_accepted (game_rows g) _ counts e in (none_well g (clean_none (rows_render g) a.0), sym a.1)

pub clean_well : (g : List ℕ) → Clean (game_rows g) → WellFormed g
unfolding read_answer
clean_well g c = (read_accepted g _ (judge_clean (game_rows g) _ c)).0

pub read_accepts : (g : List ℕ) → WellFormed g → read_answer g ≡ accepted (vertex_count g ∷ table_edges g ∷ edge_count (game_of g) ∷ [])
unfolding read_answer
read_accepts g w = judge_clean (game_rows g) _ (well_clean g w)

-- ---- for a caller of `read_sizes`, whose rows are the reader's and then its own

pub reading_accepted : (g : List ℕ) (c : FilledSizes) → filling_answer (Ok c) ≡ sizes_answer g → WellSized g c
unfolding sizes_answer
reading_accepted g c e =
    let a = judge_accepted (game_rows g) _ _ (sym e) in
    record { well = clean_well g a.0; vertices = cc a.1; edges = cc a.1 }

pub reading_past : (g : List ℕ) (c : FilledSizes) → filling_answer (Ok c) ≡ sizes_answer g → (rs : List Row) (counts : List ℕ)
    → judge (game_rows g ++ rs) counts ≡ judge rs counts
reading_past g c e rs counts = judge_past (game_rows g) rs counts (well_clean g (reading_accepted g c e).well)

pub reading_stays : (g : List ℕ) (f : Refusal) → filling_answer (Err f) ≡ sizes_answer g → (rs : List Row) (counts : List ℕ)
    → judge (game_rows g ++ rs) counts ≡ filling_answer (Err f)
unfolding sizes_answer
reading_stays g f e rs counts = judge_stays (game_rows g) rs _ counts f.number f.place (sym e)
