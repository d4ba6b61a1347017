-- Laws of the seed call: it refuses k at p exactly as change request 3's table says, accepts exactly otherwise, and what an accepted call
-- wrote is the table of its four numbers.
use Rattle.std.specs.Prelude.{◌≡◌, ℕ, ◌*◌, ◌<◌, ◌≤◌, false, ◌⊎◌, ◌↔◌, List, [], ◌∷◌, length, drop, ◌==◌, nat_lt, slice_index, refl}
use Rattle.std.proofs.Common.{sym, ap, ◌∙◌, ⊎_elim, arith, take_at, eqb-true, eq-eqb, ne_eqb, ltb-true, ltb-false, lt-ltb, le-ltb}
use Rattle.std.proofs.Math.Bool.{So}
use Rattle.std.proofs.Math.Decide.{dec_lt}
use Rattle.std.proofs.lemmas.Bool.{eqb-false}
use Rattle.theory.specs.Games.Game.{edge_count}
use Rattle.theory.specs.Logic.Bools.{◌or◌}
use Rattle.theory.proofs.Logic.BoolsLaws.{or_left, or_right, or_out, or_says, or_fails}
use Rattle.table.specs.Limits.{vertex_limit, edge_limit}
use Rattle.table.specs.Table.{table_length, table_in, game_of}
use Rattle.table.specs.Answers.{accepted, refused, judge, written}
use Rattle.table.specs.AnswersLaws.{judge_clean, judge_accepted, length_written, get_d_written_beyond, after_accepted, after_refused}
use Rattle.table.specs.Rules.{FirstRule, Rendered, none, next}
use Rattle.table.specs.RulesLaws.{renders_placed, memory_renders, refused_by}
use Rattle.table.specs.Reading.{read_answer}
use Rattle.table.specs.ReadingLaws.{read_accepts}
use Rattle.table.specs.WellFormed.{WellFormed}
use Rattle.table_seed.specs.SeedTable.{seed_table}
use Rattle.table_seed.specs.SeedTableLaws.{seed_vertices, seed_edges, length_seed_table, seed_owners, seed_sources, seed_targets, seed_total}
use Rattle.table_seed.specs.SeedCall.{degree_limit, priority_limit, outside, unfit, seed_rows, seed_answer, SeedCall}
use Rattle.table_seed.specs.SeedRules.{Within, seed_rules, Fit, SeedFits}

-- ---- what the tests say

outside_says : (x limit : ℕ) → So (outside x limit) ↔ (¬ Within x limit)
unfolding outside
outside_says x limit = (
  λ h w. ⊎_elim (λ a. omega (arith, eqb-true x 0 a, w.some)) (λ b. omega (arith, ltb-true limit x b, w.few)) (or_out h),
  λ m. elim (dec_lt limit x) [
    | yes l ↦ or_right (x == 0) (lt-ltb limit x l)
    | no k ↦ elim (dec_lt 0 x) [ yes p ↦ absurd (m (record { some = p; few = omega arith })) | no q ↦ or_left (nat_lt limit x) (eq-eqb x 0 (omega arith)) ]
  ],
)

unfit_says : (n d c : ℕ) → So (unfit n d c) ↔ ((¬ Within n vertex_limit) ⊎ ((¬ Within d degree_limit) ⊎ ((¬ Within c priority_limit) ⊎ (edge_limit < n * d))))
unfolding unfit
unfit_says n d c =
    or_says (outside_says n vertex_limit)
    (or_says (outside_says d degree_limit) (or_says (outside_says c priority_limit) (ltb-true edge_limit (n * d), lt-ltb edge_limit (n * d))))

-- ---- and where they fail

outside_fails : (x limit : ℕ) → (outside x limit ≡ false) ↔ Within x limit
unfolding outside
outside_fails x limit = (
  λ e. let p = (or_fails (x == 0) (nat_lt limit x)).0 e in let z : (x ≡ 0) → ⊥ = eqb-false x 0 p.0 in record { some = omega arith; few = ltb-false limit x p.1 },
  λ w. (or_fails (x == 0) (nat_lt limit x)).1 (ne_eqb x 0 (λ z. omega (arith, w.some)), le-ltb limit x w.few),
)

pub unfit_fails : (n d c : ℕ) → (unfit n d c ≡ false) ↔ Fit n d c
unfolding unfit
unfit_fails n d c = (
  λ e.
      let p = (or_fails (outside n vertex_limit) _).0 e in
      let q = (or_fails (outside d degree_limit) _).0 p.1 in
      let r = (or_fails (outside c priority_limit) _).0 q.1 in
      record {
        vertices = (outside_fails n vertex_limit).0 p.0;
        degree = (outside_fails d degree_limit).0 q.0;
        priorities = (outside_fails c priority_limit).0 r.0;
        edges = ltb-false edge_limit (n * d) r.1;
      },
  λ f.
      (or_fails (outside n vertex_limit) _).1 (
        (outside_fails n vertex_limit).1 f.vertices,
        (or_fails (outside d degree_limit) _).1 (
          (outside_fails d degree_limit).1 f.degree,
          (or_fails (outside c priority_limit) _).1 ((outside_fails c priority_limit).1 f.priorities, le-ltb edge_limit (n * d) f.edges),
        ),
      ),
)

-- ---- refused exactly by the table

seed_rows_render : (n d c : ℕ) (output : List ℕ) → Rendered (seed_rows n d c output) (seed_rules n d c output)
unfolding seed_rows
seed_rows_render n d c output = next (renders_placed 31 0 _ _ (unfit_says n d c)) (next (memory_renders 32 _ output) none)

pub seed_refused : (n d c : ℕ) (output : List ℕ) (k p : ℕ) → (seed_answer n d c output ≡ refused k p) ↔ FirstRule (seed_rules n d c output) k p
unfolding seed_answer
seed_refused n d c output = refused_by _ (seed_rows_render n d c output) refl

-- ---- accepted exactly otherwise, with n and m

pub seed_accepted : (n d c : ℕ) (output counts : List ℕ) → seed_answer n d c output ≡ accepted counts → SeedFits n d c output × (counts ≡ n ∷ n * d ∷ [])
unfolding seed_answer seed_rows
seed_accepted n d c output counts e =
    let a = judge_accepted _ _ counts e in
    (record { numbers = (unfit_fails n d c).0 a.0.0; output_fits = ltb-false (length output) _ a.0.1.0 }, sym a.1)

pub seed_accepts : (n d c : ℕ) (output : List ℕ) → SeedFits n d c output → seed_answer n d c output ≡ accepted (n ∷ n * d ∷ [])
unfolding seed_answer seed_rows
seed_accepts n d c output f = judge_clean _ _ ((unfit_fails n d c).1 f.numbers, (le-ltb (length output) _ f.output_fits, tt))

-- ---- the largest product: 512 × 8 is let in, and 512 × 9 isn't

pub product_largest : (output : List ℕ) → 9218 ≤ length output → seed_answer 512 8 1 output ≡ accepted (512 ∷ 4096 ∷ [])
product_largest output h = seed_accepts 512 8 1 output (record {
  numbers = record {
    vertices = record { some = omega arith; few = omega arith };
    degree = record { some = omega arith; few = omega arith };
    priorities = record { some = omega arith; few = omega arith };
    edges = omega arith;
  };
  output_fits = omega arith;
})

pub product_above : (output : List ℕ) → seed_answer 512 9 1 output ≡ refused 31 0
unfolding seed_answer seed_rows unfit outside ◌or◌ judge
product_above output = refl

-- ---- what an accepted call wrote

-- the table begins a buffer that it was written to
table_begins : (s n d c : ℕ) (old : List ℕ) → table_in (written (seed_table s n d c) old) ≡ seed_table s n d c
unfolding written seed_table
table_begins s n d c old = take_at (seed_table s n d c) (drop (length (seed_table s n d c)) old) (table_length n (n * d)) (length_seed_table s n d c)

module _ (s n d c : ℕ) (output counts output' : List ℕ) (call : SeedCall s n d c output (accepted counts) output') where
  output_holds : output' ≡ written (seed_table s n d c) output
  unfolding seed_answer
  output_holds = call.output_after ∙ after_accepted (seed_rows n d c output) _ (seed_table s n d c) output (sym call.verdict)

  pub written_table_lem : table_in output' ≡ seed_table s n d c
  written_table_lem = ap (λ (l : List ℕ). table_in l) output_holds ∙ table_begins s n d c output

  pub length_output : length output' ≡ length output
  length_output =
      let f = (seed_accepted n d c output counts (sym call.verdict)).0 in
      ap length output_holds ∙ length_written (seed_table s n d c) output (omega (arith, f.output_fits, length_seed_table s n d c))

  pub beyond_output : (i : ℕ) → table_length n (n * d) ≤ i → slice_index output' i ≡ slice_index output i
  beyond_output i h = rw output_holds (get_d_written_beyond (seed_table s n d c) output i 0 (rw (length_seed_table s n d c) h))

-- the table depends on nothing but the four numbers: two accepted calls, whatever they were lent, wrote the same
pub same_table : (s n d c : ℕ) (out₁ out₂ counts₁ counts₂ out₁' out₂' : List ℕ) → SeedCall s n d c out₁ (accepted counts₁) out₁'
    → SeedCall s n d c out₂ (accepted counts₂) out₂' → table_in out₁' ≡ table_in out₂'
same_table s n d c out₁ out₂ counts₁ counts₂ out₁' out₂' a b = written_table_lem s n d c out₁ counts₁ out₁' a ∙ sym (written_table_lem s n d c out₂ counts₂ out₂' b)

-- a refused call left the output as it was
pub refused_old : (s n d c : ℕ) (output : List ℕ) (k p : ℕ) (output' : List ℕ) → SeedCall s n d c output (refused k p) output' → output' ≡ output
unfolding seed_answer
refused_old s n d c output k p output' call = call.output_after ∙ after_refused (seed_rows n d c output) _ (seed_table s n d c) output (sym call.verdict)

-- ---- "The reader has to accept every table so made": with n, n × d and its different edges

module _ (s n d c : ℕ) (f : Fit n d c) where
  seed_well : WellFormed (seed_table s n d c)
  unfolding seed_table
  seed_well = record {
    some = f.vertices.some;
    vertices = f.vertices.few;
    edges = f.edges;
    size = length_seed_table s n d c;
    owners = seed_owners s n d c;
    sources = seed_sources s n d c f.vertices.some f.degree.some;
    targets = seed_targets s n d c f.vertices.some f.degree.some;
    total = seed_total s n d c f.vertices.some f.degree.some;
  }

  pub seed_read : read_answer (seed_table s n d c) ≡ accepted (n ∷ n * d ∷ edge_count (game_of (seed_table s n d c)) ∷ [])
  seed_read =
      read_accepts (seed_table s n d c) seed_well
      ∙ rw (seed_vertices s n d c, seed_edges s n d c)

-- so the table that an accepted call wrote is read
pub written_read : (s n d c : ℕ) (output counts output' : List ℕ) → SeedCall s n d c output (accepted counts) output'
    → read_answer (table_in output') ≡ accepted (n ∷ n * d ∷ edge_count (game_of (seed_table s n d c)) ∷ [])
written_read s n d c output counts output' call =
    rw (written_table_lem s n d c output counts output' call) (seed_read s n d c (seed_accepted n d c output counts (sym call.verdict)).0.numbers)
