-- Laws of a table that is being written. Each store is of a final word, so no word that is final changes.
use Rattle.std.specs.Prelude.{◌≡◌, ℕ, ◌+◌, ◌*◌, ◌/◌, ◌%◌, ◌<◌, ◌≤◌, List, length, ◌≢◌, slice_index, slice_index_or, slice_set, refl}
use Rattle.std.proofs.Common.{sym, ap, ◌∙◌, add-zero, arith, length-set, ext_get_or}
use Rattle.std.proofs.Math.Decide.{dec_lt}
use Rattle.std.proofs.Math.Arith.{digits_lt, digits_div, digits_mod}
use Rattle.theory.proofs.Logic.ListLaws.{after_set}
use Rattle.table.specs.Table.{table_length}
use Rattle.table.specs.Answers.{written}
use Rattle.table.specs.AnswersLaws.{length_written, get_d_written, get_d_written_beyond}
use Rattle.table_seed.specs.Generator.{step, draw_of, state_after}
use Rattle.table_seed.specs.GeneratorLaws.{state_more}
use Rattle.table_seed.specs.SeedTable.{drawn_priority, drawn_owner, drawn_target, seed_table}
use Rattle.table_seed.specs.SeedTableLaws.{length_seed_table, seed_priority, seed_owner, seed_source, seed_target}
use Rattle.table_seed.specs.Progress.{TableFits, Final, Progress, Underway, EdgesDrawn, VertexDrawn}

-- ---- a store of a final word

module _ (F output : List ℕ) (i x : ℕ) (h : i < length output) (e : x ≡ slice_index F i) where
  final_set : (a b : ℕ) → Final F output a b → Final F (slice_set output i x) a b
  final_set a b f = after_set (λ k y. a ≤ k → k < b → y ≡ slice_index F k) output i x h (λ l r. e) (λ k d. f k)

  -- one word more
  final_more : (a b : ℕ) → b ≡ i + 1 → Final F output a i → Final F (slice_set output i x) a b
  final_more a b q f = after_set (λ k y. a ≤ k → k < b → y ≡ slice_index F k) output i x h (λ l r. e) (λ k d l r. f k l (less k d r))
    where
      less : (k : ℕ) → (k ≢ i) → k < b → k < i
      less k d r = elim (dec_lt k i) [ yes y ↦ y | no m ↦ absurd (d (omega arith)) ]

-- two of them
record Stores (F output : List ℕ) (i x k y : ℕ) : Type 0 where
  inside : i < length output
  inside_next : k < length output
  word : slice_index_or F i 0 ≡ x
  word_next : slice_index_or F k 0 ≡ y

module _ {F output : List ℕ} {i x k y : ℕ} (t : Stores F output i x k y) where
  abbrev one : List ℕ
  one = slice_set output i x

  abbrev two : List ℕ
  two = slice_set one k y

  length_two : length two ≡ length output
  length_two = length-set one k y ∙ length-set output i x

  next : k < length one
  next = omega (arith, length-set output i x, t.inside_next)

  two_keep : {a b : ℕ} → Final F output a b → Final F two a b
  two_keep {a} {b} f = final_set F one k y next (sym t.word_next) a b (final_set F output i x t.inside (sym t.word) a b f)

  two_first : {a : ℕ} (b : ℕ) → b ≡ i + 1 → Final F output a i → Final F two a b
  two_first {a} b e f = final_set F one k y next (sym t.word_next) a b (final_more F output i x t.inside (sym t.word) a b e f)

  two_second : {a : ℕ} (b : ℕ) → b ≡ k + 1 → Final F output a k → Final F two a b
  two_second {a} b e f = final_more F one k y next (sym t.word_next) a b e (final_set F output i x t.inside (sym t.word) a k f)

module _ (s n d c : ℕ) (old : List ℕ) where
  abbrev F : List ℕ
  F = written (seed_table s n d c) old

  -- ---- the final words by place

  table_word : (i : ℕ) → i < table_length n (n * d) → slice_index F i ≡ slice_index (seed_table s n d c) i
  table_word i h = get_d_written (seed_table s n d c) old i 0 (omega (arith, length_seed_table s n d c))

  final_priority : (v : ℕ) → v < n → slice_index F (2 + v) ≡ drawn_priority s d c v
  final_priority v h = table_word (2 + v) (omega arith) ∙ seed_priority s n d c v h

  final_owner : (v : ℕ) → v < n → slice_index F (2 + n + v) ≡ drawn_owner s d v
  unfolding seed_table
  final_owner v h = table_word (2 + n + v) (omega arith) ∙ seed_owner s n d c v h

  final_source : (j : ℕ) → j < n * d → slice_index F (2 + 2 * n + j) ≡ j / d
  unfolding seed_table
  final_source j h = table_word (2 + 2 * n + j) (omega arith) ∙ seed_source s n d c j h

  final_target : (j : ℕ) → j < n * d → slice_index F (2 + 2 * n + n * d + j) ≡ drawn_target s n d j
  unfolding seed_table
  final_target j h = table_word (2 + 2 * n + n * d + j) (omega arith) ∙ seed_target s n d c j h

  -- ---- the table word by word

  final_sizes : (slice_index F 0 ≡ n) × (slice_index F 1 ≡ n * d)
  unfolding seed_table
  final_sizes = (table_word 0 (omega arith), table_word 1 (omega arith))

  beyond_old : Final F old (table_length n (n * d)) (length old)
  beyond_old i a b = sym (get_d_written_beyond (seed_table s n d c) old i 0 (omega (arith, length_seed_table s n d c)))

  module _ (fits : table_length n (n * d) ≤ length old) where
    -- the sizes
    pub progress_start : Progress s n d c old 0 0 (slice_set (slice_set old 0 n) 1 (n * d))
    progress_start =
        let t : Stores F old 0 n 1 (n * d) = record { inside = omega arith; inside_next = omega arith; word = final_sizes.0; word_next = final_sizes.1 } in
        let first : Final F (slice_set old 0 n) 0 1 = final_more F old 0 n (omega arith) (sym final_sizes.0) 0 1 refl (λ i a b. omega arith) in
        record {
          size = length_two t;
          priorities = final_more F (slice_set old 0 n) 1 (n * d) (next t) (sym final_sizes.1) 0 2 refl first;
          owners = λ i a b. omega arith;
          sources = λ i a b. omega arith;
          targets = λ i a b. omega arith;
          beyond = two_keep t beyond_old;
        }

    module _ (v e : ℕ) (output : List ℕ) (p : Progress s n d c old v e output) where
      -- the priority and the owner of v
      pub progress_vertex : v < n → Progress s n d c old (v + 1) e (slice_set (slice_set output (2 + v) (drawn_priority s d c v)) (2 + n + v) (drawn_owner s d v))
      progress_vertex h =
          let t : Stores F output (2 + v) (drawn_priority s d c v) (2 + n + v) (drawn_owner s d v) = record {
            inside = omega (arith, p.size);
            inside_next = omega (arith, p.size);
            word = final_priority v h;
            word_next = final_owner v h;
          } in
          record {
            size = length_two t ∙ p.size;
            priorities = two_first t (2 + (v + 1)) (omega arith) p.priorities;
            owners = two_second t (2 + n + (v + 1)) (omega arith) p.owners;
            sources = two_keep t p.sources;
            targets = two_keep t p.targets;
            beyond = two_keep t p.beyond;
          }

      -- edge e
      pub progress_edge : e < n * d
          → Progress s n d c old v (e + 1) (slice_set (slice_set output (2 + 2 * n + e) (e / d)) (2 + 2 * n + n * d + e) (drawn_target s n d e))
      progress_edge h =
          let t : Stores F output (2 + 2 * n + e) (e / d) (2 + 2 * n + n * d + e) (drawn_target s n d e) = record {
            inside = omega (arith, p.size);
            inside_next = omega (arith, p.size);
            word = final_source e h;
            word_next = final_target e h;
          } in
          record {
            size = length_two t ∙ p.size;
            priorities = two_keep t p.priorities;
            owners = two_keep t p.owners;
            sources = two_first t (2 + 2 * n + (e + 1)) (omega arith) p.sources;
            targets = two_second t (2 + 2 * n + n * d + (e + 1)) (omega arith) p.targets;
            beyond = two_keep t p.beyond;
          }

    -- all of it
    pub progress_end : (v : ℕ) → v ≡ n → (output : List ℕ) → Progress s n d c old v (v * d) output → output ≡ F
    progress_end v all output q = ext_get_or 0 output F (q.size ∙ sym whole) (λ i h. word (rw all at q) i (omega (arith, q.size)))
      where
        whole : length F ≡ length old
        whole = length_written (seed_table s n d c) old (omega (arith, length_seed_table s n d c))

        word : Progress s n d c old n (n * d) output → (i : ℕ) → i < length old → slice_index output i ≡ slice_index F i
        word p i h = elim (dec_lt i (2 + n)) [
          | yes l ↦ p.priorities i (omega arith) l
          | no a ↦ elim (dec_lt i (2 + n + n)) [
            | yes l ↦ p.owners i (omega arith) l
            | no b ↦ elim (dec_lt i (2 + 2 * n + n * d)) [
              | yes l ↦ p.sources i (omega arith) l
              | no k ↦ elim (dec_lt i (2 + 2 * n + n * d + n * d)) [ yes l ↦ p.targets i (omega arith) l | no m ↦ p.beyond i (omega arith) h ]
            ]
          ]
        ]

-- ---- the table draw by draw

module _ (n d v : ℕ) (degree : 0 < d) (h : v < n) where
  pub edges_start : (state : ℕ) (output : List ℕ) → EdgesDrawn n d v 0 state output state output
  edges_start state output s c old u = rw (add-zero (v * d)) u

  module _ (i state state' : ℕ) (output output' : List ℕ) where
    abbrev edge : ℕ
    edge = v * d + i

    -- edge i of v
    pub edges_more : i < d → table_length n (n * d) ≤ length output → EdgesDrawn n d v i state output state' output'
        → EdgesDrawn n d v (i + 1) state output (step state') (slice_set (slice_set output' (2 + 2 * n + edge) v) (2 + 2 * n + n * d + edge) (draw_of state' % n))
    edges_more l fits f s c old u =
        let w = f s c old u in
        let m : edge < n * d = digits_lt h l in
        let row : edge / d ≡ v = digits_div v l in
        let column : edge % d ≡ i = digits_mod v l in
        let p = progress_edge s n d c old (rw u.words.size at fits) (v + 1) edge output' w.words m in
        let e : v * d + (i + 1) ≡ edge + 1 = omega arith in
        let k : v * (2 + d) + (2 + (i + 1)) ≡ v * (2 + d) + (2 + i) + 1 = omega arith in
        record {
          words = rw (e, w.drawn) (rw (row, column) at p);
          drawn = rw (k, state_more s (v * (2 + d) + (2 + i))) (ap step w.drawn);
        }

  -- vertex v: its priority and its owner, then its edges
  pub vertex_more : (c state state' : ℕ) (output output' : List ℕ) → table_length n (n * d) ≤ length output
      → EdgesDrawn n d v d (step (step state)) (slice_set (slice_set output (2 + v) (draw_of state % c)) (2 + n + v) (draw_of (step state) % 2)) state' output'
      → VertexDrawn n d c v state output state' output'
  vertex_more c state state' output output' fits f s old u =
      let a : v * (2 + d) ≡ v * (2 + d) + 0 = omega arith in
      let x : state ≡ state_after s (v * (2 + d) + 0) = rw a at u.drawn in
      let y : step state ≡ state_after s (v * (2 + d) + 1) = rw (state_more s (v * (2 + d)), u.drawn) refl in
      let b : v * (2 + d) + 2 ≡ v * (2 + d) + 1 + 1 = omega arith in
      let z : step (step state) ≡ state_after s (v * (2 + d) + 2) = rw (b, state_more s (v * (2 + d) + 1)) (ap step y) in
      let p = progress_vertex s n d c old (rw u.words.size at fits) v (v * d) output u.words h in
      let w = f s c old (record { words = rw (y, x) p; drawn = z }) in
      let e : (v + 1) * d ≡ v * d + d = omega arith in
      let k : (v + 1) * (2 + d) ≡ v * (2 + d) + (2 + d) = omega arith in
      rw (e, k) w

-- before the first draw
pub underway_start : (s n d c : ℕ) (old : List ℕ) → table_length n (n * d) ≤ length old → Underway s n d c old 0 0 0 s (slice_set (slice_set old 0 n) 1 (n * d))
unfolding state_after
underway_start s n d c old fits = record { words = progress_start s n d c old fits; drawn = refl }

pub room_kept : {n d : ℕ} {output output' : List ℕ} → TableFits n d output → length output' ≡ length output → TableFits n d output'
room_kept r e = record { some = r.some; vertices = r.vertices; degree = r.degree; edges = r.edges; fits = omega (arith, r.fits) }
