-- Laws of the flags of vertices and of pairs, and of edge numbers.
use Rattle.std.specs.Prelude.{◌≡◌, refl, not, List, ℕ, ◌+◌, ◌*◌, ◌/◌, ◌%◌, ◌≤◌, ◌<◌, leb, length, get_or, set, replicate}
use Rattle.std.proofs.Common.{sym, ◌∙◌, mul-le-mul, div-add-mod', arith, length-set, get_or-set_same, get_or-set_other, eq-eqb, ne_eqb, leb-false}
use Rattle.std.proofs.Math.Path.{ap}
use Rattle.std.proofs.Math.Decide.{ℕ_discrete}
use Rattle.std.proofs.Math.Arith.{digits_lt}
use Rattle.std.proofs.Math.Dec.{eqb}
use Rattle.std.proofs.lemmas.List.{length-replicate, get_or-replicate}
use Rattle.theory.specs.Logic.Bools.{◌or◌, bit}
use Rattle.theory.proofs.Logic.BoolsLaws.{bit_is_some}
use Rattle.theory.specs.Logic.Range.{any_below, first, tabulate}
use Rattle.theory.proofs.Logic.RangeLaws.{any_in, any_ext, any_more, any_same, first_before, first_ext}
use Rattle.theory.proofs.Logic.CountLaws.{count_ext, count_none, count_add, col_lt, digits_same}
use Rattle.theory.proofs.Logic.ListLaws.{tabulate_by, get_d_tabulate}
use Rattle.theory.specs.Games.Game.{edge_count}
use Rattle.words.specs.WordLaws.{digit_zero}
use Rattle.words.specs.Words.{has}
use Rattle.table.specs.Limits.{vertex_limit, pair_limit, pair_words}
use Rattle.table.specs.Table.{vertex_count, table_edges, source_at, target_at, table_length, is_edge, game_of}
use Rattle.table.specs.Reading.{lacks_edge, first_end, first_lacking}
use Rattle.table.specs.WellFormed.{WellFormed}
use Rattle.table.specs.Flags.{at_least, Sized, EndsInside, edge_number, Filled, Cleared, Raised, numbered, Flagged, different_below, flagged, EdgeFlags}

pub filled : (n x : ℕ) → Filled x (replicate n x)
filled n x = record { at = λ i h. get_or-replicate n i x 0 (rw (length-replicate n x) at h) }

-- ---- the flags of vertices

pub cleared_none : (g lacking : List ℕ) → Filled 1 lacking → Cleared g 0 lacking
unfolding any_below bit
cleared_none g lacking h = record { at = h.at }

-- one edge more: the flag of its source is cleared
pub cleared_more : (g : List ℕ) (j : ℕ) (lacking : List ℕ) → source_at g j < length lacking → Cleared g j lacking → Cleared g (j + 1) (set lacking (source_at g j) 0)
unfolding bit
cleared_more g j lacking l h = record { at = λ v m. go v (rw length-set at m) (ℕ_discrete (source_at g j) v) }
  where
    go : (v : ℕ) → v < length lacking → Dec (source_at g j ≡ v) → get_or (set lacking (source_at g j) 0) v 0 ≡ bit (not (any_below (j + 1) (λ k. eqb (source_at g k) v)))
    go v m (yes e) = rw (any_in (j + 1) (λ k. eqb (source_at g k) v) j (omega arith) (eq-eqb (source_at g j) v e), ← e) (get_or-set_same lacking (source_at g j) 0 0 l)
    go v m (no d) = rw (any_same j (λ k. eqb (source_at g k) v) (ne_eqb (source_at g j) v d)) (get_or-set_other lacking (source_at g j) v 0 0 (λ e. d (sym e)) ∙ h.at v m)

-- ---- the flags of pairs

pub flagged_none : (g flags : List ℕ) → pair_words ≤ length flags → Filled 0 flags → Flagged g 0 flags
unfolding has numbered any_below
flagged_none g flags l h = record { at = λ i m. rw (h.at (i / 64) (omega arith)) (digit_zero (i % 64)) }

-- one edge more: its flag is set
pub flagged_more : (g : List ℕ) (j : ℕ) (flags flags' : List ℕ) → Flagged g j flags → Raised flags flags' (edge_number g j) → Flagged g (j + 1) flags'
unfolding numbered
flagged_more g j flags flags' f r = record { at = λ i h. r i ∙ ap (λ b. b or eqb (edge_number g j) i) (f.at i h) ∙ sym (any_more j (λ k. eqb (edge_number g k) i)) }

-- no edge yet, none different
pub different_none : (g : List ℕ) → 0 ≡ different_below g 0
unfolding different_below numbered any_below
different_none g = sym (count_none _ _ (λ i h. refl))

-- ---- edge ends and edge numbers

-- a pair of vertices as one number
pub pair_lt : (n v x : ℕ) → n ≤ vertex_limit → v < n → x < n → v * n + x < pair_limit
pair_lt n v x h hv hx = omega (arith, digits_lt hv hx, mul-le-mul h h)

module _ (g : List ℕ) (n m : ℕ) (s : Sized g n m) where
  pub source_word : (j : ℕ) → get_or g (2 + 2 * n + j) 0 ≡ source_at g j
  source_word j = rw s.vertices

  pub edge_words_lem : (j : ℕ) → get_or g (2 + 2 * n + j) 0 * n + get_or g (2 + 2 * n + m + j) 0 ≡ edge_number g j
  unfolding edge_number
  edge_words_lem j = rw (s.edges, s.vertices)

module _ (g : List ℕ) (n m : ℕ) (s : Sized g n m) (ends : EndsInside g) where
  pub source_lt : (j : ℕ) → j < m → get_or g (2 + 2 * n + j) 0 < n
  source_lt j l = omega (arith, source_word g n m s j, ends.sources j (omega arith))

  pub edge_number_lt : (j : ℕ) → j < m → edge_number g j < pair_limit
  unfolding edge_number
  edge_number_lt j l =
      pair_lt (vertex_count g) (source_at g j) (target_at g j) (omega arith) (ends.sources j (omega arith)) (ends.targets j (omega arith))

  -- ---- different edges: an edge is counted unless its flag is set, and all edges flag as many pairs as the game has edges

  edge_pair_lt : (j : ℕ) → j < m → edge_number g j < vertex_count g * vertex_count g
  unfolding edge_number
  edge_pair_lt j l = digits_lt (ends.sources j (omega arith)) (ends.targets j (omega arith))

  -- one edge more
  pub different_step : (j : ℕ) (flags : List ℕ) → j < m → Flagged g j flags
      → different_below g (j + 1) ≡ different_below g j + bit (not (has flags (edge_number g j)))
  unfolding different_below numbered
  different_step j flags l f =
      count_ext (vertex_count g * vertex_count g) _ _ (λ i b. any_more j (λ k. eqb (edge_number g k) i))
      ∙ count_add (vertex_count g * vertex_count g) (numbered g j) (edge_number g j) (edge_pair_lt j l)
      ∙ ap (λ b. different_below g j + bit (not b)) (sym (f.at (edge_number g j) (edge_number_lt j l)))

  -- the pair (v, x) has the number of an edge exactly if it is one
  numbered_edge : (v x : ℕ) → x < vertex_count g → numbered g m (v * vertex_count g + x) ≡ (game_of g).edge v x
  unfolding numbered edge_number game_of is_edge
  numbered_edge v x h =
      rw s.edges (any_ext (table_edges g) _ _ (λ k l. digits_same (vertex_count g) (source_at g k) (target_at g k) v x (ends.targets k l) h))

  pub different_all : different_below g m ≡ edge_count (game_of g)
  unfolding different_below edge_count game_of
  different_all =
      let n = vertex_count g in
      count_ext (n * n) _ _ (λ i b. ap (numbered g m) (sym (div-add-mod' i n)) ∙ numbered_edge (i / n) (i % n) (col_lt n n i b))

  pub edge_flags : (flags : List ℕ) → pair_words ≤ length flags → Flagged g m flags → EdgeFlags g flags
  unfolding flagged
  edge_flags flags l f = record {
    long = l;
    edge = λ v x hv hx. f.at (v * vertex_count g + x) (pair_lt (vertex_count g) v x (omega arith) hv hx) ∙ numbered_edge v x hx;
  }

-- what a well-formed table gives
pub well_sized : {g : List ℕ} → WellFormed g → Sized g (vertex_count g) (table_edges g)
well_sized w = record { vertices = refl; edges = refl; few_vertices = w.vertices; few_edges = w.edges; size = w.size }

pub well_inside : {g : List ℕ} → WellFormed g → EndsInside g
well_inside w = record { sources = w.sources; targets = w.targets }

-- ---- what the reader knows after its rows 4 and 6

-- no word of an edge end is a first one not below n
pub ends_inside : (g : List ℕ) → table_length (vertex_count g) (table_edges g) ≤ first_end g → EndsInside g
unfolding first_end
ends_inside g l = record { sources = λ j h. below (2 + 2 * vertex_count g + j) (omega arith) (omega arith); targets = λ j h. below (2 + 2 * vertex_count g + table_edges g + j) (omega arith) (omega arith) }
  where
    below : (k : ℕ) → 2 + 2 * vertex_count g ≤ k → k < table_length (vertex_count g) (table_edges g) → get_or g k 0 < vertex_count g
    below k a b = leb-false (vertex_count g) (get_or g k 0) (first_before (λ k. leb (vertex_count g) (get_or g k 0)) (2 + 2 * vertex_count g) (table_length (vertex_count g) (table_edges g)) k a (omega arith))

-- ---- vertices without an edge out

pub lacking_flags : (g lacking : List ℕ) → Cleared g (table_edges g) lacking → lacking ≡ tabulate (length lacking) (λ v. bit (lacks_edge g v))
unfolding lacks_edge
lacking_flags g lacking h = tabulate_by (length lacking) (λ v. bit (lacks_edge g v)) 0 lacking refl h.at

pub lacking_first : (g : List ℕ) (k : ℕ) → vertex_count g ≤ k → first (at_least (tabulate k (λ v. bit (lacks_edge g v))) 1) 0 (vertex_count g) ≡ first_lacking g
unfolding first_lacking
lacking_first g k l =
    first_ext _ (lacks_edge g) 0 (vertex_count g)
    (λ i a h. rw (get_d_tabulate k (λ v. bit (lacks_edge g v)) 0 i (omega arith)) (bit_is_some (lacks_edge g i)))
