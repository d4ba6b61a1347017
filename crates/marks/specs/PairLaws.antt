-- The pair test by searches over an index: each of document 01's four rows is one search for a successor that decides it.
use Rattle.std.specs.Prelude.{◌≡◌, refl, Bool, not, List, ℕ, ◌+◌, ◌*◌, ◌≤◌, ◌<◌, length, get_or}
use Rattle.std.proofs.Math.Path.{ap, fun_ext}
use Rattle.std.proofs.Common.{◌∙◌, mul-one, add_comm}
use Rattle.std.proofs.Math.Bool.{true, false, beq, not-not}
use Rattle.std.proofs.Math.Arith.{digits_lt}
use Rattle.theory.proofs.Logic.BoolsLaws.{So_ext, So_not, clash, not_in, not_out, imp_fails}
use Rattle.theory.proofs.Logic.RangeLaws.{all_fails}
use Rattle.theory.specs.Order.Passes.{rel_of}
use Rattle.theory.specs.Games.Game.{even, same, Game, Succ}
use Rattle.theory.specs.Order.Order.{all_next, any_next, moves, test}
use Rattle.theory.proofs.Order.OrderLaws.{all_next_out, any_next_in, any_next_out}
use Rattle.table.specs.Limits.{vertex_limit}
use Rattle.table.specs.Table.{vertex_count, owner_at, game_of}
use Rattle.table.specs.TableLaws.{own_even}
use Rattle.index.specs.Index.{EdgeIndex}
use Rattle.index.specs.IndexLaws.{target_below, some_next}
use Rattle.marks.specs.Marks.{marks_length, is_mark, relation}
use Rattle.marks.specs.MarksLaws.{in_marks}
use Rattle.marks.specs.MarkSearch.{has_mark, search_ends, searched, Reaches}

-- ---- tests of Bools

beq_true : {b c : Bool} → b ≡ c → beq b true ≡ c
beq_true {b} {c} e = same b ∙ e
  where
    same : (b : Bool) → beq b true ≡ b
    same true = refl
    same false = refl

beq_false : {b c : Bool} → b ≡ c → beq b false ≡ not c
beq_false {b} {c} e = same b ∙ ap not e
  where
    same : (b : Bool) → beq b false ≡ not b
    same true = refl
    same false = refl

-- ---- each and some successor

module _ (G : Game) (v : ℕ) where
  any_ext : (p q : ℕ → Bool) → ((x : ℕ) → p x ≡ q x) → any_next G v p ≡ any_next G v q
  any_ext p q e = ap (any_next G v) (fun_ext e)

  all_next_fails : (p : ℕ → Bool) → all_next G v p ≡ false → (x : ℕ) × Succ G v x × (p x ≡ false)
  unfolding all_next
  all_next_fails p f =
      let r = all_fails G.n _ f in
      let i = imp_fails (G.edge v r.0) (p r.0) r.2 in
      (r.0, record { inside = r.1; along = i.0 }, i.1)

  -- some successor fails exactly where not each passes
  any_not : (p q : ℕ → Bool) → ((x : ℕ) → q x ≡ not (p x)) → any_next G v q ≡ not (all_next G v p)
  any_not p q e =
      So_ext
      (λ t. let r = any_next_out G v q t in not_in (So_not (λ a. clash (all_next_out G v p a r.0 r.1) (not_out (rw (e r.0) at r.2)))))
      (λ t. let r = all_next_fails p (not_out t) in any_next_in G v q r.0 r.1 (e r.0 ∙ not_in r.2))

  all_not : (p q : ℕ → Bool) → ((x : ℕ) → q x ≡ not (p x)) → not (any_next G v q) ≡ all_next G v p
  all_not p q e = ap not (any_not p q e) ∙ not-not (all_next G v p)

-- ---- searches over an index

module _ (g starts targets : List ℕ) (index : EdgeIndex g starts targets) where
  -- a search in a search
  search_next : (marks : List ℕ) (across down : ℕ) (wanted found : Bool) (v w : ℕ) → v < vertex_count g → w < vertex_count g
      → searched starts targets marks v w across down wanted found
      ≡ any_next (game_of g) v (λ x. beq (any_next (game_of g) w (λ y. beq (is_mark marks (x * across + y * down)) wanted)) found)
  unfolding search_ends has_mark
  search_next marks across down wanted found v w hv hw =
      some_next g starts targets index v hv _ _ (λ k. ap (λ (b : Bool). beq b found) (some_next g starts targets index w hw _ _ (λ l. refl)))

-- ---- the four rows

-- the mark of x and y, where x's successors are those of v and where they are those of w
row_cell : (n : ℕ) (marks : List ℕ) (x y : ℕ) → beq (is_mark marks (x * n + y * 1)) true ≡ relation n marks x y
unfolding relation rel_of
row_cell n marks x y = rw (mul-one y) (beq_true refl)

row_gap : (n : ℕ) (marks : List ℕ) (x y : ℕ) → beq (is_mark marks (x * n + y * 1)) false ≡ not (relation n marks x y)
unfolding relation rel_of
row_gap n marks x y = rw (mul-one y) (beq_false {b = is_mark marks (x * n + y)} refl)

column_cell : (n : ℕ) (marks : List ℕ) (x y : ℕ) → beq (is_mark marks (x * 1 + y * n)) true ≡ relation n marks y x
unfolding relation rel_of
column_cell n marks x y = rw (mul-one x, add_comm x (y * n)) (beq_true refl)

module _ (g starts targets marks : List ℕ) (index : EdgeIndex g starts targets) (v w : ℕ) (hv : v < vertex_count g) (hw : w < vertex_count g) where
  -- every mark that the searches read is there
  reaches : (v w across down : ℕ) → v < vertex_count g → w < vertex_count g
      → ((x y : ℕ) → x < vertex_count g → y < vertex_count g → x * across + y * down < vertex_count g * vertex_count g)
      → vertex_count g ≤ vertex_limit → marks_length (vertex_count g) ≤ length marks
      → Reaches marks targets (get_or starts v 0) (get_or starts (v + 1) 0) (get_or starts w 0) (get_or starts (w + 1) 0) across down
  reaches v w across down hv hw cell few long i k a b a' b' =
      in_marks (vertex_count g) marks _ (cell (get_or targets i 0) (get_or targets k 0) (target_below index v i hv a b) (target_below index w k hw a' b')) few long

  pub reaches_rows : vertex_count g ≤ vertex_limit → marks_length (vertex_count g) ≤ length marks
      → Reaches marks targets (get_or starts v 0) (get_or starts (v + 1) 0) (get_or starts w 0) (get_or starts (w + 1) 0) (vertex_count g) 1
  reaches_rows = reaches v w (vertex_count g) 1 hv hw (λ x y hx hy. rw (mul-one y) (digits_lt hx hy))

  pub reaches_columns : vertex_count g ≤ vertex_limit → marks_length (vertex_count g) ≤ length marks
      → Reaches marks targets (get_or starts w 0) (get_or starts (w + 1) 0) (get_or starts v 0) (get_or starts (v + 1) 0) 1 (vertex_count g)
  reaches_columns = reaches w v 1 (vertex_count g) hw hv (λ x y hx hy. rw (mul-one x, add_comm x (y * vertex_count g)) (digits_lt hy hx))

  -- no v' lacks a marked w'
  pub row_even_even : owner_at g v ≡ 0 → owner_at g w ≡ 0
      → not (searched starts targets marks v w (vertex_count g) 1 true false) ≡ test even (game_of g) (game_of g) (relation (vertex_count g) marks) v w
  unfolding test moves
  row_even_even ov ow =
      rw (own_even g v, own_even g w, ov, ow, search_next g starts targets index marks (vertex_count g) 1 true false v w hv hw)
      (all_not (game_of g) v _ _ (λ x. beq_false (any_ext (game_of g) w _ _ (row_cell (vertex_count g) marks x))))

  -- no v' has an unmarked w'
  pub row_even_odd : owner_at g v ≡ 0 → owner_at g w ≡ 1
      → not (searched starts targets marks v w (vertex_count g) 1 false true) ≡ test even (game_of g) (game_of g) (relation (vertex_count g) marks) v w
  unfolding test moves
  row_even_odd ov ow =
      rw (own_even g v, own_even g w, ov, ow, search_next g starts targets index marks (vertex_count g) 1 false true v w hv hw)
      (all_not (game_of g) v _ _ (λ x. beq_true (any_not (game_of g) w _ _ (row_gap (vertex_count g) marks x))))

  -- some v' has a marked w'
  pub row_odd_even : owner_at g v ≡ 1 → owner_at g w ≡ 0
      → searched starts targets marks v w (vertex_count g) 1 true true ≡ test even (game_of g) (game_of g) (relation (vertex_count g) marks) v w
  unfolding test moves
  row_odd_even ov ow =
      rw (own_even g v, own_even g w, ov, ow, search_next g starts targets index marks (vertex_count g) 1 true true v w hv hw)
      (any_ext (game_of g) v _ _ (λ x. beq_true (any_ext (game_of g) w _ _ (row_cell (vertex_count g) marks x))))

  -- no w' lacks a marked v'
  pub row_odd_odd : owner_at g v ≡ 1 → owner_at g w ≡ 1
      → not (searched starts targets marks w v 1 (vertex_count g) true false) ≡ test even (game_of g) (game_of g) (relation (vertex_count g) marks) v w
  unfolding test moves
  row_odd_odd ov ow =
      rw (own_even g v, own_even g w, ov, ow, search_next g starts targets index marks 1 (vertex_count g) true false w v hw hv)
      (all_not (game_of g) w _ _ (λ x. beq_false (any_ext (game_of g) v _ _ (column_cell (vertex_count g) marks x))))
