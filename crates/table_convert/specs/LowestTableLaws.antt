-- Laws of a converted table: M, its words by place, and its game, which is the other one with each priority q turned into M − q.
use Rattle.std.specs.Prelude.{◌≡◌, refl, List, [], ◌∷◌, ◌++◌, length}
use Rattle.std.proofs.Math.Path.{sym, ap, ap₂}
use Rattle.std.proofs.Common.{◌∙◌}
use Prim.Native.Nat.{ℕ, suc, ◌+◌, ◌-◌, ◌*◌, ◌%◌, ◌≤◌, ◌<◌}
use native.Mathlib.Omega.{arith}
use Rattle.std.proofs.Math.Dec.{eqb}
use Rattle.std.proofs.Math.ListN.{get_or, drop}
use Rattle.theory.specs.Logic.Bools.{◌&◌}
use Rattle.theory.specs.Logic.Range.{tabulate}
use Rattle.theory.proofs.Logic.RangeLaws.{any_ext}
use Rattle.theory.proofs.Logic.ListLaws.{length_tabulate, get_d_tabulate}
use Rattle.theory.specs.Games.Game.{edge_count}
use Rattle.theory.specs.Games.Agreement.{AgreeBy}
use Rattle.theory.proofs.Games.AgreementLaws.{agree_edge_count}
use Rattle.table.specs.Table.{vertex_count, table_edges, priority_at, owner_at, source_at, target_at, table_length, player_of, is_edge, game_of}
use Rattle.table.specs.Answers.{accepted, written}
use Rattle.table.specs.AnswersLaws.{length_written, get_d_written, get_d_written_beyond}
use Rattle.table.specs.Reading.{read_answer}
use Rattle.table.specs.ReadingLaws.{read_accepts}
use Rattle.table.specs.WellFormed.{WellFormed}
use Rattle.table.specs.Highest.{highest_of}
use Rattle.table.specs.HighestLaws.{highest_of_ge, highest_of_at}
use Rattle.table_convert.specs.LowestTable.{highest, even_from, even_above, lowered, lowest_table}

-- ---- M: even, not below the highest, and the smallest such

pub even_from_even : (q : ℕ) → even_from q % 2 ≡ 0
unfolding even_from
even_from_even q = omega arith

pub even_from_ge : (q : ℕ) → q ≤ even_from q
unfolding even_from
even_from_ge q = omega arith

pub even_from_least : (q k : ℕ) → k % 2 ≡ 0 → q ≤ k → even_from q ≤ k
unfolding even_from
even_from_least q k e h = omega arith

pub priority_le : (g : List ℕ) (v : ℕ) → v < vertex_count g → priority_at g v ≤ even_above g
priority_le g v h = omega (arith, highest_of_ge (vertex_count g) (priority_at g) v h, even_from_ge (highest g))

-- ---- words by place

module _ (g : List ℕ) where
  abbrev new : List ℕ
  new = vertex_count g ∷ table_edges g ∷ tabulate (vertex_count g) (lowered g)

  length_new : length new ≡ 2 + vertex_count g
  length_new = omega (arith, length_tabulate (vertex_count g) (lowered g))

  -- sizes and priorities, then the rest of the table
  pub lowest_parts : lowest_table g ≡ new ++ drop (2 + vertex_count g) g
  unfolding lowest_table written
  lowest_parts = ap (λ (k : ℕ). new ++ drop k g) length_new

  pub lowest_vertices : vertex_count (lowest_table g) ≡ vertex_count g
  unfolding lowest_table
  lowest_vertices = get_d_written new g 0 0 (omega (arith, length_new))

  pub lowest_edges : table_edges (lowest_table g) ≡ table_edges g
  unfolding lowest_table
  lowest_edges = get_d_written new g 1 0 (omega (arith, length_new))

  pub lowest_priority : (v : ℕ) → v < vertex_count g → priority_at (lowest_table g) v ≡ lowered g v
  unfolding lowest_table
  lowest_priority v h =
      let e : 2 + v ≡ suc (suc v) = omega arith in
      get_d_written new g (2 + v) 0 (omega (arith, length_new))
      ∙ ap (λ (i : ℕ). get_or new i 0) e
      ∙ get_d_tabulate (vertex_count g) (lowered g) 0 v h

  -- words beyond the priorities stand as they did
  word_kept : (i : ℕ) → 2 + vertex_count g ≤ i → get_or (lowest_table g) i 0 ≡ get_or g i 0
  unfolding lowest_table
  word_kept i h = get_d_written_beyond new g i 0 (omega (arith, length_new))

  pub lowest_owner : (v : ℕ) → owner_at (lowest_table g) v ≡ owner_at g v
  lowest_owner v = rw lowest_vertices (word_kept (2 + vertex_count g + v) (omega arith))

  pub lowest_source : (j : ℕ) → source_at (lowest_table g) j ≡ source_at g j
  lowest_source j = rw lowest_vertices (word_kept (2 + 2 * vertex_count g + j) (omega arith))

  pub lowest_target : (j : ℕ) → target_at (lowest_table g) j ≡ target_at g j
  lowest_target j = rw (lowest_vertices, lowest_edges) (word_kept (2 + 2 * vertex_count g + table_edges g + j) (omega arith))

  -- converted again, M isn't larger
  pub lowest_falls : 0 < vertex_count g → even_above (lowest_table g) ≤ even_above g
  lowest_falls some =
      let (v, h, e) = highest_of_at (vertex_count (lowest_table g)) (priority_at (lowest_table g)) (omega (arith, lowest_vertices)) in
      even_from_least (highest (lowest_table g)) (even_above g) (even_from_even (highest g)) (omega (arith, lowest_priority v (omega (arith, lowest_vertices))))

  -- ---- its game

  lowest_edge : (v w : ℕ) → (game_of g).edge v w ≡ (game_of (lowest_table g)).edge v w
  unfolding game_of is_edge
  lowest_edge v w =
      rw lowest_edges
      (any_ext (table_edges g) _ _ (λ j h. ap₂ (λ s t. eqb s v & eqb t w) (sym (lowest_source j)) (sym (lowest_target j))))

  pub lowest_agree : AgreeBy (λ q. even_above g - q) (game_of g) (game_of (lowest_table g))
  unfolding game_of
  lowest_agree = record {
    size = sym lowest_vertices;
    priority = λ v h. sym (lowest_priority v h);
    apart = λ v w h k e. omega (arith, priority_le g v h, priority_le g w k);
    owner = λ v h. ap player_of (sym (lowest_owner v));
    edge = λ v w h k. lowest_edge v w;
  }

  -- ---- of a well-formed table

  module _ (well : WellFormed g) where
    pub length_lowest : length (lowest_table g) ≡ table_length (vertex_count g) (table_edges g)
    unfolding lowest_table
    length_lowest = length_written new g (omega (arith, length_new, well.size)) ∙ well.size

    lowest_well : WellFormed (lowest_table g)
    lowest_well = record {
      some = omega (arith, lowest_vertices, well.some);
      vertices = omega (arith, lowest_vertices, well.vertices);
      edges = omega (arith, lowest_edges, well.edges);
      size = omega (arith, length_lowest, lowest_vertices, lowest_edges);
      owners = λ v h. omega (arith, lowest_owner v, lowest_vertices, well.owners v (omega (arith, lowest_vertices)));
      sources = λ j h. omega (arith, lowest_source j, lowest_vertices, well.sources j (omega (arith, lowest_edges)));
      targets = λ j h. omega (arith, lowest_target j, lowest_vertices, well.targets j (omega (arith, lowest_edges)));
      total = λ v h.
          let (j, l, e) = well.total v (omega (arith, lowest_vertices)) in
          (j, omega (arith, lowest_edges), lowest_source j ∙ e);
    }

    -- the reader accepts it, with the counts that it gives for g
    pub lowest_read : read_answer (lowest_table g) ≡ accepted (vertex_count g ∷ table_edges g ∷ edge_count (game_of g) ∷ [])
    lowest_read = read_accepts (lowest_table g) lowest_well ∙ rw (lowest_vertices, lowest_edges, agree_edge_count lowest_agree)

-- ---- a table, computed: the highest priority is 3, so M is 4

pub lowest_example : lowest_table (2 ∷ 2 ∷ 3 ∷ 0 ∷ 0 ∷ 1 ∷ 0 ∷ 1 ∷ 1 ∷ 0 ∷ []) ≡ 2 ∷ 2 ∷ 1 ∷ 4 ∷ 0 ∷ 1 ∷ 0 ∷ 1 ∷ 1 ∷ 0 ∷ []
unfolding lowest_table written tabulate highest_of even_from
lowest_example = refl
