-- The kept edges of chosen words: every vertex has a successor, and plays along kept edges stay where the same winner is named.
use Rattle.std.specs.Prelude.{◌≡◌, refl, false, List, ℕ, ◌%◌, ◌≤◌, ◌<◌, eqb}
use Rattle.std.proofs.Common.{sym, inl, inr, mod-lt, arith}
use Rattle.std.proofs.Math.Path.{ap}
use Rattle.std.proofs.Math.Bool.{So}
use Rattle.std.proofs.Math.Decide.{ℕ_discrete}
use borrow.Author.Tests.{eqb-true, eqb-false, eq-eqb, ne_eqb}
use Rattle.theory.proofs.Logic.BoolsLaws.{clash, So_ext, not_in, not_out, and_in, and_out, or_left, or_right}
use Rattle.theory.proofs.Logic.RangeLaws.{any_in, any_out}
use Rattle.theory.specs.Games.Game.{parity, own, Total}
use Rattle.theory.proofs.Games.GameLaws.{same_refl}
use Rattle.table.specs.Table.{vertex_count, table_edges, owner_at, source_at, target_at, player_of, is_edge, Listed, game_of}
use Rattle.table.specs.TableLaws.{edge_in, edge_out}
use Rattle.theory.specs.Solutions.Solution.{Kept}
use Rattle.large_table.specs.Reading.{LargeFormed}
use Rattle.large_table.specs.WordsLaws.{player_one}
use Rattle.large_moves.specs.Moves.{winner_at, move_at, keeps_edge}
use Rattle.large_moves.specs.Chosen.{winner_of, kept_edge, KeptAt, Chosen}
use Rattle.large_moves.specs.MoveRules.{Strays, Leaves}
use Rattle.large_moves.proofs.MovesLaws.{keeps_says}

-- ---- a player by its number

pub parity_number : (x q : ℕ) → x ≤ 1 → parity (player_of x) q ≡ eqb (q % 2) x
unfolding parity player_of
parity_number x q h = elim (ℕ_discrete x 0) [
  | yes e ↦ rw e refl
  | no d ↦ (
      let e : x ≡ 1 = omega arith in
      let l : q % 2 < 2 = mod-lt q (omega arith) in
      rw e (So_ext
      (λ t. let z = eqb-false (q % 2) 0 (not_out t) in eq-eqb (q % 2) 1 (omega arith))
      (λ t. let z = eqb-true (q % 2) 1 t in not_in (ne_eqb (q % 2) 0 (omega arith)))))
]

-- ---- kept edges

module _ (g s : List ℕ) where
  pub kept_out : (v w : ℕ) → So (kept_edge g s v w) → KeptAt g s v w
  unfolding kept_edge is_edge
  kept_out v w t =
      let r = any_out t in
      let b = and_out r.2 in
      let e = and_out b.0 in record {
        at = r.0;
        listed = record { inside = r.1; source = eqb-true (source_at g r.0) v e.0; target = eqb-true (target_at g r.0) w e.1 };
        keeps = b.1;
      }

  pub kept_in : (v w j : ℕ) → Listed g v w j → So (keeps_edge g s (vertex_count g) v j) → So (kept_edge g s v w)
  unfolding kept_edge is_edge
  kept_in v w j l t = any_in (table_edges g) _ j l.inside (and_in (and_in (eq-eqb (source_at g j) v l.source) (eq-eqb (target_at g j) w l.target)) t)

module _ (g s : List ℕ) (formed : LargeFormed g) (x : Chosen g s) where
  -- the move is kept
  keeps_move : (v : ℕ) → So (keeps_edge g s (vertex_count g) v (move_at s (vertex_count g) v))
  unfolding keeps_edge
  keeps_move v = or_right _ (eq-eqb (move_at s (vertex_count g) v) (move_at s (vertex_count g) v) refl)

  -- and so is every edge where the winner doesn't move
  keeps_all : (v j : ℕ) → own (game_of g) (winner_of s v) v ≡ false → So (keeps_edge g s (vertex_count g) v j)
  unfolding keeps_edge game_of
  keeps_all v j e = or_left _ (not_in (ne_eqb (winner_at s v) (owner_at g v) (λ q. clash (rw q (same_refl (player_of (owner_at g v)))) e)))

  move_edge : (v : ℕ) → v < vertex_count g → let j = move_at s (vertex_count g) v in Listed g v (target_at g j) j
  move_edge v h = record { inside = x.move v h; source = x.own v h; target = refl }

  -- every vertex has a successor
  pub chosen_total : Total (game_of g)
  unfolding game_of
  chosen_total v h =
      let j = move_at s (vertex_count g) v in
      (target_at g j, record { inside = formed.targets j (x.move v h); along = edge_in g v (target_at g j) j (move_edge v h) })

  pub chosen_kept : Kept (game_of g) (winner_of s) (kept_edge g s)
  unfolding game_of
  chosen_kept = record {
    source = λ v w t. let r = kept_out g s v w t in omega (arith, r.listed.source, formed.sources r.at r.listed.inside);
    target = λ v w t. let r = kept_out g s v w t in omega (arith, r.listed.target, formed.targets r.at r.listed.inside);
    follows = λ v w t. let r = kept_out g s v w t in edge_in g v w r.at r.listed;
    stays = λ v w t. let r = kept_out g s v w t in same_winner v w r;
    moves = λ v h o. let j = move_at s (vertex_count g) v in (target_at g j, kept_in g s v (target_at g j) j (move_edge v h) (keeps_move v));
    answers = λ v w h o t. let r = edge_out g v w t.along in kept_in g s v w r.0 r.1 (keeps_all v r.0 o);
  }
    where
      same_winner : (v w : ℕ) → KeptAt g s v w → winner_of s v ≡ winner_of s w
      same_winner v w r =
          let l = r.listed in
          let q = x.stays r.at l.inside (rw l.source r.keeps) in
          ap player_of (sym (rw (l.source, l.target) at q))

-- ---- what the rules 83 and 84 say about the game

module _ (g s : List ℕ) where
  -- where 83 applies, the move of v is no edge of v's
  pub stray_names_none : (v : ℕ) → Strays g s v → (w : ℕ) → ¬ Listed g v w (move_at s (vertex_count g) v)
  stray_names_none v (inl l) w e = omega (arith, e.inside)
  stray_names_none v (inr d) w e = d e.source

  -- where 84 applies, these winners aren't closed under the kept edges
  pub leaving_fails : (j : ℕ) → LargeFormed g → ((v : ℕ) → v < vertex_count g → winner_at s v ≤ 1) → j < table_edges g → Leaves g s j
      → ¬ Kept (game_of g) (winner_of s) (kept_edge g s)
  leaving_fails j formed winners h l kept =
      let v = source_at g j in
      let w = target_at g j in
      let t = kept_in g s v w j (record { inside = h; source = refl; target = refl }) ((keeps_says g s j).1 l.keeps) in
      l.away (player_one (winner_at s w) (winner_at s v) (winners w (formed.targets j h)) (winners v (formed.sources j h)) (sym (kept.stays v w t)))
