-- The refusals 81 to 84 in terms of logic.
use Rattle.std.specs.Prelude.{◌≡◌, ◌⊎◌, ◌≢◌, List, [], ◌∷◌, ℕ, ◌*◌, ◌≤◌, ◌<◌, length}
use Rattle.table.specs.Table.{vertex_count, table_edges, owner_at, source_at, target_at}
use Rattle.table.specs.Rules.{Rule, placed, first_such}
use Rattle.large_moves.specs.Moves.{winner_at, move_at}

-- the move of v is no edge, or one of another vertex
abbrev pub Strays : List ℕ → List ℕ → ℕ → Type 0
Strays g s v = (table_edges g ≤ move_at s (vertex_count g) v) ⊎ (source_at g (move_at s (vertex_count g) v) ≢ v)

-- the winner doesn't own the source of edge j, or makes this move
abbrev pub Keeps : List ℕ → List ℕ → ℕ → Type 0
Keeps g s j = (winner_at s (source_at g j) ≢ owner_at g (source_at g j)) ⊎ (move_at s (vertex_count g) (source_at g j) ≡ j)

-- edge j is kept and leads to a vertex of the other winner
pub record Leaves (g s : List ℕ) (j : ℕ) : Type 0 where
  pub away : winner_at s (target_at g j) ≢ winner_at s (source_at g j)
  pub keeps : Keeps g s j

-- 83: the solution names no move at the vertex (`stray_names_none`). This says nothing about the winners.
-- 84: plays along kept edges leave where their winner is named, so these winners with these moves are wrong (`leaving_fails`). If the loser
-- owns the source, the winner is wrong there or at the target (`refused_wrong` of `large_solution`); if the winner does, the move alone may be.
abbrev pub move_rules : List ℕ → List ℕ → List Rule
move_rules g s =
    let n = vertex_count g in
    placed 81 (length s ≢ 2 * n) (length s)
    ∷ first_such 82 (λ v. 1 < winner_at s v) 0 n (λ v. v)
    ∷ first_such 83 (Strays g s) 0 n (λ v. v)
    ∷ first_such 84 (Leaves g s) 0 (table_edges g) (λ j. j)
    ∷ []
