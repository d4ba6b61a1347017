-- The refusals 85 to 89 in terms of logic.
use Rattle.std.specs.Prelude.{◌≡◌, ◌⊎◌, ◌≢◌, List, [], ◌∷◌, ◌++◌, ℕ, ◌+◌, ◌*◌, ◌%◌, ◌≤◌, ◌<◌, length, get_or}
use Rattle.table.specs.Table.{vertex_count, table_edges, priority_at, source_at, target_at}
use Rattle.table.specs.Rules.{Rule, placed, first_such}
use Rattle.large_table.specs.LargeRules.{large_rules}
use Rattle.large_moves.specs.Moves.{winner_at}
use Rattle.large_moves.specs.MoveRules.{Keeps, move_rules}
use Rattle.large_solution.specs.Places.{place_at, vertex_at, end_at, from_last}

-- priority q is over p: above it, or the same and the winner's
abbrev pub Above : ℕ → ℕ → ℕ → Type 0
Above winner p q = (p < q) ⊎ ((p ≡ q) × (p % 2 ≡ winner))

-- place j is over place i
abbrev pub OverPlace : List ℕ → List ℕ → List ℕ → ℕ → ℕ → Type 0
OverPlace g s c i j = let at = vertex_at c (vertex_count g) in Above (winner_at s (at i)) (priority_at g (at i)) (priority_at g (at j))

-- the place that is named for i ends its longest run: it is i or a place after it, all after i up to it is over i, and the next place isn't
pub record Longest (g s c : List ℕ) (i : ℕ) : Type 0 where
  pub last : (end_at c (vertex_count g) i ≡ i) ⊎ ((i < end_at c (vertex_count g) i) × (end_at c (vertex_count g) i < vertex_count g))
  pub within : (j : ℕ) → i < j → j ≤ end_at c (vertex_count g) i → OverPlace g s c i j
  pub stops : end_at c (vertex_count g) i + 1 < vertex_count g → ¬ OverPlace g s c i (end_at c (vertex_count g) i + 1)

-- edge j is kept, and it goes beyond its source's run, or not down from a priority of the loser's to one no lower
pub record Climbs (g s c : List ℕ) (j : ℕ) : Type 0 where
  pub keeps : Keeps g s j
  pub climbs : let v = source_at g j in let w = target_at g j in
      (end_at c (vertex_count g) (place_at c v) < place_at c w)
      ⊎ ((place_at c v ≤ place_at c w) × (priority_at g v % 2 ≢ winner_at s v) × (priority_at g v ≤ priority_at g w))

-- 85 to 88: the words aren't those of an order with its longest runs; 88 goes from the last place down.
-- 89: this order doesn't show that the solution is right. That says nothing about the winners: another order may (`order_refused` and
-- `order_accepted` of `Worked`); none does exactly if some closed walk over kept edges is the loser's (`good_exactly`).
abbrev pub place_rules : List ℕ → List ℕ → List ℕ → List Rule
place_rules g s c =
    let n = vertex_count g in
    placed 85 (length c ≢ 3 * n) (length c)
    ∷ first_such 86 (λ k. n ≤ get_or c k 0) 0 (3 * n) (λ k. k)
    ∷ first_such 87 (λ v. vertex_at c n (place_at c v) ≢ v) 0 n (λ v. v)
    ∷ first_such 88 (λ k. ¬ Longest g s c (from_last n k)) 0 n (from_last n)
    ∷ first_such 89 (Climbs g s c) 0 (table_edges g) (λ j. j)
    ∷ []

-- the rules of the whole call
abbrev pub solution_rules : List ℕ → List ℕ → List ℕ → List Rule
solution_rules g s c = large_rules g ++ (move_rules g s ++ place_rules g s c)
