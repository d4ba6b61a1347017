-- A game as a game table: document 01, "Both games are game tables of k vertices, class order", and document 02, CR 1, "Quotient and
-- reduced tables shall list edges by source class, ascending, then by target class, ascending".
use Rattle.std.specs.Prelude.{◌≡◌, ◌↔◌, List, ◌∷◌, ◌++◌, map, ℕ, ◌<◌, length, get_or}
use Rattle.std.proofs.Math.Bool.{So}
use Rattle.theory.specs.Logic.Range.{tabulate, pairs_of}
use Rattle.theory.specs.Games.Game.{Player, even, odd, Game, Succ}
use Rattle.theory.specs.Plans.Plan.{linked}

-- 0 Even, 1 Odd
unfoldable pub owner_word : Player → ℕ
owner_word even = 0
owner_word odd = 1

-- the edges of K, by source, ascending, then by target, ascending
abbrev pub edges_of : Game → List (ℕ × ℕ)
edges_of K = pairs_of K.n K.edge

-- sizes, priorities, owners, sources, targets of a game with these edges
unfoldable pub table_words : Game → List (ℕ × ℕ) → List ℕ
table_words K es =
    K.n ∷ length es ∷ (tabulate K.n K.priority ++ (tabulate K.n (λ c. owner_word (K.owner c)) ++ (map (λ e. e.0) es ++ map (λ e. e.1) es)))

-- es lists the edges of K, each a single time
pub record Lists (K : Game) (es : List (ℕ × ℕ)) : Type 0 where
  pub edges : (c d : ℕ) → So (linked es c d) ↔ ((c < K.n) × Succ K c d)
  pub single : (i j : ℕ) → i < j → j < length es → get_or es i (0, 0) ≡ get_or es j (0, 0) → ⊥
