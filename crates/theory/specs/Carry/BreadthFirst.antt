-- Breadth-first search over pairs of numbers: document 02, CR 4, "numbered as found, breadth first"; "links stand in the order followed".
-- It goes by the moves of a pair, in the order in which they are followed.
use Rattle.std.specs.Prelude.{Bool, cond, List, [], ◌∷◌, ◌++◌, ℕ, zero, suc, eqb, ltb, length, get_or}
use Rattle.theory.specs.Logic.Bools.{◌&◌}
use Rattle.theory.specs.Logic.Range.{first}

-- the pairs found so far, by number, and the links between their numbers
pub record Found : Type 0 where
  pub pairs : List (ℕ × ℕ)
  pub links : List (ℕ × ℕ)

-- the first pair alone
abbrev pub start_at : ℕ × ℕ → Found
start_at x = record { pairs = x ∷ []; links = [] }

-- pair k is (i, u)
unfoldable pub is_at : List (ℕ × ℕ) → ℕ → ℕ → ℕ → Bool
is_at xs i u k = eqb (get_or xs k (0, 0)).0 i & eqb (get_or xs k (0, 0)).1 u

-- the number of the pair (i, u): the next free one where it isn't found yet
unfoldable pub number_of : List (ℕ × ℕ) → ℕ → ℕ → ℕ
number_of xs i u = first (is_at xs i u) 0 (length xs)

-- a move from pair k to the pair x
unfoldable pub visit : ℕ → Found → ℕ × ℕ → Found
visit k s x = record {
  pairs = cond (ltb (number_of s.pairs x.0 x.1) (length s.pairs)) s.pairs (s.pairs ++ (x ∷ []));
  links = s.links ++ ((k, number_of s.pairs x.0 x.1) ∷ []);
}

unfoldable pub visits : ℕ → Found → List (ℕ × ℕ) → Found
visits k s [] = s
visits k s (x ∷ xs) = visits k (visit k s x) xs

-- the moves of pairs k, k + 1, .. in turn, of f pairs at most. The `let` stops the search where no pair is left.
unfoldable pub search : (ℕ × ℕ → List (ℕ × ℕ)) → ℕ → ℕ → Found → Found
search moves zero k s = s
search moves (suc f) k s =
    let r = search moves f (suc k) (visits k s (moves (get_or s.pairs k (0, 0)))) in
    cond (ltb k (length s.pairs)) r s
