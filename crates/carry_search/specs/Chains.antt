-- The pairs found, in two arrays, and for each value of a hash a chain of the pairs that have it, from the latest back.
use Rattle.std.specs.Prelude.{◌≡◌, List, ℕ, ◌+◌, ◌*◌, ◌%◌, ◌<◌, eqb, get_or, set}
use Rattle.theory.specs.Logic.Range.{tabulate}
use Rattle.theory.proofs.Plans.LinkLaws.{Single}
use Rattle.table.specs.Limits.{position_limit}
use Rattle.carry_search.specs.LastBelow.{last}

-- the first c entries of two parallel arrays
unfoldable pub pairs_in : List ℕ → List ℕ → ℕ → List (ℕ × ℕ)
pairs_in xs ys c = tabulate c (λ k. (get_or xs k 0, get_or ys k 0))

-- the hash of the pair (i, u), which tells its chain. Chains are as many as positions, so that of one vertex each chain has one pair at most;
-- 2,531 is nearest to that number by the golden ratio, so that pairs of a few positions and a few vertices are spread
unfoldable pub chain_of : ℕ → ℕ → ℕ
chain_of i u = (i + 2531 * u) % position_limit

-- that of pair k
abbrev pub chain_at : List ℕ → List ℕ → ℕ → ℕ
chain_at olds vertices k = chain_of (get_or olds k 0) (get_or vertices k 0)

-- chain h starts at its latest pair, and goes on from pair k to the one before; 0 ends it, and 1 + k stands for k
pub record Chains (olds vertices heads nexts : List ℕ) (pairs : ℕ) : Type 0 where
  pub head : (h : ℕ) → h < position_limit → get_or heads h 0 ≡ last (λ k. eqb (chain_at olds vertices k) h) pairs
  pub next : (k : ℕ) → k < pairs → get_or nexts k 0 ≡ last (λ j. eqb (chain_at olds vertices j) (chain_at olds vertices k)) k

-- the pairs are chained, each has a position, and no two are the same
pub record Held (olds vertices heads nexts : List ℕ) (pairs : ℕ) : Type 0 where
  pub chains : Chains olds vertices heads nexts pairs
  pub old_lt : (k : ℕ) → k < pairs → get_or olds k 0 < position_limit
  pub single : Single (pairs_in olds vertices pairs)

-- the pair (i, u) is added, at the head of its chain
pub record Added (pairs i u : ℕ) (olds vertices heads nexts olds' vertices' heads' nexts' : List ℕ) : Type 0 where
  pub old : olds' ≡ set olds pairs i
  pub vertex : vertices' ≡ set vertices pairs u
  pub head : heads' ≡ set heads (chain_of i u) (pairs + 1)
  pub next : nexts' ≡ set nexts pairs (get_or heads (chain_of i u) 0)
