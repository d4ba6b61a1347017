-- Passes as rounds over relations, for any test of pairs of the numbers below n.
use Rattle.std.specs.Prelude.{◌≡◌, not, ℕ, suc, ◌*◌, ◌/◌, ◌%◌, ◌≤◌, ◌<◌}
use Rattle.theory.specs.Logic.Bools.{◌&◌}
use Rattle.theory.specs.Logic.Range.{first, count}
use Rattle.theory.specs.Order.Passes.{Rel, marked, rel_of, pass, settled, rounds, pair_test, pair_start}

-- how many pairs of numbers below n are in H
unfoldable pub relation_size : ℕ → Rel → ℕ
relation_size n H = count (n * n) (λ i. H (i / n) (i % n))

-- how many pairs of numbers below n are in H and not in H'
unfoldable pub cleared : ℕ → Rel → Rel → ℕ
cleared n H H' = count (n * n) (λ i. H (i / n) (i % n) & not (H' (i / n) (i % n)))

module _ (n : ℕ) (test : Rel → Rel) (start : Rel) where
  -- the relation after pass k
  unfoldable pub after_pass : ℕ → Rel
  after_pass k = rel_of n (marked (pass (n * n) (pair_test n test) (pair_start n start) k))

  -- how many marks pass k + 1 clears
  unfoldable pub cleared_by : ℕ → ℕ
  cleared_by k = cleared n (after_pass k) (after_pass (suc k))

  -- H is the relation after pass k, and none of the first k passes was the last
  pub record AfterPass (k : ℕ) (H : Rel) : Type 0 where
    pub same : (v w : ℕ) → v < n → w < n → H v w ≡ after_pass k v w
    pub few : k ≤ n * n
    pub rest : rounds (n * n) (pair_test n test) (pair_start n start)
        ≡ first (λ j. settled (n * n) (pair_test n test) (pass (n * n) (pair_test n test) (pair_start n start) j)) k (suc (n * n))
