-- The search for a wrong run, from the last place down: what is known after k places, with place j looked at next, and how many steps are left.
use Rattle.std.specs.Prelude.{◌≡◌, cond, List, ℕ, zero, suc, ◌+◌, ◌-◌, ◌*◌, ◌≤◌, ◌<◌, ltb}
use Rattle.theory.specs.Logic.Range.{first}
use Rattle.large_solution.specs.Places.{end_at, run_stop, run_fails, from_last}

module _ (g s c : List ℕ) (n : ℕ) where
  pub record Runs (k j : ℕ) : Type 0 where
    pub passed : k ≤ n
    pub rest : first (λ x. run_fails g s c n (from_last n x)) 0 n ≡ first (λ x. run_fails g s c n (from_last n x)) k n
    -- the runs of the last k places are right
    pub right : (i : ℕ) → n ≤ i + k → i < n → end_at c n i + 1 ≡ run_stop g s c n i (i + 1)
    pub inside : j ≤ n
    pub above : n ≤ j + k
    -- the places between this one and j are over it
    pub stop : k < n → let i = from_last n k in run_stop g s c n i (i + 1) ≡ run_stop g s c n i j

  -- how many longest runs, each after the one before it, there are from place j to the end; f places at most
  unfoldable pub chain_of : ℕ → ℕ → ℕ
  chain_of zero j = 0
  chain_of (suc f) j = cond (ltb j n) (1 + chain_of f (run_stop g s c n j (j + 1))) 0

  unfoldable pub chain : ℕ → ℕ
  chain j = chain_of (n - j) j

  -- Two steps for each place that is left, and one for each run from j on: a jump passes one of these, and going on to place i - 1 puts in
  -- the run of i.
  unfoldable pub steps_left : ℕ → ℕ → ℕ
  steps_left k j = 2 * (n - k) + chain j
