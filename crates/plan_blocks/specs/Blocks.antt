-- Blocks of positions: a number for each position, so that a closed walk of the wrong parity never leaves the block of its lowest position.
-- A position whose number is `gone` lies on no such walk. All lists are by position.
use Rattle.std.specs.Prelude.{◌≡◌, Bool, List, ◌∷◌, ℕ, ◌%◌, ◌≤◌, ◌<◌, eqb, get_or}
use Rattle.theory.specs.Plans.Plan.{Walk}
use Rattle.theory.specs.Plans.Returns.{In}
use Rattle.index.specs.Index.{among}

-- the number of a position that is in no block
abbrev pub gone : ℕ
gone = 65535

-- an indexed link leads from i to j
unfoldable pub link_by : List ℕ → List ℕ → ℕ → ℕ → Bool
link_by starts targets i j = among starts targets i (λ k. eqb k j)

-- a closed walk over the p positions from i, of priorities at least that of i, which has the wrong parity
pub record BadWalk (p player : ℕ) (link : ℕ → ℕ → Bool) (priorities : List ℕ) (i : ℕ) (between : List ℕ) : Type 0 where
  pub wrong : get_or priorities i 0 % 2 ≡ player → ⊥
  pub walk : Walk link i between i
  pub inside : (k : ℕ) → In k (i ∷ between) → k < p
  pub above : (k : ℕ) → In k (i ∷ between) → get_or priorities i 0 ≤ get_or priorities k 0

-- each such walk stays in one block
pub record Confined (p player : ℕ) (link : ℕ → ℕ → Bool) (priorities blocks : List ℕ) : Type 0 where
  pub live : (i : ℕ) (ks : List ℕ) → BadWalk p player link priorities i ks → get_or blocks i 0 ≡ gone → ⊥
  pub same : (i : ℕ) (ks : List ℕ) → BadWalk p player link priorities i ks → (k : ℕ) → In k (i ∷ ks) → get_or blocks k 0 ≡ get_or blocks i 0
