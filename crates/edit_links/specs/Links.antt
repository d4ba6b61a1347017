-- Pairs in two parallel arrays, the first m of them edges of a table, those behind them entries of a trace: for each, the next equal entry.
use Rattle.std.specs.Prelude.{◌≡◌, Bool, cond, List, ℕ, zero, suc, ◌+◌, ◌≤◌, ◌<◌, max, eqb, length, get_or}
use Rattle.theory.specs.Logic.Bools.{◌&◌}
use Rattle.theory.specs.Logic.Range.{first}

-- ---- the last that passes

-- one more than the last number below x that passes; 0 where there is none
unfoldable pub last_of : (ℕ → Bool) → ℕ → ℕ
last_of p zero = zero
last_of p (suc x) = cond (p x) (suc x) (last_of p x)

-- ---- pairs

-- pair x is of this source
abbrev pub of_source : List ℕ → ℕ → ℕ → Bool
of_source S v x = eqb (get_or S x 0) v

-- pair x is (v, w)
unfoldable pub pair_is : List ℕ → List ℕ → ℕ → ℕ → ℕ → Bool
pair_is S T v w x = eqb (get_or S x 0) v & eqb (get_or T x 0) w

-- the first entry behind pair x that is equal to it; N where there is none
abbrev pub link_of : List ℕ → List ℕ → ℕ → ℕ → ℕ → ℕ
link_of S T m N x = first (pair_is S T (get_or S x 0) (get_or T x 0)) (max (x + 1) m) N

-- N pairs of numbers below n
pub record Pairs (S T : List ℕ) (N n : ℕ) : Type 0 where
  pub few : N ≤ 8192
  pub sources : N ≤ length S
  pub targets : N ≤ length T
  pub source : (x : ℕ) → x < N → get_or S x 0 < n
  pub target : (x : ℕ) → x < N → get_or T x 0 < n

-- ---- chains by source

-- the last pair of each source, and before each pair the last with its source
pub record Chained (S : List ℕ) (N : ℕ) (heads before : List ℕ) : Type 0 where
  pub head : (v : ℕ) → get_or heads v 0 ≡ last_of (of_source S v) N
  pub link : (x : ℕ) → x < N → get_or before x 0 ≡ last_of (of_source S (get_or S x 0)) x

-- ---- links

-- from p on, the first entry of source v with each target
abbrev pub Heads : List ℕ → List ℕ → ℕ → ℕ → ℕ → ℕ → ℕ → List ℕ → Type 0
Heads S T m N n v p head = (w : ℕ) → w < n → get_or head w 0 ≡ first (pair_is S T v w) (max p m) N

-- the pairs from p on that are of source v are linked, and other links are old
pub record Row (S T : List ℕ) (m N v p : ℕ) (old links : List ℕ) : Type 0 where
  pub new : (x : ℕ) → p ≤ x → x < N → get_or S x 0 ≡ v → get_or links x 0 ≡ link_of S T m N x
  pub rest : (x : ℕ) → (get_or S x 0 ≡ v → ⊥) → get_or links x 0 ≡ get_or old x 0

-- every pair is linked
pub record Linked (S T : List ℕ) (m N : ℕ) (links : List ℕ) : Type 0 where
  pub at : (x : ℕ) → x < N → get_or links x 0 ≡ link_of S T m N x
