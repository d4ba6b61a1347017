-- The pairs that a run goes over, and the words that it leaves. No public promise cites these.
use Rattle.std.specs.Prelude.{◌≡◌, Bool, List, ◌∷◌, ◌++◌, ℕ, ◌+◌, ◌-◌, ◌*◌, ◌<◌, leb, get_or}
use Rattle.theory.specs.Logic.Bools.{◌or◌}
use Rattle.theory.specs.Logic.Range.{tabulate}
use Rattle.table.specs.Table.{vertex_count, priority_at, owner_at, source_at, target_at}
use Rattle.edit_trace.specs.Trace.{entry_at}

-- entry i has an end not below n
abbrev pub outside : List ℕ → ℕ → ℕ → Bool
outside trace n i = leb n (entry_at trace i).0 or leb n (entry_at trace i).1

-- m words and behind them k others
pub record JoinedWords (a : List ℕ) (m : ℕ) (b : List ℕ) (k : ℕ) (words : List ℕ) : Type 0 where
  pub front : (x : ℕ) → x < m → get_or words x 0 ≡ get_or a x 0
  pub back : (i : ℕ) → i < k → get_or words (m + i) 0 ≡ get_or b i 0

-- the edges of a table, and behind them the first k entries of a trace
pub record Gathered (g trace : List ℕ) (m k : ℕ) (S T : List ℕ) : Type 0 where
  pub edge : (x : ℕ) → x < m → (get_or S x 0 ≡ source_at g x) × (get_or T x 0 ≡ target_at g x)
  pub entry : (i : ℕ) → i < k → (get_or S (m + i) 0 ≡ (entry_at trace i).0) × (get_or T (m + i) 0 ≡ (entry_at trace i).1)

-- sizes, priorities and owners of a table, e edges, and zeros up to a table of `top` edges
abbrev pub edge_words : List ℕ → ℕ → List ℕ → List ℕ → ℕ → List ℕ
edge_words g e sources ends top =
    (((vertex_count g ∷ e ∷ (tabulate (vertex_count g) (priority_at g) ++ tabulate (vertex_count g) (owner_at g))) ++ tabulate e (λ i. get_or sources i 0))
    ++ tabulate e (λ i. get_or ends i 0))
    ++ tabulate (2 * (top - e)) (λ i. 0)
