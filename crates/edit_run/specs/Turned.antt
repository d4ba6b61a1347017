-- The edges of a run's tables, entry by entry, without the tables. No public promise cites these.
use Rattle.std.specs.Prelude.{Bool, cond, List, [], ◌∷◌, ◌++◌, ℕ, zero, suc, ◌+◌, ◌-◌, eqb, leb, get_or}
use Rattle.theory.specs.Logic.Bools.{◌&◌, bit}
use Rattle.theory.specs.Logic.Range.{tabulate}
use Rattle.edit_rules.specs.Edges.{others}
use Rattle.edit_trace.specs.Trace.{entries_of}

-- how many of these edges leave v
unfoldable pub leaving : ℕ → List (ℕ × ℕ) → ℕ
leaving v [] = 0
leaving v (e ∷ es) = bit (eqb e.0 v) + leaving v es

-- an entry's edge arrives if no copy is there, and every copy leaves if one is
unfoldable pub turned : List (ℕ × ℕ) → ℕ × ℕ → List (ℕ × ℕ)
turned es e = cond (eqb (entries_of e.0 e.1 es) 0) (es ++ (e ∷ [])) (others e.0 e.1 es)

-- a count of edges after an entry of which c copies are there: one more, or those less
unfoldable pub stepped : ℕ → ℕ → ℕ
stepped k c = cond (eqb c 0) (k + 1) (k - c)

-- pair x of two parallel arrays
abbrev pub pair_at : List ℕ → List ℕ → ℕ → ℕ × ℕ
pair_at S T x = (get_or S x 0, get_or T x 0)

-- the first m pairs are edges; these are the edges after i of the entries behind them
unfoldable pub edges_after : List ℕ → List ℕ → ℕ → ℕ → List (ℕ × ℕ)
edges_after S T m zero = tabulate m (pair_at S T)
edges_after S T m (suc i) = turned (edges_after S T m i) (pair_at S T (m + i))

-- the pairs below x that pass, in sequence
unfoldable pub passing_below : (ℕ → Bool) → (ℕ → ℕ × ℕ) → ℕ → List (ℕ × ℕ)
passing_below p f zero = []
passing_below p f (suc x) = passing_below p f x ++ cond (p x) (f x ∷ []) []

-- the pairs below x that are an edge or an arrival (0 copies) and that no entry below `end` equals
abbrev pub kept_pairs : List ℕ → List ℕ → List ℕ → List ℕ → ℕ → ℕ → List (ℕ × ℕ)
kept_pairs S T copies links end x = passing_below (λ x. eqb (get_or copies x 0) 0 & leb end (get_or links x 0)) (pair_at S T) x
