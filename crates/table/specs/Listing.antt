-- Edges listed in two parallel arrays. No public promise cites `Appended`.
use Rattle.std.specs.Prelude.{◌≡◌, List, map, ℕ, ◌+◌, length}
use Rattle.table.specs.Placing.{placed}

abbrev pub sources_of : List (ℕ × ℕ) → List ℕ
sources_of es = map (λ e. e.0) es

abbrev pub targets_of : List (ℕ × ℕ) → List ℕ
targets_of es = map (λ e. e.1) es

-- the edges es are put behind the first e edges, and r is their count then
pub record Appended (es : List (ℕ × ℕ)) (e : ℕ) (sources sources' targets targets' : List ℕ) (r : ℕ) : Type 0 where
  pub count : r ≡ e + length es
  pub sources_after : sources' ≡ placed e (sources_of es) sources
  pub targets_after : targets' ≡ placed e (targets_of es) targets
