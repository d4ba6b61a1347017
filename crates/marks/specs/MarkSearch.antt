-- Searches over the places of an index.
use Rattle.std.specs.Prelude.{Bool, List, ℕ, ◌+◌, ◌*◌, ◌≤◌, ◌<◌, get_or}
use Rattle.std.specs.Bool.{beq}
use Rattle.theory.specs.Logic.Range.{any_from}
use Rattle.marks.specs.Marks.{is_mark, InMarks}

-- the target y at a place has the wanted mark: that of mark base + y × stride
unfoldable pub has_mark : List ℕ → List ℕ → ℕ → ℕ → Bool → ℕ → Bool
has_mark marks targets base stride wanted k = beq (is_mark marks (base + get_or targets k 0 * stride)) wanted

-- for the target x at a place, the search for a target y, at the places from a on, below e, with the wanted mark ends as `found`; the
-- mark of x and y is mark x × across + y × down
unfoldable pub search_ends : List ℕ → List ℕ → ℕ → ℕ → ℕ → ℕ → Bool → Bool → ℕ → Bool
search_ends marks targets a e across down wanted found i =
    beq (any_from a e (has_mark marks targets (get_or targets i 0 * across) down wanted)) found

-- some place of v at which the search over the places of w ends as `found`
abbrev pub searched : List ℕ → List ℕ → List ℕ → ℕ → ℕ → ℕ → ℕ → Bool → Bool → Bool
searched starts targets marks v w across down wanted found =
    any_from (get_or starts v 0) (get_or starts (v + 1) 0) (search_ends marks targets (get_or starts w 0) (get_or starts (w + 1) 0) across down wanted found)

-- the mark of every such x and y is there
abbrev pub Reaches : List ℕ → List ℕ → ℕ → ℕ → ℕ → ℕ → ℕ → ℕ → Type 0
Reaches marks targets a e a' e' across down =
    (i k : ℕ) → a ≤ i → i < e → a' ≤ k → k < e' → InMarks marks (get_or targets i 0 * across + get_or targets k 0 * down)
