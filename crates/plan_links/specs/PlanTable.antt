-- The plan table: document 01, "Plans", and the plan that its words stand for.
use Rattle.std.specs.Prelude.{Bool, List, ℕ, ◌+◌, ◌*◌, eqb, get_or}
use Rattle.theory.specs.Logic.Bools.{◌&◌}
use Rattle.theory.specs.Logic.Range.{any_below, tabulate}
use Rattle.theory.specs.Plans.Plan.{Plan}

-- sizes first: p positions, l links
abbrev pub position_count : List ℕ → ℕ
position_count w = get_or w 0 0

abbrev pub link_count : List ℕ → ℕ
link_count w = get_or w 1 0

-- then p words, the vertex of each position
abbrev pub vertex_at : List ℕ → ℕ → ℕ
vertex_at w i = get_or w (2 + i) 0

-- then two parallel arrays of l words, sources and targets of links, as positions
abbrev pub link_source : List ℕ → ℕ → ℕ
link_source w k = get_or w (2 + position_count w + k) 0

abbrev pub link_target : List ℕ → ℕ → ℕ
link_target w k = get_or w (2 + position_count w + link_count w + k) 0

-- how many words a plan of p positions and l links has
abbrev pub plan_length : ℕ → ℕ → ℕ
plan_length p l = 2 + p + 2 * l

unfoldable pub plan_of : List ℕ → Plan
plan_of w = record {
  vertices = tabulate (position_count w) (vertex_at w);
  links = tabulate (link_count w) (λ k. (link_source w k, link_target w k));
}

-- some link of position i leads to a position that passes
unfoldable pub any_link : List ℕ → ℕ → (ℕ → Bool) → Bool
any_link w i q = any_below (link_count w) (λ k. eqb (link_source w k) i & q (link_target w k))

-- a link leads from position i to position j
unfoldable pub has_link : List ℕ → ℕ → ℕ → Bool
has_link w i j = any_link w i (λ k. eqb k j)
