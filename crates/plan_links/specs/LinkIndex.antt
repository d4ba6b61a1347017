-- The index of a plan's links: the targets of each position's links.
use Rattle.std.specs.Prelude.{List, ℕ}
use Rattle.index.specs.Index.{Index}
use Rattle.plan_links.specs.PlanTable.{position_count, link_count, link_source, link_target}

abbrev pub LinkIndex : List ℕ → List ℕ → List ℕ → Type 0
LinkIndex w = Index (link_source w) (link_target w) (link_count w) (position_count w)
