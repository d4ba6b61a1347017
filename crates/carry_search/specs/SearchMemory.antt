-- The memory of a search: the pairs found and their chains, and the links between their numbers, in two arrays more.
use Rattle.std.specs.Prelude.{◌≡◌, List, ℕ, ◌+◌, ◌≤◌, length}
use Rattle.theory.specs.Carry.BreadthFirst.{Found, visits}
use Rattle.table.specs.Limits.{position_limit, link_limit}
use Rattle.carry_search.specs.Chains.{pairs_in, Held}

pub record Memory : Type 0 where
  pub olds : List ℕ
  pub vertices : List ℕ
  pub heads : List ℕ
  pub nexts : List ℕ
  pub sources : List ℕ
  pub targets : List ℕ
  pub pairs : ℕ
  pub links : ℕ

abbrev pub memory : List ℕ → List ℕ → List ℕ → List ℕ → List ℕ → List ℕ → ℕ → ℕ → Memory
memory olds vertices heads nexts sources targets pairs links = record {
  olds = olds;
  vertices = vertices;
  heads = heads;
  nexts = nexts;
  sources = sources;
  targets = targets;
  pairs = pairs;
  links = links;
}

-- the pairs and links found so far
abbrev pub found_in : Memory → Found
found_in m = record { pairs = pairs_in m.olds m.vertices m.pairs; links = pairs_in m.sources m.targets m.links }

-- room for one pair and one link more than a plan may have, and no more of them
pub record SearchRoom (p : ℕ) (m : Memory) : Type 0 where
  pub few : p ≤ position_limit
  pub olds : position_limit + 1 ≤ length m.olds
  pub vertices : position_limit + 1 ≤ length m.vertices
  pub heads : position_limit ≤ length m.heads
  pub nexts : position_limit + 1 ≤ length m.nexts
  pub sources : link_limit + 1 ≤ length m.sources
  pub targets : link_limit + 1 ≤ length m.targets
  pub pairs : m.pairs ≤ position_limit + 1
  pub links : m.links ≤ link_limit + 1
  pub held : Held m.olds m.vertices m.heads m.nexts m.pairs

-- within the limits of a plan
pub record Within (pairs links : ℕ) : Type 0 where
  pub few_pairs : pairs ≤ position_limit
  pub few_links : links ≤ link_limit

-- the moves xs of pair k were made
pub record Moved (k : ℕ) (xs : List (ℕ × ℕ)) (p : ℕ) (m m' : Memory) : Type 0 where
  pub found : found_in m' ≡ visits k (found_in m) xs
  pub ready : SearchRoom p m'
