-- What a plan that passes 12 and 13 is like: its sizes, and then its words, for a game of n vertices.
use Rattle.std.specs.Prelude.{◌≡◌, List, ℕ, ◌≤◌, ◌<◌, length}
use Rattle.table.specs.Limits.{position_limit, link_limit}
use Rattle.table.specs.Table.{vertex_count}
use Rattle.table.specs.WellFormed.{WellFormed}
use Rattle.table.specs.Flags.{EdgeFlags}
use Rattle.plan_links.specs.PlanTable.{position_count, link_count, vertex_at, link_source, link_target, plan_length}

pub record PlanSized (w : List ℕ) : Type 0 where
  pub some : 0 < position_count w
  pub positions : position_count w ≤ position_limit
  pub links : link_count w ≤ link_limit
  pub size : length w ≡ plan_length (position_count w) (link_count w)

pub record PlanFormed (n : ℕ) (w : List ℕ) : Type 0 where
  pub sized : PlanSized w
  pub vertices : (i : ℕ) → i < position_count w → vertex_at w i < n
  pub sources : (k : ℕ) → k < link_count w → link_source w k < position_count w
  pub targets : (k : ℕ) → k < link_count w → link_target w k < position_count w

-- a game, a player's number and a plan that pass 1 to 13
pub record WordsPass (g : List ℕ) (player : ℕ) (w : List ℕ) : Type 0 where
  pub game : WellFormed g
  pub number : player ≤ 1
  pub formed : PlanFormed (vertex_count g) w

-- a game and a plan that pass 1 to 13, and the flags of the game's edges
pub record Followable (g w edges : List ℕ) : Type 0 where
  pub game : WellFormed g
  pub formed : PlanFormed (vertex_count g) w
  pub flags : EdgeFlags g edges
