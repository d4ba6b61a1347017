-- The search for returns: through positions of its start's block whose priority isn't below that of its start.
use Rattle.std.specs.Prelude.{Bool, not, List, ℕ, ◌≤◌, ◌<◌, eqb, leb, length, get_or}
use Rattle.theory.specs.Logic.Bools.{◌&◌}
use Rattle.theory.specs.Games.Game.{parity}
use Rattle.table.specs.Limits.{position_limit}
use Rattle.table.specs.Table.{player_of}
use Rattle.index.specs.Index.{Indexed}
use Rattle.plan_blocks.specs.Blocks.{link_by}
use Rattle.plan_returns.specs.Returns.{returns}

-- an index of the links between p positions, the priorities and blocks of these, and room for the search
pub record Workspace (p : ℕ) (starts targets priorities blocks seen queue : List ℕ) : Type 0 where
  pub index : Indexed p starts targets
  pub few : p ≤ position_limit
  pub values : p ≤ length priorities
  pub grouped : p ≤ length blocks
  pub stamps : p ≤ length seen
  pub entries : p < length queue

-- the priority of position j
unfoldable pub listed_priority : List ℕ → ℕ → ℕ
listed_priority priorities j = get_or priorities j 0

-- position j has a priority that isn't below q, and is in block b
unfoldable pub passes : List ℕ → List ℕ → ℕ → ℕ → ℕ → Bool
passes priorities blocks q b j = leb q (get_or priorities j 0) & eqb (get_or blocks j 0) b

-- the positions that a search from i goes through
abbrev pub from_of : List ℕ → List ℕ → ℕ → ℕ → Bool
from_of priorities blocks i = passes priorities blocks (get_or priorities i 0) (get_or blocks i 0)

-- position i has the wrong parity and returns, by the index and the priorities of positions
unfoldable pub wrong_by : List ℕ → List ℕ → List ℕ → ℕ → ℕ → ℕ → Bool
wrong_by starts targets priorities p player i =
    not (parity (player_of player) (listed_priority priorities i)) & returns p (link_by starts targets) (listed_priority priorities) i
