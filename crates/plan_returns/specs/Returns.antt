-- Refusal 16 of the plan acceptor: closed walks of the wrong parity. Its condition and its place.
use Rattle.std.specs.Prelude.{Bool, not, List, ℕ, leb}
use Rattle.theory.specs.Logic.Bools.{◌&◌}
use Rattle.theory.specs.Logic.Range.{first}
use Rattle.theory.specs.Games.Game.{parity}
use Rattle.theory.specs.Plans.Reach.{reaches}
use Rattle.table.specs.Table.{priority_at, player_of}
use Rattle.plan_links.specs.PlanTable.{position_count, vertex_at, has_link}

-- Position i is reached from itself by one link or more, through positions of priority at least its own. More than p + 1 links are
-- never needed: a longer walk passes some position twice.
unfoldable pub returns : ℕ → (ℕ → ℕ → Bool) → (ℕ → ℕ) → ℕ → Bool
returns p link priority i = reaches p link (λ m. leb (priority i) (priority m)) p i i

unfoldable pub position_priority : List ℕ → List ℕ → ℕ → ℕ
position_priority g w i = priority_at g (vertex_at w i)

-- position i has the wrong parity and returns: it lies on a closed walk of the wrong parity and has its lowest priority
unfoldable pub returns_wrong : List ℕ → ℕ → List ℕ → ℕ → Bool
returns_wrong g player w i =
    not (parity (player_of player) (position_priority g w i)) & returns (position_count w) (has_link w) (position_priority g w) i

unfoldable pub first_return : List ℕ → ℕ → List ℕ → ℕ
first_return g player w = first (returns_wrong g player w) 0 (position_count w)
