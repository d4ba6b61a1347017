-- The search in work memory: how it starts, what the moves of a pair leave, and what it ends with.
use Rattle.std.specs.Prelude.{◌≡◌, ◌⊎◌, cond, List, [], ◌++◌, ℕ, ◌+◌, ◌≤◌, ◌<◌, length, get_or}
use Rattle.theory.specs.Games.Game.{own}
use Rattle.theory.specs.Carry.Carry.{moves_below, moves_of, found_from}
use Rattle.theory.specs.Carry.BreadthFirst.{Found}
use Rattle.table.specs.Limits.{position_limit, link_limit}
use Rattle.table.specs.Table.{player_of, game_of}
use Rattle.plan_links.specs.PlanTable.{position_count}
use Rattle.carry_replies.specs.Replies.{seated, needed, move_to}
use Rattle.carry_search.specs.declared.Counts.{Counts}
use Rattle.carry_search.specs.SearchMemory.{Memory, found_in, SearchRoom, Within, Moved}
use Rattle.carry_search.specs.Work.{heads_at, work_length, memory_in, stored_pair}

-- ---- the moves and the search of the definition, at a game table and a plan table

module _ (game : List ℕ) (player : ℕ) (plan seats : List ℕ) where
  abbrev pub table_moves_below : ℕ → ℕ → ℕ → List (ℕ × ℕ)
  table_moves_below = moves_below (player_of player) (game_of game) (game_of game) (needed game player) (seated plan seats)

  abbrev pub table_moves : ℕ × ℕ → List (ℕ × ℕ)
  table_moves = moves_of (player_of player) (game_of game) (game_of game) (needed game player) (seated plan seats)

  abbrev pub table_found : ℕ → Found
  table_found = found_from (player_of player) (game_of game) (game_of game) (needed game player) (seated plan seats)

-- ---- in work memory

-- no pair is chained yet, and there is room for all
pub record Fresh (work : List ℕ) : Type 0 where
  pub long : work_length ≤ length work
  pub unchained : (h : ℕ) → h < position_limit → get_or work (heads_at + h) 0 ≡ 0

-- one pair and no link, and that pair is (0, w)
abbrev pub one_pair : Counts
one_pair = record { pairs = 1; links = 0 }

pub record Started (p w : ℕ) (m : Memory) : Type 0 where
  pub ready : SearchRoom p m
  pub one : m.pairs ≡ 1
  pub none : m.links ≡ 0
  pub old : get_or m.olds 0 0 ≡ 0
  pub vertex : get_or m.vertices 0 0 ≡ w

-- a pair of a position and a vertex
pub record Inside (p n : ℕ) (x : ℕ × ℕ) : Type 0 where
  pub old_lt : x.0 < p
  pub new_lt : x.1 < n

-- pair k is found and is one of a position and a vertex, and what is found is within the limits of a plan
pub record Expandable (p n k : ℕ) (work : List ℕ) (counts : Counts) : Type 0 where
  pub ready : SearchRoom p (memory_in work counts)
  pub within : Within counts.pairs counts.links
  pub found : k < counts.pairs
  pub inside : Inside p n (stored_pair work k)

-- more than a plan may have
abbrev pub Over : ℕ → ℕ → Type 0
Over pairs links = (position_limit < pairs) ⊎ (link_limit < links)

-- some of the moves xs of pair k were made, the first of them: all, or more than a plan may have
pub record Expanded (k : ℕ) (xs : List (ℕ × ℕ)) (p : ℕ) (m m' : Memory) : Type 0 where
  pub did : List (ℕ × ℕ)
  pub left : List (ℕ × ℕ)
  pub whole : did ++ left ≡ xs
  pub moved : Moved k did p m m'
  pub why : (left ≡ []) ⊎ Over m'.pairs m'.links

-- how many links there are at most before a move from vertex u of the search, where there were so many before its moves: the player makes one,
-- the opponent all
unfoldable pub most_links : List ℕ → ℕ → ℕ → ℕ → ℕ
most_links game player u links = cond (own (game_of game) (player_of player) u) links link_limit

-- within the limits all is found; what passes them here passes them in the whole. The counts pass them by one at most.
pub record SearchResult (whole : Found) (m : Memory) : Type 0 where
  pub right : Within m.pairs m.links → found_in m ≡ whole
  pub over : Over m.pairs m.links → Over (length whole.pairs) (length whole.links)
  pub pairs : m.pairs ≤ position_limit + 1
  pub links : m.links ≤ link_limit + 1

-- ---- what the moves of pair k leave in work memory

module _ (game : List ℕ) (player : ℕ) (plan seats : List ℕ) (k : ℕ) where
  -- the move to w of the pair (i, u), if there is one
  abbrev pub MovedTo : ℕ → ℕ → ℕ → List ℕ → Counts → List ℕ → Counts → Type 0
  MovedTo i u w work counts work' counts' =
      Moved k (move_to game player plan seats i u w) (position_count plan) (memory_in work counts) (memory_in work' counts')

  module _ (work : List ℕ) (counts : Counts) (work' : List ℕ) (counts' : Counts) where
    -- its moves
    abbrev pub PairExpanded : Type 0
    PairExpanded =
        Expanded k (table_moves game player plan seats (stored_pair work k)) (position_count plan) (memory_in work counts) (memory_in work' counts')
