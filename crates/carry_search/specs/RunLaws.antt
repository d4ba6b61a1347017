-- Laws of the search at a game table and a plan table, pair after pair.
use Rattle.std.specs.Prelude.{◌≡◌, Bool, true, false, cond, ℕ, ◌+◌, ◌*◌, ◌≤◌, ◌<◌, take}
use mathlib.Core.List.{List, [], ◌∷◌}
use Rattle.std.proofs.Common.{arith}
use Rattle.std.proofs.Math.ListN.{get_or}
use Rattle.theory.proofs.Logic.ListLaws.{length_tabulate}
use Rattle.theory.specs.Games.Game.{own}
use Rattle.theory.proofs.Plans.LinkLaws.{linked_left}
use Rattle.theory.specs.Carry.BreadthFirst.{start_at, search}
use Rattle.theory.proofs.Carry.BreadthFirstLaws.{Among}
use Rattle.theory.specs.Carry.Carry.{moves_of, found_from}
use Rattle.table.specs.Table.{vertex_count, player_of, game_of}
use Rattle.plan_links.specs.PlanTable.{position_count}
use Rattle.carry_replies.specs.Replies.{Readable, seated}
use Rattle.carry_replies.specs.RepliesLaws.{moves_inside}
use Rattle.carry_search.specs.declared.Counts.{Counts}
use Rattle.carry_search.specs.SearchMemory.{Memory, found_in, SearchRoom, Within}
use Rattle.carry_search.specs.Work.{memory_in, stored_pair}
use Rattle.carry_search.specs.WorkLaws.{stored_pair_lem}
use Rattle.carry_search.specs.Search.{table_moves_below, table_moves, table_found, one_pair, Started, Inside, Expandable, Over, Expanded, PairExpanded, SearchResult}
use Rattle.carry_search.specs.SearchLaws.{Running, running_start, running_inside, running_end, running_next, running_over}

lone_among : (xs : List (ℕ × ℕ)) (x : ℕ × ℕ) → Among x (take 1 xs) → Among x xs
lone_among [] x t = t
lone_among (y ∷ xs) x t = linked_left (y ∷ []) xs x.0 x.1 t

module _ (game : List ℕ) (player : ℕ) (plan seats marks edges firsts follow : List ℕ) where
  -- the moves of a position and a vertex lead to such
  pub closed : Readable game player plan seats marks edges firsts follow → (x y : ℕ × ℕ) → Inside (position_count plan) (vertex_count game) x
      → Among y (table_moves game player plan seats x) → Inside (position_count plan) (vertex_count game) y
  unfolding moves_of game_of
  closed readable x y h = go (own (game_of game) (player_of player) x.1)
    where
      xs : List (ℕ × ℕ)
      xs = table_moves_below game player plan seats x.0 x.1 (vertex_count game)

      inside : Among y xs → Inside (position_count plan) (vertex_count game) y
      inside t =
          let q = moves_inside game player plan seats x.0 x.1 readable.links.board (vertex_count game) y t in
          record { old_lt = q.0; new_lt = q.1 }

      go : (b : Bool) → Among y (cond b (take 1 xs) xs) → Inside (position_count plan) (vertex_count game) y
      go true t = inside (lone_among xs y t)
      go false t = inside t

  -- what the definition finds, by the number of positions
  whole_is : (w : ℕ) → search (table_moves game player plan seats) (position_count plan * vertex_count game) 0 (start_at (0, w))
      ≡ table_found game player plan seats w
  unfolding found_from seated game_of
  whole_is w = rw (length_tabulate (position_count plan) (λ i. get_or seats i 0))

  -- all that the loop knows: the pairs below k are done
  pub record Runs (w k : ℕ) (work : List ℕ) (counts : Counts) : Type 0 where
    pub readable : Readable game player plan seats marks edges firsts follow
    pub ready : SearchRoom (position_count plan) (memory_in work counts)
    pub within : Within counts.pairs counts.links
    pub running :
        Running (table_moves game player plan seats) (position_count plan) (vertex_count game) (closed readable) w k (found_in (memory_in work counts))

  pub runs_start : Readable game player plan seats marks edges firsts follow → (w : ℕ) → w < vertex_count game → (work : List ℕ)
      → Started (position_count plan) w (memory_in work one_pair) → Runs w 0 work one_pair
  runs_start readable w l work s = record {
    readable = readable;
    ready = s.ready;
    within = record { few_pairs = omega arith; few_links = omega arith };
    running = running_start _ _ _ (closed readable) w (memory_in work one_pair) s readable.links.board.formed.sized.some l;
  }

  module _ (w k : ℕ) (work : List ℕ) (counts : Counts) (r : Runs w k work counts) where
    abbrev m : Memory
    m = memory_in work counts

    stored : (j : ℕ) → j < counts.pairs → stored_pair work j ≡ (get_or m.olds j 0, get_or m.vertices j 0)
    stored j h = stored_pair_lem work counts j (omega (arith, r.within.few_pairs))

    pub runs_expandable : (j : ℕ) → j < counts.pairs → Expandable (position_count plan) (vertex_count game) j work counts
    runs_expandable j h = record {
      ready = r.ready;
      within = r.within;
      found = h;
      inside = rw (stored j h) (running_inside _ _ _ _ _ k m r.running j h);
    }

    pub runs_end : counts.pairs ≤ k → SearchResult (table_found game player plan seats w) m
    runs_end h = rw (← (whole_is w)) (running_end _ _ _ _ _ k m r.running r.ready r.within h)

    module _ (work' : List ℕ) (counts' : Counts) (h : k < counts.pairs) (x : PairExpanded game player plan seats k work counts work' counts') where
      abbrev m' : Memory
      m' = memory_in work' counts'

      moves : Expanded k (table_moves game player plan seats (get_or m.olds k 0, get_or m.vertices k 0)) (position_count plan) m m'
      moves = rw (stored k h) at x

      pub runs_next : Within counts'.pairs counts'.links → Runs w (k + 1) work' counts'
      runs_next i = record {
        readable = r.readable;
        ready = x.moved.ready;
        within = i;
        running = running_next _ _ _ _ _ k m r.running m' h moves i;
      }

      pub runs_over : Over counts'.pairs counts'.links → SearchResult (table_found game player plan seats w) m'
      runs_over q = rw (← (whole_is w)) (running_over _ _ _ _ _ k m r.running m' h moves q)
