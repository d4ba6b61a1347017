-- Laws of the moves of a pair.
use Rattle.std.specs.Prelude.{◌≡◌, refl, ◌⊎◌, Bool, true, false, cond, ℕ, ◌+◌, ◌≤◌, ◌<◌, length, take}
use Rattle.std.proofs.Common.{ap, inl, inr, not-suc-le-zero, arith, length-append}
use mathlib.Core.List.{List, [], ◌∷◌, ◌++◌, append-nil}
use Rattle.theory.specs.Logic.Range.{first}
use Rattle.theory.specs.Games.Game.{own}
use Rattle.theory.specs.Carry.Carry.{moves_of}
use Rattle.table.specs.Limits.{position_limit, link_limit}
use Rattle.table.specs.Table.{vertex_count, player_of, game_of}
use Rattle.table.specs.Flags.{flagged, EdgeFlags}
use Rattle.carry_replies.specs.Replies.{replied, move_to}
use Rattle.carry_replies.specs.RepliesLaws.{moves_below_more, moves_below_prefix}
use Rattle.carry_replies.specs.SuccessorLaws.{successor_moves}
use Rattle.carry_search.specs.declared.Counts.{Counts}
use Rattle.carry_search.specs.SearchMemory.{Memory, Moved}
use Rattle.carry_search.specs.SearchMemoryLaws.{moved_links, moved_append}
use Rattle.carry_search.specs.Work.{vertices_at}
use Rattle.carry_search.specs.WorkLaws.{ready_long}
use Rattle.carry_search.specs.Search.{table_moves_below, table_moves, Expandable, Over, Expanded, most_links}

-- what is behind all of it is nothing
none_left : (xs rest : List (ℕ × ℕ)) → xs ++ rest ≡ xs → rest ≡ []
none_left xs [] e = refl
none_left xs (x ∷ rest) e = absurd (not-suc-le-zero {n = 0} (omega (arith, ap length e, length-append xs (x ∷ rest))))

-- pair k stands in work memory
pub expandable_long : {p n k : ℕ} {work : List ℕ} {counts : Counts} → Expandable p n k work counts → vertices_at + k < length work
expandable_long {p} {n} {k} {work} {counts} x = omega (arith, ready_long p work counts x.ready, x.within.few_pairs, x.found)

pub expanded_all : (k p : ℕ) (xs : List (ℕ × ℕ)) (m m' : Memory) → Moved k xs p m m' → Expanded k xs p m m'
expanded_all k p xs m m' v = record { did = xs; left = []; whole = append-nil xs; moved = v; why = inl refl }

module _ (game : List ℕ) (player : ℕ) (plan seats : List ℕ) (i u : ℕ) where
  -- the moves below w were made, and that is all, or too much
  pub expanded_below : (k p : ℕ) (m m' : Memory) (w n : ℕ) → w ≤ n → Moved k (table_moves_below game player plan seats i u w) p m m'
      → (n ≤ w) ⊎ Over m'.pairs m'.links → Expanded k (table_moves_below game player plan seats i u n) p m m'
  expanded_below k p m m' w n h v (inl l) =
      let e : w ≡ n = omega arith in
      rw e at (expanded_all k p (table_moves_below game player plan seats i u w) m m' v)
  expanded_below k p m m' w n h v (inr q) =
      let r = moves_below_prefix game player plan seats i u w n h in
      record { did = table_moves_below game player plan seats i u w; left = r.0; whole = r.1; moved = v; why = inr q }

  -- the moves below a were made, and so those below the first successor from a on
  pub moved_on : (k p : ℕ) (m m' : Memory) (edges : List ℕ) → EdgeFlags game edges → (a w : ℕ) → u < vertex_count game → a ≤ vertex_count game
      → w ≡ first (flagged (vertex_count game) edges u) a (vertex_count game)
      → Moved k (table_moves_below game player plan seats i u a) p m m' → Moved k (table_moves_below game player plan seats i u w) p m m'
  moved_on k p m m' edges flags a w hu ha e v = rw (successor_moves game edges flags u a w hu ha e player plan seats i) v

  -- the same after the move to the vertex w
  pub moved_more : (k p : ℕ) (m m' m'' : Memory) (edges : List ℕ) → EdgeFlags game edges → (w w' : ℕ) → u < vertex_count game → w < vertex_count game
      → w' ≡ first (flagged (vertex_count game) edges u) (w + 1) (vertex_count game)
      → Moved k (table_moves_below game player plan seats i u w) p m m' → Moved k (move_to game player plan seats i u w) p m' m''
      → Moved k (table_moves_below game player plan seats i u w') p m m''
  moved_more k p m m' m'' edges flags w w' hu hw e v x =
      moved_on k p m m'' edges flags (w + 1) w' hu (omega arith) e
      (rw (moves_below_more game player plan seats i u w)
      (moved_append k p (table_moves_below game player plan seats i u w) (move_to game player plan seats i u w) m m' m'' v x))

-- ---- the player's one move, or all of the opponent's

pub most_within : (game : List ℕ) (player u links most : ℕ) → most ≡ most_links game player u links → links ≤ link_limit → (links ≤ most) × (most ≤ link_limit)
unfolding most_links
most_within game player u links most e h = go (own (game_of game) (player_of player) u) e
  where
    go : (b : Bool) → most ≡ cond b links link_limit → (links ≤ most) × (most ≤ link_limit)
    go true e = (omega arith, omega arith)
    go false e = (omega arith, omega arith)

move_few : (game : List ℕ) (player : ℕ) (plan seats : List ℕ) (i u w : ℕ) → length (move_to game player plan seats i u w) ≤ 1
unfolding move_to
move_few game player plan seats i u w = go (replied game player plan seats i u w) _
  where
    go : (b : Bool) (x : ℕ × ℕ) → length (cond {A = List (ℕ × ℕ)} b (x ∷ []) []) ≤ 1
    go true x = omega arith
    go false x = omega arith

-- a move to one vertex more is one link more at most
pub moved_few : (game : List ℕ) (player : ℕ) (plan seats : List ℕ) (i u w k p : ℕ) (m m' : Memory)
    → Moved k (move_to game player plan seats i u w) p m m' → m'.links ≤ m.links + 1
moved_few game player plan seats i u w k p m m' v = omega (arith, moved_links k p _ m m' v, move_few game player plan seats i u w)

-- where one link at most was added, what was made is of the first move, and that is all or too much
lone_made : (k p : ℕ) (xs rest : List (ℕ × ℕ)) (m m' : Memory) → length xs ≤ 1 → Moved k xs p m m'
    → (rest ≡ []) ⊎ Over m'.pairs m'.links ⊎ (0 < length xs) → Expanded k (take 1 (xs ++ rest)) p m m'
lone_made k p [] rest m m' h v (inl e) = rw e (expanded_all k p [] m m' v)
lone_made k p [] rest m m' h v (inr (inl o)) = record { did = []; left = take 1 rest; whole = refl; moved = v; why = inr o }
lone_made k p [] rest m m' h v (inr (inr l)) = absurd (not-suc-le-zero l)
lone_made k p (x ∷ []) rest m m' h v why = expanded_all k p (x ∷ []) m m' v
lone_made k p (x ∷ y ∷ xs) rest m m' h v why = absurd (not-suc-le-zero {n = length xs} (omega arith))

module _ (game : List ℕ) (player : ℕ) (plan seats : List ℕ) (i u k p : ℕ) (m m' : Memory) (w : ℕ) (le : w ≤ vertex_count game)
    (v : Moved k (table_moves_below game player plan seats i u w) p m m') where
  own_made : m'.links ≤ m.links + 1 → (vertex_count game ≤ w) ⊎ (position_limit < m'.pairs) ⊎ (m.links < m'.links)
      → Expanded k (take 1 (table_moves_below game player plan seats i u (vertex_count game))) p m m'
  own_made few why =
      let xs = table_moves_below game player plan seats i u w in
      let r = moves_below_prefix game player plan seats i u w (vertex_count game) le in
      let l = moved_links k p xs m m' v in
      rw (← r.1) (lone_made k p xs r.0 m m' (omega arith) v (reason r.0 r.1 l why))
    where
      reason : (rest : List (ℕ × ℕ)) → table_moves_below game player plan seats i u w ++ rest ≡ table_moves_below game player plan seats i u (vertex_count game)
          → m'.links ≡ m.links + length (table_moves_below game player plan seats i u w)
          → (vertex_count game ≤ w) ⊎ (position_limit < m'.pairs) ⊎ (m.links < m'.links)
          → (rest ≡ []) ⊎ Over m'.pairs m'.links ⊎ (0 < length (table_moves_below game player plan seats i u w))
      reason rest e l (inl h) =
          let q : vertex_count game ≡ w = omega arith in
          inl (none_left (table_moves_below game player plan seats i u w) rest (rw q at e))
      reason rest e l (inr (inl h)) = inr (inl (inl h))
      reason rest e l (inr (inr h)) = inr (inr (omega arith))

  pub expanded_pair : (most : ℕ) → most ≡ most_links game player u m.links → m'.links ≤ most + 1
      → (vertex_count game ≤ w) ⊎ (position_limit < m'.pairs) ⊎ (most < m'.links) → Expanded k (table_moves game player plan seats (i, u)) p m m'
  unfolding most_links moves_of game_of
  expanded_pair most e few why = go (own (game_of game) (player_of player) u) e
    where
      xs : List (ℕ × ℕ)
      xs = table_moves_below game player plan seats i u (vertex_count game)

      go : (b : Bool) → most ≡ cond b m.links link_limit → Expanded k (cond b (take 1 xs) xs) p m m'
      go true e = own_made (rw e at few) (rw e at why)
      go false e = expanded_below game player plan seats i u k p m m' w (vertex_count game) le v (rw e at why)
