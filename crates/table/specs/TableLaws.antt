-- Laws of the game of a table: its edges are those that the table lists; of a well-formed table it is a game in which every vertex
-- has a successor.
use Rattle.std.specs.Prelude.{◌≡◌, Bool, true, false, cond, not, List, ℕ, zero, suc, ◌*◌, ◌/◌, ◌%◌, ◌≤◌, ◌<◌, eqb, get_or}
use Rattle.std.proofs.Math.Path.{refl}
use Rattle.std.proofs.Common.{sym, ◌∙◌, arith, get_or-take, eqb-true, eq-eqb}
use Rattle.std.proofs.Math.Bool.{So}
use Rattle.std.proofs.Math.Decide.{ℕ_discrete}
use Rattle.theory.proofs.Logic.BoolsLaws.{and_in, and_out}
use Rattle.theory.proofs.Logic.RangeLaws.{any_in, any_out}
use Rattle.theory.proofs.Logic.CountLaws.{count_inject, count_all, pair_ext}
use Rattle.theory.specs.Games.Game.{even, odd, same, own, Succ, Total, edge_count}
use Rattle.table.specs.Table.{vertex_count, table_edges, owner_at, source_at, target_at, table_length, table_in, player_of, is_edge, Listed, game_of}
use Rattle.table.specs.WellFormed.{WellFormed}

-- ---- a table that begins a buffer has the buffer's words

pub in_word : (buffer : List ℕ) (i : ℕ) → i < table_length (vertex_count buffer) (table_edges buffer) → get_or (table_in buffer) i 0 ≡ get_or buffer i 0
in_word buffer i h = get_or-take _ _ _ _ h

-- ---- vertices

pub game_n : (g : List ℕ) → (game_of g).n ≡ vertex_count g
unfolding game_of
game_n g = refl

-- ---- owners: 0 is Even, 1 is Odd

player_zero : player_of 0 ≡ even
unfolding player_of
player_zero = refl

player_one : player_of 1 ≡ odd
unfolding player_of
player_one = refl

pub own_even : (g : List ℕ) (v : ℕ) → own (game_of g) even v ≡ eqb (owner_at g v) 0
unfolding game_of player_of same
own_even g v = go (eqb (owner_at g v) 0)
  where
    go : (b : Bool) → same even (cond b even odd) ≡ b
    go true = refl
    go false = refl

pub own_odd : (g : List ℕ) (v : ℕ) → own (game_of g) odd v ≡ not (eqb (owner_at g v) 0)
unfolding game_of player_of same
own_odd g v = go (eqb (owner_at g v) 0)
  where
    go : (b : Bool) → same odd (cond b even odd) ≡ not b
    go true = refl
    go false = refl

-- ---- an edge is a listed edge

pub edge_in : (g : List ℕ) (v w j : ℕ) → Listed g v w j → So ((game_of g).edge v w)
unfolding game_of is_edge
edge_in g v w j l = any_in (table_edges g) _ j l.inside (and_in (eq-eqb (source_at g j) v l.source) (eq-eqb (target_at g j) w l.target))

pub edge_out : (g : List ℕ) (v w : ℕ) → So ((game_of g).edge v w) → (j : ℕ) × Listed g v w j
unfolding game_of is_edge
edge_out g v w h =
    let r = any_out h in
    let e = and_out r.2 in
    (r.0, record { inside = r.1; source = eqb-true (source_at g r.0) v e.0; target = eqb-true (target_at g r.0) w e.1 })

-- no two pairs are listed as one edge, so there are at most m
pub edges_listed : (g : List ℕ) → edge_count (game_of g) ≤ table_edges g
unfolding edge_count game_of
edges_listed g =
    let n = vertex_count g in
    let c =
    count_inject (n * n) (table_edges g) (λ i. (game_of g).edge (i / n) (i % n)) (λ j. true) (λ i j. Listed g (i / n) (i % n) j)
    (λ i h t. let r = edge_out g (i / n) (i % n) t in (r.0, r.1.inside, refl, r.1))
    (λ i i' j h h' k l l'. pair_ext n i i' (sym l.source ∙ l'.source) (sym l.target ∙ l'.target)) in
    omega (arith, c, count_all (table_edges g))

-- ---- a well-formed table

module _ (g : List ℕ) (well : WellFormed g) where
  pub edge_target : (v w : ℕ) → So ((game_of g).edge v w) → w < vertex_count g
  edge_target v w h = let r = edge_out g v w h in omega (arith, r.1.target, well.targets r.0 r.1.inside)

  -- an edge leads to a successor
  pub edge_succ : (v w : ℕ) → So ((game_of g).edge v w) → Succ (game_of g) v w
  unfolding game_of
  edge_succ v w h = record { inside = edge_target v w h; along = h }

  -- every vertex has a successor
  pub game_total : Total (game_of g)
  unfolding game_of
  game_total v h =
      let t = well.total v h in
      let w = target_at g t.0 in
      (w, edge_succ v w (edge_in g v w t.0 (record { inside = t.1; source = t.2; target = refl })))

  -- an owner that isn't Even's word is Odd's
  own_one : (v : ℕ) → v < vertex_count g → own (game_of g) odd v ≡ eqb (owner_at g v) 1
  own_one v h = own_odd g v ∙ go (owner_at g v) (well.owners v h)
    where
      go : (w : ℕ) → w ≤ 1 → not (eqb w 0) ≡ eqb w 1
      go zero l = refl
      go (suc zero) l = refl
      go (suc (suc w)) l = absurd (omega arith)

  -- the player moves at v exactly if v's owner word is the player's number
  pub own_number : (player v : ℕ) → player ≤ 1 → v < vertex_count g → own (game_of g) (player_of player) v ≡ eqb (owner_at g v) player
  own_number player v h l = elim (ℕ_discrete player 0) [
    | yes e ↦ rw (e, player_zero) (own_even g v)
    | no d ↦ (
        let e : player ≡ 1 = omega arith in
        rw (e, player_one) (own_one v l))
  ]
