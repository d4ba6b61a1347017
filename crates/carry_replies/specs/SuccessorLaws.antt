-- Laws of the way from successor to successor: a search in a part of a list, and that no vertex between two successors is replied.
use Rattle.std.specs.Prelude.{◌≡◌, Bool, false, List, ℕ, ◌+◌, ◌-◌, ◌*◌, ◌≤◌, ◌<◌}
use Rattle.std.proofs.Common.{sym, ap, ◌∙◌, arith}
use Rattle.std.proofs.Math.Decide.{dec_lt}
use Rattle.theory.specs.Logic.Bools.{◌&◌}
use Rattle.theory.specs.Logic.Range.{first}
use Rattle.theory.proofs.Logic.RangeLaws.{first_is, first_ge, first_le, first_none, first_passes, first_before}
use Rattle.theory.specs.Carry.Carry.{moves_below}
use Rattle.table.specs.Table.{vertex_count, player_of, game_of}
use Rattle.table.specs.Limits.{vertex_limit, pair_limit}
use Rattle.table.specs.FlagsLaws.{pair_lt}
use Rattle.table.specs.Flags.{flagged, EdgeFlags}
use Rattle.carry_replies.specs.Replies.{seated, needed, replied}
use Rattle.carry_replies.specs.RepliesLaws.{moves_below_skip}

-- a search that starts and ends b later
pub first_shift : (p : ℕ → Bool) (b a n : ℕ) → a ≤ n → first p (b + a) (b + n) ≡ b + first (λ x. p (b + x)) a n
first_shift p b a n l = elim (dec_lt f n) [
  | yes h ↦ first_is p (b + a) (b + n) (b + f) (omega (arith, first_ge q a n)) (omega arith) (first_passes q a n l h) before
  | no h ↦
      (let none = first_none p (b + a) (b + n) (omega arith) (λ i x y. before i x (omega (arith, h))) in
      omega (arith, none, h, first_le q a n l, first_le p (b + a) (b + n) (omega arith)))
]
  where
    q : ℕ → Bool
    q x = p (b + x)

    f : ℕ
    f = first q a n

    before : (j : ℕ) → b + a ≤ j → j < b + f → p j ≡ false
    before j x y = let e : j ≡ b + (j - b) = omega arith in ap p e ∙ first_before q a n (j - b) (omega arith) (omega arith)

-- the flags of u's edges end within those of all pairs
pub row_end : (n u : ℕ) → n ≤ vertex_limit → u < n → u * n + n ≤ pair_limit
row_end n u h l = let e : n ≡ (n - 1) + 1 = omega arith in omega (arith, e, pair_lt n u (n - 1) h l (omega arith))

-- the first successor of u from a on, by the flags
module _ (game edges : List ℕ) (flags : EdgeFlags game edges) (u a w : ℕ) (hu : u < vertex_count game) (ha : a ≤ vertex_count game)
    (e : w ≡ first (flagged (vertex_count game) edges u) a (vertex_count game)) where
  pub successor_le : w ≤ vertex_count game
  successor_le = omega (arith, e, first_le (flagged (vertex_count game) edges u) a (vertex_count game) ha)

  pub successor_ge : a ≤ w
  successor_ge = omega (arith, e, first_ge (flagged (vertex_count game) edges u) a (vertex_count game))

  module _ (player : ℕ) (plan seats : List ℕ) (i : ℕ) where
    -- none before it is replied
    pub successor_none : (j : ℕ) → a ≤ j → j < w → replied game player plan seats i u j ≡ false
    unfolding replied ◌&◌
    successor_none j l h =
        let f = first_before (flagged (vertex_count game) edges u) a (vertex_count game) j l (omega (arith, e)) in
        rw (sym (flags.edge u j hu (omega (arith, successor_le))) ∙ f)

    -- so that there is no move between
    pub successor_moves : moves_below (player_of player) (game_of game) (game_of game) (needed game player) (seated plan seats) i u w
        ≡ moves_below (player_of player) (game_of game) (game_of game) (needed game player) (seated plan seats) i u a
    successor_moves = moves_below_skip game player plan seats i u a w successor_ge successor_none
