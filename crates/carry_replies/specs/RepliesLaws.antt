-- Laws of replies: the link followed by the words of the plan, the reply at a pair, and the moves below a bound.
use Rattle.std.specs.Prelude.{◌≡◌, Bool, true, false, cond, eqb, get_or}
use Rattle.std.proofs.Math.Path.{refl, ap}
use Rattle.std.proofs.Common.{sym, ◌∙◌, add-one}
use Rattle.std.proofs.Math.Logic.{inl, inr}
use Rattle.std.proofs.Math.Bool.{So}
use Rattle.std.proofs.lemmas.Bool.{false≢true}
use mathlib.Core.List.{List, [], ◌∷◌, ◌++◌, append-nil, append_assoc}
use Prim.Native.Nat.{ℕ, zero, suc, ◌+◌, ◌≤◌, ◌<◌}
use Rattle.std.proofs.Math.Decide.{dec_lt}
use native.Mathlib.Omega.{arith}
use Rattle.std.proofs.Math.Dec.{ltb}
use borrow.Author.Tests.{lt-ltb, le-ltb, ltb-true}
use Rattle.theory.specs.Logic.Bools.{◌&◌}
use Rattle.theory.proofs.Logic.BoolsLaws.{decide, and_out, So_not}
use Rattle.theory.specs.Logic.Range.{first}
use Rattle.theory.proofs.Logic.RangeLaws.{first_ext}
use Rattle.theory.specs.Games.Game.{Player, even, odd, own}
use Rattle.theory.specs.Order.Order.{order}
use Rattle.theory.specs.Plans.Plan.{linked}
use Rattle.theory.specs.Classes.Reduction.{no_better}
use Rattle.theory.proofs.Plans.LinkLaws.{linked_append, linked_one_out}
use Rattle.theory.proofs.Carry.BreadthFirstLaws.{Among}
use Rattle.theory.specs.Carry.Carry.{source_of, target_of, first_link, usable, answer, answer_to, moves_below}
use Rattle.table.specs.Table.{vertex_count, player_of, game_of}
use Rattle.marks.specs.Marks.{relation}
use Rattle.classes.specs.Numbering.{Ordered}
use Rattle.plan_links.specs.PlanTable.{position_count, link_count, link_source, link_target}
use Rattle.plan_links.specs.PlanFormed.{PlanFormed}
use Rattle.carry_replies.specs.Replies.{seated, Seated, needed, link_to, replied, reply_to, move_to}
use Rattle.carry_replies.specs.SeatedLaws.{seat_at, length_links, source_at_lem, target_at_lem}
use Rattle.carry_replies.specs.ChainLaws.{good}

-- ---- the needed order, by marks that hold the order

pub needed_is : (game : List ℕ) (player : ℕ) (marks : List ℕ) → Ordered (game_of game) marks → (x w : ℕ) → x < vertex_count game
    → w < vertex_count game → no_better (player_of player) (relation (vertex_count game) marks) x w ≡ needed game player x w
unfolding no_better game_of
needed_is game player marks ordered x w hx hw = go (player_of player)
  where
    go : (a : Player) → no_better a (relation (vertex_count game) marks) x w ≡ no_better a (order (game_of game)) x w
    go even = ordered.marked x w hx hw
    go odd = ordered.marked w x hw hx

-- ---- the link followed, by the words of the plan

-- link k leads to a position that keeps the order
abbrev pub link_keeps : List ℕ → ℕ → List ℕ → List ℕ → ℕ → ℕ → Bool
link_keeps game player plan seats w k = needed game player (get_or seats (link_target plan k) 0) w

-- `lone` says that i is at the player's
pub link_to_is : (game : List ℕ) (player : ℕ) (plan seats : List ℕ) → PlanFormed (vertex_count game) plan → (i w : ℕ) → i < position_count plan
    → (lone : Bool) → lone ≡ own (game_of game) (player_of player) (get_or seats i 0)
    → first (good (link_source plan) (link_count plan) lone (link_keeps game player plan seats w) i) 0 (link_count plan)
    ≡ link_to game player plan seats i w
unfolding link_to answer_to answer usable first_link good
link_to_is game player plan seats formed i w hi lone e =
    let l = link_count plan in
    let heads : first (λ k. eqb (source_of (seated plan seats).links k) i) 0 l ≡ first (λ k. eqb (link_source plan k) i) 0 l =
    first_ext _ _ 0 l (λ k a h. ap (λ (x : ℕ). eqb x i) (source_at_lem plan seats k h)) in
    rw (e, length_links plan seats, seat_at plan seats i hi, heads) (first_ext _ _ 0 l (λ k a h.
    rw (source_at_lem plan seats k h, target_at_lem plan seats k h, seat_at plan seats (link_target plan k) (formed.targets k h)) refl))

-- ---- a reply, and the move to it

module _ (game : List ℕ) (player : ℕ) (plan seats : List ℕ) (i u w : ℕ) where
  pub reply_yes : (k : ℕ) → So ((game_of game).edge u w) → k ≡ link_to game player plan seats i w → k < link_count plan
      → link_target plan k ≡ reply_to game player plan seats i u w
  unfolding reply_to replied ◌&◌
  reply_yes k t e h = rw (t, ← e, lt-ltb k (link_count plan) h)

  pub reply_none : (k : ℕ) → So ((game_of game).edge u w) → k ≡ link_to game player plan seats i w → link_count plan ≤ k
      → position_count plan ≡ reply_to game player plan seats i u w
  unfolding reply_to replied ◌&◌
  reply_none k t e h = rw (t, ← e, le-ltb k (link_count plan) h)

  pub reply_no : (game_of game).edge u w ≡ false → position_count plan ≡ reply_to game player plan seats i u w
  unfolding reply_to replied ◌&◌
  reply_no f = rw f

  -- w is replied exactly if the reply is a position
  pub replied_yes : (r : ℕ) → r ≡ reply_to game player plan seats i u w → r < position_count plan → So (replied game player plan seats i u w)
  unfolding reply_to
  replied_yes r e h = elim (decide (replied game player plan seats i u w)) [ inl t ↦ t | inr f ↦ absurd (omega (arith, rw f at e)) ]

  pub replied_no : {marks : List ℕ} → Seated game player plan seats marks → (r : ℕ) → r ≡ reply_to game player plan seats i u w
      → position_count plan ≤ r → replied game player plan seats i u w ≡ false
  unfolding reply_to replied
  replied_no board r e h = So_not (λ t.
      let k = link_to game player plan seats i w in
      omega (arith, rw t at e, board.formed.targets k (ltb-true k (link_count plan) (and_out t).1)))

  pub move_yes : (r : ℕ) → r ≡ reply_to game player plan seats i u w → r < position_count plan → move_to game player plan seats i u w ≡ (r, w) ∷ []
  unfolding reply_to move_to
  move_yes r e h = let t = replied_yes r e h in rw (t, rw t at e) refl

  pub move_no : {marks : List ℕ} → Seated game player plan seats marks → (r : ℕ) → r ≡ reply_to game player plan seats i u w
      → position_count plan ≤ r → move_to game player plan seats i u w ≡ []
  unfolding move_to
  move_no board r e h = rw (replied_no board r e h) refl

-- ---- the moves below a bound

module _ (game : List ℕ) (player : ℕ) (plan seats : List ℕ) (i u : ℕ) where
  -- the moves to the successors of u below b
  abbrev moves : ℕ → List (ℕ × ℕ)
  moves b = moves_below (player_of player) (game_of game) (game_of game) (needed game player) (seated plan seats) i u b

  -- one vertex more
  moves_suc : (w : ℕ) → moves (suc w) ≡ moves w ++ move_to game player plan seats i u w
  unfolding moves_below move_to replied link_to
  moves_suc w = rw (length_links plan seats) (ap (λ (x : List (ℕ × ℕ)). moves w ++ x) (go ((game_of game).edge u w & ltb k (link_count plan)) refl))
    where
      k : ℕ
      k = answer_to (player_of player) (game_of game) (game_of game) (needed game player) (seated plan seats) i w

      go : (b : Bool) → (game_of game).edge u w & ltb k (link_count plan) ≡ b
          → cond {A = List (ℕ × ℕ)} b ((target_of (seated plan seats).links k, w) ∷ []) [] ≡ cond b ((link_target plan k, w) ∷ []) []
      go true e = rw (target_at_lem plan seats k (ltb-true k (link_count plan) (and_out e).1)) refl
      go false e = refl

  pub moves_below_more : (w : ℕ) → moves (w + 1) ≡ moves w ++ move_to game player plan seats i u w
  moves_below_more w = rw (add-one w) (moves_suc w)

  -- the moves below c begin with those below w
  pub moves_below_prefix : (w c : ℕ) → w ≤ c → (left : List (ℕ × ℕ)) × (moves w ++ left ≡ moves c)
  moves_below_prefix w zero h = let e : w ≡ 0 = omega arith in ([], rw e (append-nil (moves 0)))
  moves_below_prefix w (suc c) h = elim (dec_lt c w) [
    | yes l ↦ (let e : w ≡ suc c = omega arith in ([], rw e (append-nil (moves (suc c)))))
    | no l ↦ (
        let r = moves_below_prefix w c (omega arith) in
        let more = move_to game player plan seats i u c in
        (r.0 ++ more, sym (append_assoc (moves w) r.0 more) ∙ ap (λ (x : List (ℕ × ℕ)). x ++ more) r.1 ∙ sym (moves_suc c)))
  ]

  -- vertices that aren't replied add no move
  pub moves_below_skip : (a c : ℕ) → a ≤ c → ((w : ℕ) → a ≤ w → w < c → replied game player plan seats i u w ≡ false) → moves c ≡ moves a
  unfolding move_to
  moves_below_skip a zero h f = let e : a ≡ 0 = omega arith in rw e refl
  moves_below_skip a (suc c) h f = elim (dec_lt c a) [
    | yes l ↦ (let e : a ≡ suc c = omega arith in rw e refl)
    | no l ↦ (
        let none : move_to game player plan seats i u c ≡ [] = rw (f c (omega arith) (omega arith)) refl in
        moves_suc c ∙ ap (λ (x : List (ℕ × ℕ)). moves c ++ x) none ∙ append-nil (moves c)
        ∙ moves_below_skip a c (omega arith) (λ w x y. f w x (omega arith)))
  ]

  move_inside : {marks : List ℕ} → Seated game player plan seats marks → (w : ℕ) (x : ℕ × ℕ) → Among x (move_to game player plan seats i u w)
      → (x.0 < position_count plan) × (x.1 < suc w)
  unfolding move_to replied linked
  move_inside board w x t = go (replied game player plan seats i u w) refl t
    where
      k : ℕ
      k = link_to game player plan seats i w

      go : (b : Bool) → replied game player plan seats i u w ≡ b → Among x (cond b ((link_target plan k, w) ∷ []) [])
          → (x.0 < position_count plan) × (x.1 < suc w)
      go true e t =
          let q = linked_one_out (link_target plan k) w x.0 x.1 t in
          let h = board.formed.targets k (ltb-true k (link_count plan) (and_out e).1) in
          (omega (arith, q.0), omega (arith, q.1))
      go false e t = absurd (false≢true t)

  -- every move is to a position and below the bound
  pub moves_inside : {marks : List ℕ} → Seated game player plan seats marks → (b : ℕ) (x : ℕ × ℕ) → Among x (moves b)
      → (x.0 < position_count plan) × (x.1 < b)
  unfolding moves_below linked
  moves_inside board zero x t = absurd (false≢true t)
  moves_inside board (suc b) x t =
      elim (linked_append (moves b) (move_to game player plan seats i u b) x.0 x.1 (rw (moves_suc b) at t)) [
        | inl o ↦ (let r = moves_inside board b x o in (r.0, omega (arith, r.1)))
        | inr n ↦ move_inside board b x n
      ]
