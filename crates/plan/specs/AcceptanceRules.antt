-- The plan acceptor's table of refusals in terms of logic: document 01's rows 11 to 16, each with its number, its condition and its place.
use Rattle.std.specs.Prelude.{◌≡◌, ◌⊎◌, ◌≢◌, false, List, [], ◌∷◌, ℕ, ◌+◌, ◌≤◌, ◌<◌, length, get_or}
use Rattle.std.proofs.Math.Bool.{So}
use Rattle.theory.specs.Games.Game.{own, Succ}
use Rattle.theory.specs.Plans.Plan.{linked, Wins}
use Rattle.theory.specs.Plans.Returns.{WrongWalk}
use Rattle.table.specs.Limits.{position_limit, link_limit}
use Rattle.table.specs.Table.{vertex_count, player_of, game_of}
use Rattle.table.specs.WellFormed.{WellFormed}
use Rattle.table.specs.Rules.{Rule, placed, first_such}
use Rattle.plan_links.specs.PlanTable.{position_count, link_count, vertex_at, link_source, link_target, plan_length, plan_of}
use Rattle.plan_links.specs.PlanFormed.{PlanSized}
use Rattle.plan_returns.specs.Returns.{position_priority}

-- under 2 words, p or l out of limits, or length not 2 + p + 2l
abbrev pub BadSize : List ℕ → Type 0
BadSize w =
    (length w < 2)
    ⊎ ((position_count w ≡ 0) ⊎ ((position_limit < position_count w) ⊎ ((link_limit < link_count w) ⊎ (length w ≢ plan_length (position_count w) (link_count w)))))

-- word k is a position's vertex not below n, or a link end not below p
abbrev pub Beyond : ℕ → List ℕ → ℕ → Type 0
Beyond n w k = ((k < 2 + position_count w) × (n ≤ get_or w k 0)) ⊎ ((2 + position_count w ≤ k) × (position_count w ≤ get_or w k 0))

-- link k follows no edge
abbrev pub Strays : List ℕ → List ℕ → ℕ → Type 0
Strays g w k = ¬ So ((game_of g).edge (vertex_at w (link_source w k)) (vertex_at w (link_target w k)))

-- position i is at a vertex of the player's and has no link
pub record LacksMove (g : List ℕ) (player : ℕ) (w : List ℕ) (i : ℕ) : Type 0 where
  pub owner : So (own (game_of g) (player_of player) (vertex_at w i))
  pub none : (j : ℕ) → ¬ So (linked (plan_of w).links i j)

-- position i is at the opponent's vertex, and for some successor it has no link to a position at it
pub record LacksAnswer (g : List ℕ) (player : ℕ) (w : List ℕ) (i : ℕ) : Type 0 where
  pub owner : own (game_of g) (player_of player) (vertex_at w i) ≡ false
  pub successor : ℕ
  pub move : Succ (game_of g) (vertex_at w i) successor
  pub none : (j : ℕ) → So (linked (plan_of w).links i j) → vertex_at w j ≢ successor

abbrev pub plan_rules : List ℕ → ℕ → List ℕ → List Rule
plan_rules g player w =
    let p = position_count w in
    let l = link_count w in
    placed 11 (1 < player) 0
    ∷ placed 12 (BadSize w) 0
    ∷ first_such 13 (Beyond (vertex_count g) w) 2 (plan_length p l) (λ k. k)
    ∷ first_such 14 (Strays g w) 0 l (λ k. k)
    ∷ first_such 15 (λ i. LacksMove g player w i ⊎ LacksAnswer g player w i) 0 p (λ i. i)
    ∷ first_such 16 (WrongWalk (player_of player) (position_priority g w) (linked (plan_of w).links)) 0 p (λ i. i)
    ∷ []

-- what is accepted: a well-formed game, one of the two players, and a plan within the limits that wins from the vertex of position 0
pub record Accepts (g : List ℕ) (player : ℕ) (w : List ℕ) : Type 0 where
  pub game : WellFormed g
  pub number : player ≤ 1
  pub sized : PlanSized w
  pub wins : Wins (player_of player) (game_of g) (plan_of w) (vertex_at w 0)
