-- What answers a move of the search, as the code works it out: what the parts of the calls that carry a plan assume and promise of each
-- other. No public promise cites these.
use Rattle.std.specs.Prelude.{◌≡◌, Bool, cond, List, [], ◌∷◌, ℕ, ◌+◌, ◌≤◌, ◌<◌, eqb, ltb, length, get_or}
use Rattle.theory.specs.Logic.Bools.{◌&◌}
use Rattle.theory.specs.Logic.Range.{first, tabulate}
use Rattle.theory.specs.Order.Passes.{Rel}
use Rattle.theory.specs.Order.Order.{order}
use Rattle.theory.specs.Plans.Plan.{Plan}
use Rattle.theory.specs.Classes.Reduction.{no_better}
use Rattle.theory.specs.Carry.Carry.{answer_to}
use Rattle.table.specs.Table.{vertex_count, player_of, game_of}
use Rattle.table.specs.WellFormed.{WellFormed}
use Rattle.table.specs.Flags.{EdgeFlags}
use Rattle.classes.specs.Numbering.{Ordered}
use Rattle.plan_links.specs.PlanTable.{position_count, link_count, link_source, link_target, plan_of}
use Rattle.plan_links.specs.PlanFormed.{PlanFormed}
use Rattle.carry_replies.specs.declared.SeatedPlan.{SeatedPlan}
use Rattle.carry_replies.specs.declared.Replies.{Replies}

-- ---- the plan that the search follows

-- the old plan with each position at the vertex as which it compares: its own or, on the reduced game, the lowest member of its class
unfoldable pub seated : List ℕ → List ℕ → Plan
seated plan seats = record { vertices = tabulate (position_count plan) (λ i. get_or seats i 0); links = (plan_of plan).links }

-- a well-formed game and plan, the vertices as which the plan's positions compare, and marks that hold the game's order
pub record Seated (game : List ℕ) (player : ℕ) (plan seats marks : List ℕ) : Type 0 where
  pub well : WellFormed game
  pub number : player ≤ 1
  pub formed : PlanFormed (vertex_count game) plan
  pub long : position_count plan ≤ length seats
  pub inside : (i : ℕ) → i < position_count plan → get_or seats i 0 < vertex_count game
  pub ordered : Ordered (game_of game) marks

-- ---- chains

-- the links of each position in a chain, in the table's order: the first link of i, and after link k the next of the same position. The
-- number of links ends a chain.
pub record LinkChains (source : ℕ → ℕ) (l p : ℕ) (firsts follow : List ℕ) : Type 0 where
  pub head : (i : ℕ) → i < p → get_or firsts i 0 ≡ first (λ k. eqb (source k) i) 0 l
  pub next : (k : ℕ) → k < l → get_or follow k 0 ≡ first (λ j. eqb (source j) (source k)) (k + 1) l

-- all that an answer reads: the chains beside the plan
pub record Linked (game : List ℕ) (player : ℕ) (plan seats marks firsts follow : List ℕ) : Type 0 where
  pub board : Seated game player plan seats marks
  pub firsts_long : position_count plan ≤ length firsts
  pub follow_long : link_count plan ≤ length follow
  pub chains : LinkChains (link_source plan) (link_count plan) (position_count plan) firsts follow

-- all that a reply reads: the flags of the edges, too
pub record Readable (game : List ℕ) (player : ℕ) (plan seats marks edges firsts follow : List ℕ) : Type 0 where
  pub links : Linked game player plan seats marks firsts follow
  pub flags : EdgeFlags game edges

-- ---- the same facts of the structs in which the code passes these tables

abbrev pub IsSeated : SeatedPlan → Type 0
IsSeated s = Seated s.game.now s.player s.plan.now s.seats.now s.marks.now

abbrev pub IsLinked : Replies → Type 0
IsLinked r = Linked r.seated.game.now r.seated.player r.seated.plan.now r.seated.seats.now r.seated.marks.now r.firsts.now r.follow.now

abbrev pub IsReadable : Replies → Type 0
IsReadable r =
    Readable r.seated.game.now r.seated.player r.seated.plan.now r.seated.seats.now r.seated.marks.now r.edges.now r.firsts.now r.follow.now

-- ---- replies

-- the needed order
abbrev pub needed : List ℕ → ℕ → Rel
needed game player = no_better (player_of player) (order (game_of game))

module _ (game : List ℕ) (player : ℕ) (plan seats : List ℕ) (i : ℕ) where
  -- the link followed from i where the new vertex is w; the number of links where there is none
  unfoldable pub link_to : ℕ → ℕ
  link_to w = answer_to (player_of player) (game_of game) (game_of game) (needed game player) (seated plan seats) i w

  -- u has the successor w, and a link keeps it
  unfoldable pub replied : ℕ → ℕ → Bool
  replied u w = (game_of game).edge u w & ltb (link_to w) (link_count plan)

  -- the position that the link leads to; the number of positions where there is none
  unfoldable pub reply_to : ℕ → ℕ → ℕ
  reply_to u w = cond (replied u w) (link_target plan (link_to w)) (position_count plan)

  -- the move to w, if there is one
  unfoldable pub move_to : ℕ → ℕ → List (ℕ × ℕ)
  move_to u w = cond (replied u w) ((link_target plan (link_to w), w) ∷ []) []
