-- Edges between classes in terms of logic, by the order of the game g. The executable ones of `Reduction` are these (`QuotientLaws`).
use Rattle.std.specs.Prelude.{◌≡◌, ℕ, ◌<◌}
use Rattle.std.proofs.Math.Bool.{So}
use Rattle.theory.specs.Order.Passes.{Rel}
use Rattle.theory.specs.Games.Game.{Player, Game, Succ}
use Rattle.theory.specs.Order.Order.{order}
use Rattle.theory.specs.Classes.Reduction.{same_class, is_lowest, no_better, quotient_edge}

-- every member of c's class has a successor in d's
abbrev pub QuotientEdge : Game → ℕ → ℕ → Type 0
QuotientEdge g c d = (v : ℕ) → v < g.n → So (same_class (order g) v c) → (w : ℕ) × Succ g v w × So (same_class (order g) w d)

-- what makes an edge to d be dropped: another one, with d no better for the owner of c
pub record Better (g : Game) (c d : ℕ) : Type 0 where
  pub to : ℕ
  pub inside : to < g.n
  pub is_lowest_lem : So (is_lowest g.n (order g) to)
  pub apart : to ≡ d → ⊥
  pub edge : So (quotient_edge g (order g) c to)
  pub above : So (no_better (g.owner c) (order g) d to)

-- ---- for any choice E of edges between lowest members

-- an edge of E from c to a lowest member that is at least as good as x for the player
pub record EdgeAbove (g : Game) (E : Rel) (a : Player) (c x : ℕ) : Type 0 where
  pub to : ℕ
  pub inside : to < g.n
  pub is_lowest_lem : So (is_lowest g.n (order g) to)
  pub edge : So (E c to)
  pub above : So (no_better a (order g) x to)

-- E holds quotient edges alone, and enough of them: one above each successor, for the owner
pub record Enough (g : Game) (E : Rel) : Type 0 where
  pub is_quotient : (c d : ℕ) → So (E c d) → So (quotient_edge g (order g) c d)
  pub above : (c x : ℕ) → c < g.n → Succ g c x → EdgeAbove g E (g.owner c) c x
