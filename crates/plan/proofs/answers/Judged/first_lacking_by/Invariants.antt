use Prim.Native.Nat.{ℕ}
use mathlib.Core.Path.{◌≡◌}
use mathlib.Core.List.{List}
use Rattle.theory.specs.Logic.Range.{first}
use Rattle.plan_returns.specs.Search.{NoLater}
use Rattle.plan.specs.Acceptance.{lacks_link}
use Rattle.plan.proofs.answers.Judged.first_lacking_by.Given as goal

pub record Inv (game : List ℕ) (player : ℕ) (plan : List ℕ) (p : ℕ) (stamps : List ℕ) (i : ℕ) : Type 0 where
  pub latest : NoLater i stamps
  pub rest : first (lacks_link game player plan) 0 p ≡ first (lacks_link game player plan) i p

abbrev pub invariant-loop-i : goal.invariant-loop-i
invariant-loop-i l = Inv l.self.game.now l.self.player l.self.plan.now l.p l.stamps l.i
