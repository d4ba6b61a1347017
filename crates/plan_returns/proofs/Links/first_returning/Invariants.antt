use Prim.Native.Nat.{ℕ}
use mathlib.Core.Path.{◌≡◌}
use mathlib.Core.List.{List}
use Rattle.theory.specs.Logic.Range.{first}
use Rattle.plan_blocks.specs.Blocks.{link_by, Confined}
use Rattle.plan_returns.specs.Search.{NoLater}
use Rattle.plan_returns.specs.ReturnSearch.{wrong_by}
use Rattle.plan_returns.proofs.Links.first_returning.Given as goal

pub record Inv (starts targets priorities : List ℕ) (p player : ℕ) (blocks seen : List ℕ) (i : ℕ) : Type 0 where
  pub latest : NoLater i seen
  pub confined : Confined p player (link_by starts targets) priorities blocks
  pub rest : first (wrong_by starts targets priorities p player) 0 p ≡ first (wrong_by starts targets priorities p player) i p

abbrev pub invariant-loop-i : goal.invariant-loop-i
invariant-loop-i l = Inv l.self.starts.now l.self.targets.now l.self.priorities.now l.self.p l.self.player l.blocks l.memory.seen l.i
