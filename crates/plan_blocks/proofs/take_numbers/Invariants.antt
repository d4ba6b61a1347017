use Prim.Native.Nat.{ℕ, ◌≤◌}
use mathlib.Core.Path.{◌≡◌}
use lib.ListN.{get_or}
use Rattle.plan_blocks.specs.Refining.{Taken}
use Rattle.plan_blocks.proofs.take_numbers.Given as goal

abbrev pub invariant-loop-u : goal.invariant-loop-u
invariant-loop-u l = Taken l.u l.initial.blocks l.numbers l.blocks × ((k : ℕ) → l.u ≤ k → get_or l.blocks k 0 ≡ get_or l.initial.blocks k 0)
