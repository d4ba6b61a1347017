-- Laws of the kinds' ranges.
use Rattle.std.specs.Prelude.{◌≡◌, false, ℕ, ◌≤◌}
use Rattle.std.proofs.Math.Bool.{So}
use Rattle.std.proofs.Common.{le-leb, leb-true}
use Rattle.theory.proofs.Logic.BoolsLaws.{and_in, and_out, So_not}
use Rattle.table.specs.Kind.{within}

pub within_in : (a b k : ℕ) → a ≤ k → k ≤ b → So (within a b k)
unfolding within
within_in a b k l h = and_in (le-leb a k l) (le-leb k b h)

pub within_fails : (a b k : ℕ) → (a ≤ k → k ≤ b → ⊥) → within a b k ≡ false
unfolding within
within_fails a b k m = So_not (λ t. let w = and_out t in m (leb-true a k w.0) (leb-true k b w.1))
