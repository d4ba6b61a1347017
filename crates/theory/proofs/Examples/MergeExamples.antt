-- Merged vertices: a ring of two, one of each player, is merged into a loop, where who moves makes no difference; and a choice that is given to
-- the other player, where it does.
use Rattle.std.specs.Prelude.{◌≡◌, refl, [], ◌∷◌, ℕ, zero, suc, ◌<◌}
use Rattle.std.proofs.Common.{◌∙◌, inl, inr, arith}
use Rattle.std.proofs.Math.Bool.{So}
use Rattle.theory.specs.Games.Game.{Player, even, odd, same, Game, Succ}
use Rattle.theory.proofs.Games.GameLaws.{total_out}
use Rattle.theory.specs.Order.Order.{order}
use Rattle.theory.specs.Order.Governed.{governed}
use Rattle.theory.specs.Plans.Plan.{Plan, Won}
use Rattle.theory.proofs.Plans.PlanTestLaws.{surely_wins_lem}
use Rattle.theory.proofs.Winners.DeterminacyLaws.{winner, winner_is}
use Rattle.theory.specs.Classes.Reduction.{class_of}
use Rattle.theory.specs.Merges.Merged.{Merged, Onto, GovernedQuotient}
use Rattle.theory.proofs.Merges.MergedLaws.{merged_won, onto_total, merged_winner, merged_compose, onto_compose}
use Rattle.theory.proofs.Merges.GovernedMergeLaws.{quotient_merged, merged_quotient, merged_bisimilar, merged_order, merged_class}
use Rattle.theory.proofs.Examples.Compute.{compute}
use Rattle.theory.proofs.Examples.Examples.{list_game}

-- ---- 0 is Even's, 1 Odd's, both of priority 1, with an edge each way; the loop is Even's

unfoldable pub ring : Game
unfolding list_game
ring = list_game (1 ∷ 1 ∷ []) (even ∷ odd ∷ []) ((0, 1) ∷ (1, 0) ∷ [])

unfoldable pub loop : Game
unfolding list_game
loop = list_game (1 ∷ []) (even ∷ []) ((0, 0) ∷ [])

abbrev pub one : ℕ → ℕ
one v = 0

loops : Succ loop 0 0
unfolding compute loop
loops = record { inside = omega arith; along = refl }

only : (d : ℕ) → Succ loop 0 d → 0 ≡ d
unfolding loop
only d s = let h = s.inside in omega arith

pub ring_merged : Merged ring loop one
unfolding compute ring loop
ring_merged = record {
  inside = λ v h. omega arith;
  priority = priority;
  total = total_out ring refl;
  forth = λ v w h s. loops;
  back = λ v d h s. let (w, t) = total_out ring refl v h in (w, t, only d s);
  owner = λ v h. inr (λ d e s t. omega (arith, only d s, only e t));
}
  where
    priority : (v : ℕ) → v < 2 → ring.priority v ≡ 1
    priority zero h = refl
    priority (suc zero) h = refl
    priority (suc (suc v)) h = absurd (omega arith)

pub ring_onto : Onto ring loop one
unfolding ring loop
ring_onto c h = (0, omega arith, omega arith)

-- Odd wins round the loop; so at both vertices of the ring
unfoldable pub round : Plan
round = record { vertices = 0 ∷ []; links = (0, 0) ∷ [] }

pub loop_won : Won odd loop 0
unfolding compute loop round
loop_won = (round, surely_wins_lem odd loop round 0 refl)

pub ring_won : Won odd ring 1
unfolding ring
ring_won = (merged_won ring_merged odd 1 (omega arith)).1 loop_won

pub ring_winner : winner ring 1 ≡ odd
unfolding ring loop
ring_winner =
    let total = onto_total ring_merged ring_onto in
    merged_winner ring_merged total 1 (omega arith) ∙ (winner_is loop total 0 (omega arith) odd).0 loop_won

-- its vertices are governed bisimilar, below each other, and in one class
pub ring_bisimilar : So (governed ring 0 1)
unfolding ring
ring_bisimilar = merged_bisimilar ring_merged 0 1 (omega arith) (omega arith) refl

pub ring_order : So (order ring 1 0)
unfolding ring
ring_order = merged_order ring_merged 1 0 (omega arith) (omega arith) refl

pub ring_class : class_of ring 0 ≡ class_of ring 1
unfolding ring
ring_class = merged_class ring_merged 0 1 (omega arith) (omega arith) refl

-- the loop is the quotient, and merges into itself
pub ring_quotient : GovernedQuotient ring loop one
ring_quotient = merged_quotient ring_merged ring_onto

pub loop_merged : Merged loop loop one
unfolding compute loop
loop_merged = record {
  inside = λ v h. omega arith;
  priority = λ v h. let e : v ≡ 0 = omega arith in rw e;
  total = total_out loop refl;
  forth = λ v w h s. loops;
  back = λ v d h s. (0, rw (only_vertex v h) loops, only d s);
  owner = λ v h. inr (λ d e s t. omega (arith, only d s, only e t));
}
  where
    only_vertex : (v : ℕ) → v < 1 → v ≡ 0
    only_vertex v h = omega arith

pub ring_twice : Merged ring loop one
ring_twice = merged_compose (quotient_merged ring_quotient) loop_merged

pub ring_twice_onto : Onto ring loop one
unfolding loop
ring_twice_onto = onto_compose ring_merged loop_merged ring_onto (λ c h. (0, omega arith, omega arith))

-- ---- 0 leads to the loops 1, of priority 0, and 2, of priority 1; the same game, but that 0 is Odd's

unfoldable pub choice : Player → Game
unfolding list_game
choice a = list_game (3 ∷ 0 ∷ 1 ∷ []) (a ∷ []) ((0, 1) ∷ (0, 2) ∷ (1, 1) ∷ (2, 2) ∷ [])

-- no map that leaves 0, 1 and 2 where they are merges one into the other
pub choice_not_merged : ¬ Merged (choice even) (choice odd) (λ v. v)
unfolding compute choice same
choice_not_merged m = elim (m.owner 0 (omega arith)) [
  | inl e ↦ apart e
  | inr s ↦ (let z = s 1 2 (record { inside = omega arith; along = refl }) (record { inside = omega arith; along = refl }) in omega (arith, z))
]
  where
    apart : even ≡ odd → ⊥
    apart e = let z : ◌≡◌ {A = ℕ} 0 1 = cc in omega arith
