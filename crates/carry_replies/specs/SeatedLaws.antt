-- Laws of the plan that the search follows: its vertices are the seats, its links those of the table.
use Rattle.std.specs.Prelude.{◌≡◌, List, ℕ, ◌<◌, length}
use Rattle.std.proofs.Common.{ap}
use Rattle.std.proofs.Math.ListN.{get_or}
use Rattle.theory.proofs.Logic.ListLaws.{length_tabulate, get_d_tabulate}
use Rattle.theory.specs.Carry.Carry.{source_of, target_of}
use Rattle.plan_links.specs.PlanTable.{position_count, link_count, link_source, link_target, plan_of}
use Rattle.carry_replies.specs.Replies.{seated}

module _ (plan seats : List ℕ) where
  pub seat_at : (i : ℕ) → i < position_count plan → get_or (seated plan seats).vertices i 0 ≡ get_or seats i 0
  unfolding seated
  seat_at i h = get_d_tabulate (position_count plan) (λ i. get_or seats i 0) 0 i h

  pub length_links : length (seated plan seats).links ≡ link_count plan
  unfolding seated plan_of
  length_links = length_tabulate (link_count plan) (λ k. (link_source plan k, link_target plan k))

  link_at : (k : ℕ) → k < link_count plan → get_or (seated plan seats).links k (0, 0) ≡ (link_source plan k, link_target plan k)
  unfolding seated plan_of
  link_at k h = get_d_tabulate (link_count plan) (λ k. (link_source plan k, link_target plan k)) (0, 0) k h

  pub source_at_lem : (k : ℕ) → k < link_count plan → source_of (seated plan seats).links k ≡ link_source plan k
  source_at_lem k h = ap (λ (x : ℕ × ℕ). x.0) (link_at k h)

  pub target_at_lem : (k : ℕ) → k < link_count plan → target_of (seated plan seats).links k ≡ link_target plan k
  target_at_lem k h = ap (λ (x : ℕ × ℕ). x.1) (link_at k h)
