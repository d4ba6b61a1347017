-- A computed return is a return: links lead from position to position, c k is the priority of position k.
use Rattle.std.specs.Prelude.{◌≡◌, Bool, not, List, [], ◌∷◌, ℕ, ◌<◌}
use Rattle.std.proofs.Common.{ap₂}
use Rattle.std.proofs.Math.Bool.{So}
use Rattle.std.proofs.Math.Dec.{leb}
use borrow.Author.Tests.{leb-true, le-leb}
use Rattle.theory.specs.Logic.Bools.{◌&◌}
use Rattle.theory.proofs.Logic.BoolsLaws.{and_in, and_out, not_in, not_out}
use Rattle.theory.specs.Games.Game.{Player, parity}
use Rattle.theory.specs.Plans.Plan.{Walk}
use Rattle.theory.specs.Plans.Returns.{Return}
use Rattle.theory.specs.Plans.Reach.{Each}
use Rattle.theory.proofs.Plans.ReachLaws.{each_in, each_out, reaches_in, reaches_out, reaches_ext}
use Rattle.plan_returns.specs.Returns.{returns}

module _ (p : ℕ) (link : ℕ → ℕ → Bool) (inside : (i j : ℕ) → So (link i j) → (i < p) × (j < p)) (a : Player) (c : ℕ → ℕ) where
  pub return_out : (i : ℕ) → So (not (parity a (c i)) & returns p link c i) → Return a c link i
  unfolding returns
  return_out i t =
      let u = and_out t in
      let r = reaches_out p link (λ m. leb (c i) (c m)) p i i u.1 in
      record {
        between = r.between;
        walk = r.walk;
        above = λ k m. leb-true (c i) (c k) (each_out (λ k. (k < p) × So (leb (c i) (c k))) r.between r.each k m).1;
        wrong = not_out u.0;
      }

  -- each position between the ends of a walk is one
  walk_inside : (P : ℕ → Type 0) (i : ℕ) (ks : List ℕ) (j : ℕ) → Walk link i ks j → Each P ks → Each (λ k. (k < p) × P k) ks
  walk_inside P i [] j w f = tt
  walk_inside P i (k ∷ ks) j w f = (((inside i k w.0).1, f.0), walk_inside P k ks j w.1 f.1)

  pub return_in : (i : ℕ) → Return a c link i → So (not (parity a (c i)) & returns p link c i)
  unfolding returns
  return_in i r =
      and_in (not_in r.wrong)
      (reaches_in p link (λ m. leb (c i) (c m)) i i
      (record { between = r.between; walk = r.walk; each = walk_inside _ i r.between i r.walk (each_in (λ k. So (leb (c i) (c k))) r.between (λ k m. le-leb (c i) (c k) (r.above k m))) }))

-- the same by links and priorities that agree below p
pub returns_ext : (p : ℕ) (link link' : ℕ → ℕ → Bool) → ((i j : ℕ) → i < p → link i j ≡ link' i j)
    → (c c' : ℕ → ℕ) → ((i : ℕ) → i < p → c i ≡ c' i) → (i : ℕ) → i < p → returns p link c i ≡ returns p link' c' i
unfolding returns
returns_ext p link link' same c c' q i h = reaches_ext p link link' same _ _ (λ m l. ap₂ leb (q i h) (q m l)) p i i h
