-- A maximal element above a given one, in a finite preorder: one scan that moves on whenever the next is above.
use Rattle.std.proofs.Common.{inl, inr, not-suc-le-zero, le_refl, arith}
use Rattle.std.specs.Prelude.{Bool, ℕ, zero, suc, ◌≤◌, ◌<◌}
use Rattle.std.proofs.Math.Bool.{So}
use Rattle.theory.specs.Logic.Bools.{◌&◌}
use Rattle.theory.proofs.Logic.BoolsLaws.{decide, clash, and_in, and_out}
use Rattle.theory.proofs.Logic.RangeLaws.{below_suc}
use Rattle.theory.specs.Order.Passes.{Rel}
use Rattle.theory.specs.Order.Order.{Preorder}

module _ (n : ℕ) (le : Rel) (pre : Preorder n le) (member : ℕ → Bool) (x : ℕ) (hx : x < n) (mx : So (member x)) where
  -- a member above x that is maximal among the members below k
  pub record Top (k : ℕ) : Type 0 where
    pub at : ℕ
    pub inside : at < n
    pub is_member : So (member at)
    pub above : So (le x at)
    pub maximal : (y : ℕ) → y < k → So (member y) → So (le at y) → So (le y at)

  scan : (k : ℕ) → k ≤ n → Top k
  scan zero h = record { at = x; inside = hx; is_member = mx; above = pre.reflexive x hx; maximal = λ y l. absurd (not-suc-le-zero l) }
  scan (suc k) h = go (scan k (omega arith))
    where
      go : Top k → Top (suc k)
      go t =
          let m = t.at in
          let hm = t.inside in
          elim (decide (member k & le m k)) [
            | inl u ↦ (
                let mk = (and_out u).1 in record {
                  at = k;
                  inside = h;
                  is_member = (and_out u).0;
                  above = pre.transitive x m k hx hm h t.above mk;
                  maximal =
                      below_suc (λ (y : ℕ). So (member y) → So (le k y) → So (le y k))
                      (λ y l my ky.
                      let hy : y < n = omega arith in
                      pre.transitive y m k hy hm h (t.maximal y l my (pre.transitive m k y hm h hy mk ky)) mk)
                      (λ my kk. kk);
                })
            | inr e ↦ record {
              at = m;
              inside = hm;
              is_member = t.is_member;
              above = t.above;
              maximal =
                  below_suc (λ (y : ℕ). So (member y) → So (le m y) → So (le y m)) t.maximal
                  (λ my le-my. clash (and_in my le-my) e);
            }
          ]

  pub top : Top n
  top = scan n (le_refl n)
