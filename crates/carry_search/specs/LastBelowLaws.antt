-- Laws of "the last".
use Rattle.std.specs.Prelude.{◌≡◌, refl, Bool, true, false, cond, ℕ, zero, suc, ◌-◌, ◌≤◌, ◌<◌}
use Rattle.std.proofs.Math.Bool.{So}
use Rattle.std.proofs.Common.{arith}
use Rattle.theory.proofs.Logic.RangeLaws.{below_suc}
use Rattle.carry_search.specs.LastBelow.{last}

pub last_ext : (p q : ℕ → Bool) (n : ℕ) → ((k : ℕ) → k < n → p k ≡ q k) → last p n ≡ last q n
unfolding last
last_ext p q zero h = refl
last_ext p q (suc n) h = rw (h n (omega arith), last_ext p q n (λ k l. h k (omega arith)))

-- what the last of n is like: below n, it passes, and nothing passes from it on
pub record IsLast (p : ℕ → Bool) (n r : ℕ) : Type 0 where
  pub within : r ≤ n
  pub passes : 0 < r → So (p (r - 1))
  pub after : (k : ℕ) → r ≤ k → k < n → p k ≡ false

pub last_is : (p : ℕ → Bool) (n : ℕ) → IsLast p n (last p n)
unfolding last
last_is p zero = record { within = omega arith; passes = λ h. absurd (omega arith); after = λ k l h. absurd (omega arith) }
last_is p (suc n) = go (p n) refl (last_is p n)
  where
    go : (b : Bool) {r : ℕ} → p n ≡ b → IsLast p n r → IsLast p (suc n) (cond b (suc n) r)
    go true e ih = record { within = omega arith; passes = λ h. (let q : suc n - 1 ≡ n = omega arith in rw q e); after = λ k l h. absurd (omega arith) }
    go false {r} e ih = record {
      within = omega (arith, ih.within);
      passes = ih.passes;
      after = λ k l h. below_suc (λ (k : ℕ). r ≤ k → p k ≡ false) (λ k m l. ih.after k l m) (λ l. e) k h l;
    }
