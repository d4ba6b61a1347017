-- A loop over the numbers below e that pass, from one to the next: where it stands, what it has picked by a test q, and what holds of each that
-- it has passed.
use Rattle.std.specs.Prelude.{◌≡◌, Bool, false, ℕ, ◌+◌, ◌≤◌, ◌<◌, eqb, ltb}
use Rattle.std.proofs.Common.{sym, ◌∙◌, subst, inl, inr, arith, eqb-true, eq-eqb, ltb-true, lt-ltb}
use Rattle.std.proofs.Math.Bool.{So}
use Rattle.std.proofs.Math.Decide.{dec_lt, ℕ_discrete}
use Rattle.theory.specs.Logic.Bools.{◌&◌, ◌or◌}
use Rattle.theory.proofs.Logic.BoolsLaws.{clash, So_ext, So_not, and_in, and_out, or_left, or_right, or_out}
use Rattle.theory.specs.Logic.Range.{first}
use Rattle.theory.proofs.Logic.RangeLaws.{first_ge, first_le, first_before, first_passes}

module _ (p : ℕ → Bool) (e : ℕ) where
  -- where the loop stands: at a member, or at the end
  abbrev pub Reached : ℕ → Type 0
  Reached k = (k ≤ e) × (k < e → So (p k))

  pub reached_start : Reached (first p 0 e)
  reached_start = (first_le p 0 e (omega arith), first_passes p 0 e (omega arith))

  pub reached_next : (a : ℕ) → a < e → Reached (first p (a + 1) e)
  reached_next a h = (first_le p (a + 1) e (omega arith), first_passes p (a + 1) e (omega arith))

  -- ---- the members before n that pass q

  module _ (q : ℕ → Bool) where
    abbrev pub kept : ℕ → ℕ → Bool
    kept n i = ltb i n & (p i & q i)

    -- from n to k there is no member
    pub kept_skip : (n k : ℕ) → n ≤ k → ((u : ℕ) → n ≤ u → u < k → p u ≡ false) → (i : ℕ) → kept n i ≡ kept k i
    kept_skip n k l none i =
        So_ext
        (λ s. let c = and_out s in and_in (lt-ltb i k (omega (arith, ltb-true i n c.0))) c.1)
        (λ s. let c = and_out s in elim (dec_lt i n) [
          | yes h ↦ and_in (lt-ltb i n h) c.1
          | no h ↦ clash (and_out c.1).0 (none i (omega arith) (ltb-true i k c.0))
        ])

    -- a is a member
    pub kept_step : (a : ℕ) → So (p a) → (i : ℕ) → ((eqb i a & q a) or kept a i) ≡ kept (a + 1) i
    kept_step a t i =
        So_ext
        (λ s. elim (or_out s) [
          | inl x ↦ (let c = and_out x in
              let j : i ≡ a = eqb-true i a c.0 in
              and_in (lt-ltb i (a + 1) (omega arith)) (rw j (and_in t c.1)))
          | inr x ↦ (let c = and_out x in and_in (lt-ltb i (a + 1) (omega (arith, ltb-true i a c.0))) c.1)
        ])
        (λ s. let c = and_out s in elim (ℕ_discrete i a) [
          | yes j ↦ or_left _ (and_in (eq-eqb i a j) (subst (λ (k : ℕ). So (q k)) j (and_out c.1).1))
          | no j ↦ or_right _ (and_in (lt-ltb i a (omega (arith, ltb-true i (a + 1) c.0))) c.1)
        ])

    pub kept_none : (i : ℕ) → kept 0 i ≡ false
    kept_none i = So_not (λ t. omega (arith, ltb-true i 0 (and_out t).0))

    pub kept_start : (i : ℕ) → kept (first p 0 e) i ≡ false
    kept_start i = sym (kept_skip 0 (first p 0 e) (omega arith) (λ u. first_before p 0 e u) i) ∙ kept_none i

    pub kept_next : (a : ℕ) → So (p a) → (i : ℕ) → ((eqb i a & q a) or kept a i) ≡ kept (first p (a + 1) e) i
    kept_next a t i = kept_step a t i ∙ kept_skip (a + 1) (first p (a + 1) e) (first_ge p (a + 1) e) (λ u. first_before p (a + 1) e u) i

    pub kept_end : (a : ℕ) → e ≤ a → (i : ℕ) → i < e → kept a i ≡ p i & q i
    unfolding ◌&◌
    kept_end a l i h = rw (lt-ltb i a (omega arith))

  -- ---- what holds of each member before n

  abbrev pub Members : (ℕ → Type 0) → ℕ → Type 0
  Members P n = (u : ℕ) → u < n → So (p u) → P u

  pub members_skip : (P : ℕ → Type 0) (n k : ℕ) → ((u : ℕ) → n ≤ u → u < k → p u ≡ false) → Members P n → Members P k
  members_skip P n k none m u h t = elim (dec_lt u n) [ yes l ↦ m u l t | no l ↦ clash t (none u (omega arith) h) ]

  pub members_step : (P : ℕ → Type 0) (a : ℕ) → Members P a → P a → Members P (a + 1)
  members_step P a m x u h t = elim (ℕ_discrete u a) [ yes j ↦ subst P (sym j) x | no j ↦ m u (omega arith) t ]

  pub members_start : (P : ℕ → Type 0) → Members P (first p 0 e)
  members_start P = members_skip P 0 (first p 0 e) (λ u. first_before p 0 e u) (λ u h t. absurd (omega arith))

  pub members_next : (P : ℕ → Type 0) (a : ℕ) → Members P a → P a → Members P (first p (a + 1) e)
  members_next P a m x = members_skip P (a + 1) (first p (a + 1) e) (λ u. first_before p (a + 1) e u) (members_step P a m x)
