-- Laws of the connectives and of bits: how a test is shown (`-in`) and used (`-out`).
use Rattle.std.specs.Prelude.{◌≡◌, refl, ◌⊎◌, ◌↔◌, Bool, true, false, not, ℕ, ◌+◌, ◌≤◌, ◌<◌, eqb, leb}
use Rattle.std.proofs.Common.{sym, ◌∙◌, inl, inr, ⊎_elim, true≢false, zero-le, le_refl, arith, eqb-true, eq-eqb}
use Rattle.std.proofs.Math.Bool.{So}
use Rattle.std.proofs.lemmas.Bool.{false≢true}
use Rattle.theory.specs.Logic.Bools.{◌&◌, ◌or◌, imp, bit}

pub decide : (b : Bool) → So b ⊎ (b ≡ false)
decide true = inl refl
decide false = inr refl

-- a test that holds and fails
pub clash {ℓ} : {A : Type ℓ} {b : Bool} → So b → b ≡ false → A
clash t f = absurd (true≢false (sym t ∙ f))

-- two tests that imply each other are equal
pub So_ext : {a b : Bool} → (So a → So b) → (So b → So a) → a ≡ b
So_ext {a = true} {b = true} f g = refl
So_ext {a = true} {b = false} f g = sym (f refl)
So_ext {a = false} {b = true} f g = g refl
So_ext {a = false} {b = false} f g = refl

-- equal numbers, from either side
pub eqb_flip : (a b : ℕ) → eqb a b ≡ eqb b a
eqb_flip a b = So_ext (λ t. eq-eqb b a (sym (eqb-true a b t))) (λ t. eq-eqb a b (sym (eqb-true b a t)))

-- a test that cannot hold fails
pub So_not : {b : Bool} → (So b → ⊥) → b ≡ false
So_not {b = true} f = absurd (f refl)
So_not {b = false} f = refl

pub not_in : {b : Bool} → b ≡ false → So (not b)
not_in {b = true} e = absurd (true≢false e)
not_in {b = false} e = refl

pub not_out : {b : Bool} → So (not b) → b ≡ false
not_out {b = true} e = absurd (false≢true e)
not_out {b = false} e = refl

pub and_in : {a b : Bool} → So a → So b → So (a & b)
unfolding ◌&◌
and_in {a = true} {b} p q = q
and_in {a = false} {b} p q = p

pub and_out : {a b : Bool} → So (a & b) → So a × So b
unfolding ◌&◌
and_out {a = true} {b} p = (refl, p)
and_out {a = false} {b} p = absurd (false≢true p)

pub and_fails : (a b : Bool) → b ≡ false → a & b ≡ false
unfolding ◌&◌
and_fails true b e = e
and_fails false b e = refl

pub and_true : (b : Bool) → b & true ≡ b
unfolding ◌&◌
and_true true = refl
and_true false = refl

-- the first is known
pub and_first : {a : Bool} (b : Bool) → a ≡ false → a & b ≡ false
unfolding ◌&◌
and_first b e = rw e

pub and_one : {a : Bool} (b : Bool) → So a → a & b ≡ b
unfolding ◌&◌
and_one b e = rw e

pub and_flip : (a b : Bool) → a & b ≡ b & a
unfolding ◌&◌
and_flip true true = refl
and_flip true false = refl
and_flip false true = refl
and_flip false false = refl

pub and_assoc : (a b c : Bool) → a & b & c ≡ a & (b & c)
unfolding ◌&◌
and_assoc true b c = refl
and_assoc false b c = refl

-- a, and neither b nor c
pub and_neither : (a b c : Bool) → a & not b & not c ≡ a & not (b or c)
unfolding ◌&◌ ◌or◌
and_neither true true c = refl
and_neither true false c = refl
and_neither false b c = refl

pub imp_in : {a b : Bool} → (So a → So b) → So (imp a b)
unfolding imp
imp_in {a = true} {b} f = f refl
imp_in {a = false} {b} f = refl

pub imp_out : {a b : Bool} → So (imp a b) → So a → So b
unfolding imp
imp_out {a = true} {b} h p = h
imp_out {a = false} {b} h p = absurd (false≢true p)

pub imp_fails : (a b : Bool) → imp a b ≡ false → So a × (b ≡ false)
unfolding imp
imp_fails true b e = (refl, e)
imp_fails false b e = absurd (true≢false e)

pub or_left : {a : Bool} (b : Bool) → So a → So (a or b)
unfolding ◌or◌
or_left {a = true} b p = refl
or_left {a = false} b p = absurd (false≢true p)

pub or_right : (a : Bool) {b : Bool} → So b → So (a or b)
unfolding ◌or◌
or_right true {b} p = refl
or_right false {b} p = p

pub or_out : {a b : Bool} → So (a or b) → So a ⊎ So b
unfolding ◌or◌
or_out {a = true} {b} p = inl refl
or_out {a = false} {b} p = inr p

pub or_first : {a : Bool} (b : Bool) → a ≡ false → (a or b) ≡ b
unfolding ◌or◌
or_first b e = rw e

pub or_flip : (a b : Bool) → (a or b) ≡ (b or a)
unfolding ◌or◌
or_flip true true = refl
or_flip true false = refl
or_flip false true = refl
or_flip false false = refl

-- what it says, and that it fails
pub or_says : {a b : Bool} {A B : Type 0} → So a ↔ A → So b ↔ B → So (a or b) ↔ (A ⊎ B)
or_says {a} {b} s t = (λ h. ⊎_elim (λ x. inl (s.0 x)) (λ y. inr (t.0 y)) (or_out h), λ h. ⊎_elim (λ x. or_left b (s.1 x)) (λ y. or_right a (t.1 y)) h)

pub or_fails : (a b : Bool) → ((a or b) ≡ false) ↔ ((a ≡ false) × (b ≡ false))
unfolding ◌or◌
or_fails true b = (λ e. absurd (false≢true (sym e)), λ p. absurd (false≢true (sym p.0)))
or_fails false b = (λ e. (refl, e), λ p. p.1)

pub or_false : (b : Bool) → (b or false) ≡ b
unfolding ◌or◌
or_false true = refl
or_false false = refl

-- ---- the bit of a test

pub bit_in : {b : Bool} → So b → bit b ≡ 1
unfolding bit
bit_in e = rw e

pub bit_out : (b : Bool) → bit b ≡ 1 → So b
unfolding bit
bit_out true e = refl
bit_out false e = absurd (omega arith)

pub bit_set : (b : Bool) → (bit b ≡ 0 → ⊥) → So b
unfolding bit
bit_set true h = refl
bit_set false h = absurd (h refl)

pub bit_clear : (b : Bool) → bit b ≡ 0 → b ≡ false
unfolding bit
bit_clear true h = absurd (omega arith)
bit_clear false h = refl

pub bit_le : (b : Bool) → bit b ≤ 1
unfolding bit
bit_le true = omega arith
bit_le false = omega arith

-- a test holds or fails
pub bit_either : (b : Bool) → bit b + bit (not b) ≡ 1
unfolding bit
bit_either true = refl
bit_either false = refl

-- read back
pub bit_is_one : (b : Bool) → eqb (bit b) 1 ≡ b
unfolding bit
bit_is_one true = refl
bit_is_one false = refl

pub bit_is_some : (b : Bool) → leb 1 (bit b) ≡ b
unfolding bit
bit_is_some true = refl
bit_is_some false = refl

pub bit_mono : (a b : Bool) → (So a → So b) → bit a ≤ bit b
unfolding bit
bit_mono true true f = le_refl 1
bit_mono true false f = absurd (false≢true (f refl))
bit_mono false true f = zero-le
bit_mono false false f = zero-le

pub bit_less : (a b : Bool) → a ≡ false → So b → bit a < bit b
unfolding bit
bit_less true b e f = absurd (true≢false e)
bit_less false true e f = le_refl 1
bit_less false false e f = absurd (false≢true f)
