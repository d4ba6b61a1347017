-- A loop over the bits of a word, by those that are left: what it has gathered of a test q among the others.
use Rattle.std.specs.Prelude.{◌≡◌, Bool, not, ℕ, ◌≤◌, ◌<◌, eqb}
use Rattle.std.proofs.Math.Path.{refl, sym}
use Rattle.std.proofs.Common.{ap, ◌∙◌, subst, inl, inr, arith, eqb-true, eq-eqb, ne_eqb}
use Rattle.std.proofs.Math.Bool.{true, false, So}
use Rattle.std.proofs.Math.Decide.{dec_lt, ℕ_discrete}
use Rattle.theory.specs.Logic.Bools.{◌&◌, ◌or◌}
use Rattle.theory.proofs.Logic.BoolsLaws.{clash, So_ext, So_not, and_in, and_out, and_true, or_left, or_right, or_out, or_false, not_in, not_out, and_neither}
use Rattle.theory.specs.Logic.Range.{any_below}
use Rattle.theory.proofs.Logic.RangeLaws.{any_in, any_out, any_ext, first_le, first_before, first_passes, first_none}
use Rattle.words.specs.Word.{word_bits, digit, lowest_bit, Lowest, Rest}
use Rattle.words.specs.WordLaws.{digit_zero}

module _ (which : ℕ) where
  -- what is left is a part of the word
  abbrev pub Left : ℕ → Type 0
  Left left = (k : ℕ) → So (digit left k) → So (digit which k)

  pub left_start : Left which
  left_start k t = t

  pub left_next : (left r : ℕ) → Left left → Rest left r → Left r
  left_next left r l e k t = l k (and_out (sym (e.digits k) ∙ t)).0

  -- bit k isn't left, and passes
  abbrev pub picked : (ℕ → Bool) → ℕ → ℕ → Bool
  picked q left k = (digit which k & not (digit left k)) & q k

  module _ (q : ℕ → Bool) where
    pub picked_start : (k : ℕ) → picked q which k ≡ false
    picked_start k = So_not (λ t. let c = and_out (and_out t).0 in clash c.0 (not_out c.1))

    -- the lowest bit that is left goes
    pub picked_next : (left k r : ℕ) → Left left → Lowest left k → Rest left r → (i : ℕ) → ((eqb i k & q k) or picked q left i) ≡ picked q r i
    picked_next left k r l m e i =
        So_ext
        (λ s. elim (or_out s) [
          | inl x ↦ (let c = and_out x in
              let j : i ≡ k = eqb-true i k c.0 in
              subst (λ (a : ℕ). So (picked q r a)) (sym j) (and_in (and_in (l k m.set) (not_in (gone k refl))) c.1))
          | inr x ↦ (let c = and_out x in
              let d = and_out c.0 in
              and_in (and_in d.0 (not_in (So_not (λ t. clash (and_out (sym (e.digits i) ∙ t)).0 (not_out d.1))))) c.1)
        ])
        (λ s. let c = and_out s in let d = and_out c.0 in elim (ℕ_discrete i k) [
          | yes j ↦ or_left _ (and_in (eq-eqb i k j) (subst (λ (a : ℕ). So (q a)) j c.1))
          | no j ↦ or_right _ (and_in (and_in d.0 (not_in (So_not (λ t.
              clash (e.digits i ∙ and_in t (not_in (ne_eqb i (lowest_bit left) (λ z. j (z ∙ sym m.is))))) (not_out d.1))))) c.1)
        ])
      where
        gone : (j : ℕ) → j ≡ k → digit r j ≡ false
        gone j z = So_not (λ t. clash (eq-eqb j (lowest_bit left) (z ∙ m.is)) (not_out (and_out (sym (e.digits j) ∙ t)).1))

    pub picked_end : (left : ℕ) → left ≡ 0 → (k : ℕ) → picked q left k ≡ digit which k & q k
    picked_end left e k =
        rw e (ap (λ b. (digit which k & not b) & q k) (digit_zero k) ∙ ap (λ b. b & q k) (and_true (digit which k)))

    -- ---- some bit that isn't left passes

    abbrev pub done : ℕ → Bool
    done left = any_below word_bits (picked q left)

    done_start : done which ≡ false
    done_start = So_not (λ t. let r = any_out t in clash r.2 (picked_start r.0))

    done_next : (left k r : ℕ) → Left left → Lowest left k → Rest left r → done r ≡ (done left or q k)
    done_next left k r l m e =
        So_ext
        (λ s. let t = any_out s in elim (or_out (picked_next left k r l m e t.0 ∙ t.2)) [
          | inl x ↦ or_right _ (and_out x).1
          | inr x ↦ or_left _ (any_in word_bits _ t.0 t.1 x)
        ])
        (λ s. elim (or_out s) [
          | inl x ↦ (let t = any_out x in any_in word_bits _ t.0 t.1 (sym (picked_next left k r l m e t.0) ∙ or_right _ t.2))
          | inr x ↦ any_in word_bits _ k m.inside (sym (picked_next left k r l m e k) ∙ or_left _ (and_in (eq-eqb k k refl) x))
        ])

    done_end : (left : ℕ) → left ≡ 0 → done left ≡ any_below word_bits (λ k. digit which k & q k)
    done_end left e = any_ext word_bits _ _ (λ k h. picked_end left e k)

    -- a test, or some such bit
    pub or_start : (b : Bool) → b ≡ (b or done which)
    or_start b = rw done_start (sym (or_false b))

    pub or_next : (left k r : ℕ) → Left left → Lowest left k → Rest left r → (b : Bool) → ((b or done left) or q k) ≡ (b or done r)
    unfolding ◌or◌
    or_next left k r l m e true = refl
    or_next left k r l m e false = sym (done_next left k r l m e)

    pub or_end : (left : ℕ) → left ≡ 0 → (b : Bool) → (b or done left) ≡ (b or any_below word_bits (λ k. digit which k & q k))
    or_end left e b = ap (λ a. b or a) (done_end left e)

    -- a test, and no such bit
    pub not_start : (b : Bool) → b ≡ b & not (done which)
    not_start b = rw done_start (sym (and_true b))

    pub not_next : (left k r : ℕ) → Left left → Lowest left k → Rest left r → (b : Bool) → (b & not (done left)) & not (q k) ≡ b & not (done r)
    unfolding ◌&◌ ◌or◌
    not_next left k r l m e b = rw (done_next left k r l m e) (and_neither b (done left) (q k))

    pub not_end : (left : ℕ) → left ≡ 0 → (b : Bool) → b & not (done left) ≡ b & not (any_below word_bits (λ k. digit which k & q k))
    not_end left e b = ap (λ a. b & not a) (done_end left e)

    -- where nothing is left over once bit k is done, nothing is in the end
    pub not_early : (left k : ℕ) → Left left → Lowest left k → (b : Bool) → (b & not (done left)) & not (q k) ≡ false
        → b & not (any_below word_bits (λ k. digit which k & q k)) ≡ false
    not_early left k l m b f = So_not (λ t.
        let c = and_out t in
        let some : (i : ℕ) → i < word_bits → So (digit which i) → q i ≡ false =
        λ i h d. So_not (λ u. clash (any_in word_bits _ i h (and_in d u)) (not_out c.1)) in
        let g : done left ≡ false = So_not (λ u.
        let r = any_out u in
        let x = and_out r.2 in
        clash x.1 (some r.0 r.1 (and_out x.0).0)) in
        clash (and_in (and_in c.0 (not_in g)) (not_in (some k m.inside (l k m.set)))) f)

-- ---- a loop that takes the bits in sequence: what is left is all of the word from the lowest bit left on

abbrev pub Onward : ℕ → ℕ → Type 0
Onward which left = (k : ℕ) → lowest_bit left ≤ k → digit which k ≡ digit left k

pub onward_start : (which : ℕ) → Onward which which
onward_start which k h = refl

module _ (left k r : ℕ) (m : Lowest left k) (e : Rest left r) where
  -- above the bit that goes, nothing changes
  rest_same : (i : ℕ) → k < i → digit left i ≡ digit r i
  rest_same i l =
      sym (and_true (digit left i)) ∙ ap (λ b. digit left i & not b) (sym (ne_eqb i (lowest_bit left) (λ z. omega (arith, z, m.is)))) ∙ sym (e.digits i)

  rest_below : (i : ℕ) → i ≤ k → digit r i ≡ false
  unfolding lowest_bit
  rest_below i l = So_not (λ t.
      let c = and_out (sym (e.digits i) ∙ t) in elim (ℕ_discrete i (lowest_bit left)) [
        | yes j ↦ clash (eq-eqb i (lowest_bit left) j) (not_out c.1)
        | no j ↦ clash c.0 (first_before (digit left) 0 word_bits i (omega arith) (omega (arith, l, j, m.is)))
      ])

  pub rest_above : k < lowest_bit r
  unfolding lowest_bit
  rest_above = elim (dec_lt k (lowest_bit r)) [
    | yes h ↦ h
    | no h ↦ clash (first_passes (digit r) 0 word_bits (omega arith) (omega (arith, h, m.inside))) (rest_below (lowest_bit r) (omega (arith, h)))
  ]

  module _ (which : ℕ) (o : Onward which left) where
    pub onward_here : So (digit which k)
    onward_here = o k (omega (arith, m.is)) ∙ m.set

    pub onward_next : Onward which r
    onward_next i h = o i (omega (arith, h, rest_above, m.is)) ∙ rest_same i (omega (arith, h, rest_above))

    -- no bit lies between the one that goes and the next
    pub onward_between : (i : ℕ) → k < i → i < lowest_bit r → digit which i ≡ false
    unfolding lowest_bit
    onward_between i l h = o i (omega (arith, l, m.is)) ∙ rest_same i l ∙ first_before (digit r) 0 word_bits i (omega arith) h

-- no bit is left
pub lowest_none : lowest_bit 0 ≡ word_bits
unfolding lowest_bit
lowest_none = omega (arith, first_le (digit 0) 0 word_bits (omega arith), first_none (digit 0) 0 word_bits (omega arith) (λ k l h. digit_zero k))
