-- Laws of the search for members of v's class among the set bits of v's row.
use Rattle.std.specs.Prelude.{◌≡◌, Bool, false, List, ℕ, ◌+◌, ◌-◌, ◌*◌, ◌≤◌, ◌<◌}
use Rattle.std.proofs.Math.Path.{sym, ap}
use Rattle.std.proofs.Common.{◌∙◌}
use Rattle.std.proofs.Math.Bool.{So}
use Rattle.std.proofs.Math.Decide.{dec_lt, ℕ_discrete}
use native.Mathlib.Omega.{arith}
use Rattle.theory.proofs.Logic.BoolsLaws.{clash, So_not, and_in, and_out}
use Rattle.theory.specs.Logic.Range.{first}
use Rattle.theory.proofs.Logic.RangeLaws.{first_is, first_ge, first_le, first_none, first_passes, first_before, first_skip}
use Rattle.theory.specs.Classes.Reduction.{same_class}
use Rattle.words.specs.Word.{digit, lowest_bit, Lowest, Rest}
use Rattle.words.specs.LeftLaws.{Onward, onward_between, lowest_none}
use Rattle.marks.specs.Marks.{is_mark, relation}
use Rattle.marks.specs.MarksLaws.{relation_mark}
use Rattle.marks.specs.MarkReading.{BitsRead, read_bits}

module _ (n : ℕ) (b : List ℕ) (v from end : ℕ) where
  abbrev member : ℕ → Bool
  member u = same_class (relation n b) u v

  -- no member from `from` on lies before u
  abbrev pub NoneBefore : ℕ → Type 0
  NoneBefore u = (i : ℕ) → from ≤ i → i < u → i < end → member i ≡ false

  -- v's row holds no u, or no row of u holds v
  not_above : (u : ℕ) → relation n b v u ≡ false → member u ≡ false
  unfolding same_class
  not_above u e = So_not (λ t. clash (and_out t).1 e)

  not_below : (u : ℕ) → relation n b u v ≡ false → member u ≡ false
  unfolding same_class
  not_below u e = So_not (λ t. clash (and_out t).0 e)

  -- the word has the bits of v's row from `from` on, below `end`
  module _ (word : ℕ) (l : from ≤ end) (read : BitsRead b (v * n + from) (end - from) word) where
    bit_is : (u : ℕ) → from ≤ u → u < end → digit word (u - from) ≡ relation n b v u
    bit_is u h m =
        let e : v * n + from + (u - from) ≡ v * n + u = omega (arith, h) in
        read.0 (u - from) (omega (arith, h, m)) ∙ ap (is_mark b) e ∙ sym (relation_mark n b v u)

    unset : (u : ℕ) → from ≤ u → u < end → digit word (u - from) ≡ false → member u ≡ false
    unset u h m e = not_above u (sym (bit_is u h m) ∙ e)

    pub none_start : NoneBefore (from + lowest_bit word)
    unfolding lowest_bit
    none_start i h m k = unset i h k (first_before (digit word) 0 64 (i - from) (omega arith) (omega (arith, h, m)))

    module _ (left k : ℕ) (on : Onward word left) (low : Lowest left k) where
      set_here : So (digit word k)
      set_here = on k (omega (arith, low.is)) ∙ low.set

      pub bit_inside : from + k < end
      bit_inside = elim (dec_lt (from + k) end) [ yes h ↦ h | no h ↦ clash set_here (read.1 k (omega (arith, h))) ]

      -- the lowest bit left is a member's, the first
      pub first_here : NoneBefore (from + lowest_bit left) → So (relation n b (from + k) v) → from + k ≡ first member from end
      unfolding same_class
      first_here none t =
          let s : from + k - from ≡ k = omega arith in
          let row : So (relation n b v (from + k)) = sym (bit_is (from + k) (omega arith) bit_inside) ∙ ap (digit word) s ∙ set_here in
          sym (first_is member from end (from + k) (omega arith) bit_inside (and_in t row)
          (λ j x y. none j x (omega (arith, low.is, y)) (omega (arith, y, bit_inside))))

      -- it is none's, and goes
      pub none_next : (r : ℕ) → Rest left r → NoneBefore (from + lowest_bit left) → relation n b (from + k) v ≡ false → NoneBefore (from + lowest_bit r)
      none_next r e none f i x y z = elim (dec_lt i (from + k)) [
        | yes h ↦ none i x (omega (arith, low.is, h)) z
        | no h ↦ elim (ℕ_discrete i (from + k)) [
          | yes q ↦ rw q (not_below (from + k) f)
          | no q ↦ unset i x z (onward_between left k r low e word on (i - from) (omega (arith, x, h, q)) (omega (arith, x, y)))
        ]
      ]

    -- no bit is left
    pub first_past : (left : ℕ) → left ≡ 0 → end ≤ from + read_bits → NoneBefore (from + lowest_bit left) → end ≡ first member from end
    first_past left e h none =
        let low : lowest_bit left ≡ 64 = rw e lowest_none in
        omega (arith, first_le member from end l, first_none member from end l (λ i x y. none i x (omega (arith, low, h, y)) y))

-- ---- a search in parts: the part from a on, below b

module _ (p : ℕ → Bool) (a b e r : ℕ) (l : a ≤ b) (m : b ≤ e) (f : r ≡ first p a b) where
  pub first_part : r < b → first p a e ≡ r
  first_part h =
      let i : first p a b < b = omega (arith, f, h) in
      rw f (first_is p a e (first p a b) (first_ge p a b) (omega (arith, i, m)) (first_passes p a b l i) (first_before p a b))

  pub first_rest : b ≤ r → first p a e ≡ first p b e
  first_rest h = first_skip p a b e l m (λ i x y. first_before p a b i x (omega (arith, f, h, y)))
