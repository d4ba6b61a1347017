-- Laws of rows that are met: two rows word by word, and the rows of a class member by member.
use Rattle.std.specs.Prelude.{◌≡◌, Bool, true, false, List, ℕ, ◌+◌, ◌*◌, ◌/◌, ◌%◌, ◌≤◌, ◌<◌, eqb, ltb, length, get_or, set}
use Rattle.std.proofs.Math.Path.{refl}
use Rattle.std.proofs.Common.{sym, ap, ap₂, ◌∙◌, arith, get_or-set_same, get_or-set_other}
use Rattle.std.proofs.Math.Bool.{So}
use Rattle.std.proofs.Math.Decide.{ℕ_discrete}
use Rattle.std.specs.Int.Bits.{bit_and}
use borrow.Author.Tests.{eqb-true, eq-eqb, ltb-true, lt-ltb, le-ltb}
use Rattle.theory.specs.Logic.Bools.{◌&◌, imp}
use Rattle.theory.proofs.Logic.BoolsLaws.{So_ext, and_in, and_out, and_true, and_fails, imp_in, imp_out}
use Rattle.theory.specs.Logic.Range.{all_below}
use Rattle.theory.proofs.Logic.RangeLaws.{all_in, all_out, all_more}
use Rattle.theory.proofs.Logic.CountLaws.{digits_one}
use Rattle.theory.specs.Games.Game.{Game}
use Rattle.theory.specs.Order.Order.{order}
use Rattle.theory.specs.Classes.Reduction.{is_lowest}
use Rattle.theory.proofs.Classes.ClassLaws.{is_lowest_lowest}
use Rattle.theory.proofs.Classes.QuotientLaws.{order_preorder}
use Rattle.words.specs.Word.{digit}
use Rattle.words.specs.WordLaws.{digit_and}
use Rattle.words.specs.Words.{has}
use Rattle.reduction_rows.specs.Reached.{in_row, lowest_of, Met, MembersMet}

-- ---- two rows, word by word

-- a bit by its word in the row
pub row_bit : (width : ℕ) (words : List ℕ) (v x : ℕ) → in_row width words v x ≡ digit (get_or words (v * width + x / 64) 0) (x % 64)
unfolding in_row has
row_bit width words v x =
    let q : (v * width * 64 + x) / 64 ≡ v * width + x / 64 = omega arith in
    let r : (v * width * 64 + x) % 64 ≡ x % 64 = omega arith in
    rw (q, r)

-- the first k words of row r are met
pub record PartMet (width r v k : ℕ) (old new : List ℕ) : Type 0 where
  pub at : (u x : ℕ) → x < width * 64 → in_row width new u x ≡ in_row width old u x & imp (eqb u r & ltb x (k * 64)) (in_row width old v x)

-- no word yet
not_below : (x k : ℕ) (b c : Bool) → k * 64 ≤ x → imp (b & ltb x (k * 64)) c ≡ true
unfolding imp
not_below x k b c h = rw (le-ltb x (k * 64) h, and_fails b false refl)

pub part_start : (width r v : ℕ) (old : List ℕ) → PartMet width r v 0 old old
part_start width r v old = record { at = λ u x h. sym (rw (not_below x 0 (eqb u r) (in_row width old v x) (omega arith)) (and_true _)) }

module _ (width r v k : ℕ) (old new : List ℕ) (inside : k < width) (room : r * width + k < length new) (part : PartMet width r v k old new) where
  abbrev after : List ℕ
  after = set new (r * width + k) (bit_and (get_or new (r * width + k) 0) (get_or new (v * width + k) 0))

  -- word k of each row is as it was
  word_old : (u x : ℕ) → x < width * 64 → x / 64 ≡ k → digit (get_or new (u * width + k) 0) (x % 64) ≡ in_row width old u x
  word_old u x h e =
      ap (λ (j : ℕ). digit (get_or new (u * width + j) 0) (x % 64)) (sym e) ∙ sym (row_bit width new u x)
      ∙ part.at u x h ∙ rw (not_below x k (eqb u r) (in_row width old v x) (omega arith)) (and_true _)

  -- it is met in row r
  bit_here : (x : ℕ) → x < width * 64 → x / 64 ≡ k → in_row width after r x ≡ in_row width old r x & in_row width old v x
  bit_here x h e =
      row_bit width after r x
      ∙ rw (e, get_or-set_same new (r * width + k) (bit_and (get_or new (r * width + k) 0) (get_or new (v * width + k) 0)) 0 room)
      (digit_and _ _ (x % 64) ∙ ap₂ ◌&◌ (word_old r x h e) (word_old v x h e))

  bit_other : (u x : ℕ) → (u * width + x / 64 ≡ r * width + k → ⊥) → in_row width after u x ≡ in_row width new u x
  bit_other u x d =
      row_bit width after u x
      ∙ rw (get_or-set_other new (r * width + k) (u * width + x / 64) (bit_and (get_or new (r * width + k) 0) (get_or new (v * width + k) 0)) 0 d)
      (sym (row_bit width new u x))

  same_part : (u x : ℕ) → (u * width + x / 64 ≡ r * width + k → ⊥) → eqb u r & ltb x (k * 64) ≡ eqb u r & ltb x ((k + 1) * 64)
  same_part u x d =
      So_ext
      (λ t. let c = and_out t in and_in c.0 (lt-ltb x _ (omega (arith, ltb-true x (k * 64) c.1))))
      (λ t. let c = and_out t in
      let e = eqb-true u r c.0 in
      and_in c.0 (lt-ltb x _ (below (λ q. d (rw (e, q))) (ltb-true x ((k + 1) * 64) c.1))))
    where
      below : (x / 64 ≡ k → ⊥) → x < (k + 1) * 64 → x < k * 64
      below f l = omega (arith, f)

  bit_met : (u x : ℕ) → x < width * 64 → u ≡ r → x / 64 ≡ k
      → in_row width after u x ≡ in_row width old u x & imp (eqb u r & ltb x ((k + 1) * 64)) (in_row width old v x)
  unfolding imp ◌&◌
  bit_met u x h e f = rw (e, eq-eqb r r refl, lt-ltb x ((k + 1) * 64) (omega arith)) (bit_here x h f)

  pub part_next : PartMet width r v (k + 1) old after
  part_next = record {
    at = λ u x h. elim (ℕ_discrete (u * width + x / 64) (r * width + k)) [
      | yes e ↦ (let q = digits_one {n = width} (omega arith) inside e in bit_met u x h q.0 q.1)
      | no d ↦ bit_other u x d ∙ part.at u x h ∙ rw (same_part u x d)
    ];
  }

pub part_end : (width r v k : ℕ) (old new : List ℕ) → width ≤ k → PartMet width r v k old new → Met width r v old new
part_end width r v k old new l part = record {
  at = λ u x h. part.at u x h ∙ rw (lt-ltb x (k * 64) (omega arith), and_true (eqb u r));
}

-- ---- the rows of a class, member by member

pub members_start : (G : Game) (width : ℕ) (old : List ℕ) → MembersMet G width 0 old old
unfolding all_below
members_start G width old = record { at = λ u x h. sym (and_true _) }

module _ (G : Game) (width v : ℕ) (old mid new : List ℕ) (inside : v < G.n) (met : MembersMet G width v old mid) (step : Met width (lowest_of G v) v mid new) where
  -- the lowest member of a class is that of its own
  lowest_twice : (w : ℕ) → w < G.n → lowest_of G (lowest_of G w) ≡ lowest_of G w
  unfolding lowest_of is_lowest
  lowest_twice w h = eqb-true _ _ (is_lowest_lowest G.n (order G) (order_preorder G) w h)

  module _ (u x : ℕ) (h : x < width * 64) where
    abbrev member : ℕ → Bool
    member w = imp (eqb (lowest_of G w) u) (in_row width old w x)

    met_in : So (in_row width new u x) → So (in_row width old u x & all_below (v + 1) member)
    met_in t =
        let c = and_out (rw (step.at u x h) at t) in
        let m = and_out (rw (met.at u x h) at c.0) in
        and_in m.0 (rw (all_more v member) (and_in m.1 (imp_in (λ s.
        (and_out (rw (met.at v x h) at (imp_out c.1 (eq-eqb u _ (sym (eqb-true _ u s)))))).0))))

    met_out : So (in_row width old u x & all_below (v + 1) member) → So (in_row width new u x)
    met_out t =
        let c = and_out t in
        let m = and_out (rw (all_more v member) at c.1) in
        rw (step.at u x h) (and_in (rw (met.at u x h) (and_in c.0 m.0)) (imp_in (λ s.
        let e = eqb-true u (lowest_of G v) s in
        rw (met.at v x h) (and_in (imp_out m.1 (eq-eqb _ u (sym e))) (all_in v _ (λ w l. imp_in (λ r.
        let q = eqb-true (lowest_of G w) v r in
        let f : v ≡ u = sym q ∙ sym (lowest_twice w (omega arith)) ∙ ap (lowest_of G) q ∙ sym e in
        imp_out ((all_out m.0).at w l) (eq-eqb _ u (q ∙ f)))))))))

  pub members_next : MembersMet G width (v + 1) old new
  members_next = record { at = λ u x h. So_ext (met_in u x h) (met_out u x h) }
