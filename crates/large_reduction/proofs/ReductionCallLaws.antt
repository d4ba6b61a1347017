-- The reader's rows for the reduced game, and what the searches leave for the calls that follow them.
use Rattle.std.specs.Prelude.{◌≡◌, refl, Bool, true, false, cond, List, [], ◌∷◌, ◌++◌, ℕ, ◌+◌, ◌≤◌, ◌<◌, ltb, length, Ok, Err}
use Rattle.std.proofs.Common.{sym, arith, leb-false, lt-ltb, le-ltb}
use Rattle.std.proofs.Math.Bool.{So}
use Rattle.theory.specs.Logic.Range.{first}
use Rattle.theory.proofs.Logic.RangeLaws.{none_found}
use Rattle.table.specs.Flags.{at_least}
use Rattle.table.specs.Answers.{Row, refused, judge, Clean}
use Rattle.table.specs.AnswersLaws.{judge_accepted, judge_past, not_both, refused_inj}
use Rattle.table.specs.Filling.{filling_answer}
use Rattle.table.specs.declared.Refusal.{Refusal}
use Rattle.table.specs.declared.FilledSizes.{FilledSizes}
use Rattle.large_table.specs.Reading.{large_rows, large_answer}
use Rattle.large_images.specs.Images.{class_at, Classes}
use Rattle.large_reduction.specs.ReductionCall.{shifted}

-- ---- the reader's rows for the reduced game

pub shifted_clean : (rs : List Row) → Clean (shifted rs) → Clean rs
unfolding shifted
shifted_clean [] c = c
shifted_clean (x ∷ xs) c = (c.0, shifted_clean xs c.1)

pub clean_shifted : (rs : List Row) → Clean rs → Clean (shifted rs)
unfolding shifted
clean_shifted [] c = c
clean_shifted (x ∷ xs) c = (c.0, clean_shifted xs c.1)

-- a refusal stands, 90 higher
shifted_stays : (rs ss : List Row) (counts given : List ℕ) (k p : ℕ) → judge rs counts ≡ refused k p → judge (shifted rs ++ ss) given ≡ refused (k + 90) p
unfolding shifted judge
shifted_stays [] ss counts given k p e = absurd (not_both (sym e))
shifted_stays (x ∷ xs) ss counts given k p e = go x.condition e (shifted_stays xs ss counts given k p)
  where
    go : (b : Bool) → cond b (refused x.number x.place) (judge xs counts) ≡ refused k p
        → (judge xs counts ≡ refused k p → judge (shifted xs ++ ss) given ≡ refused (k + 90) p)
        → cond b (refused (x.number + 90) x.place) (judge (shifted xs ++ ss) given) ≡ refused (k + 90) p
    go true e ih = let x = refused_inj e in rw (x.0, x.1) refl
    go false e ih = ih e

-- no number of these rows is above 6
abbrev Low : List Row → Type 0
Low [] = Unit
Low (x ∷ xs) = (x.number ≤ 6) × Low xs

low_number : (rs : List Row) (counts : List ℕ) (k p : ℕ) → Low rs → judge rs counts ≡ refused k p → k ≤ 6
unfolding judge
low_number [] counts k p h e = absurd (not_both (sym e))
low_number (x ∷ xs) counts k p h e = go x.condition e (low_number xs counts k p h.1)
  where
    go : (b : Bool) → cond b (refused x.number x.place) (judge xs counts) ≡ refused k p → (judge xs counts ≡ refused k p → k ≤ 6) → k ≤ 6
    go true e ih = omega (arith, (refused_inj e).0, h.0)
    go false e ih = ih e

-- the reader's numbers, so that 90 can be added
pub refusal_number : (r : List ℕ) (f : Refusal) → filling_answer (Err f) ≡ large_answer r → f.number ≤ 6
unfolding large_answer large_rows
refusal_number r f e =
    low_number _ _ f.number f.place (omega arith, (omega arith, (omega arith, (omega arith, (omega arith, tt))))) (sym e)

-- past a reduced game that the reader accepts, the other rows decide
pub shifted_past : (r : List ℕ) (s : FilledSizes) → filling_answer (Ok s) ≡ large_answer r → (rs : List Row)
    → judge (shifted (large_rows r) ++ rs) [] ≡ judge rs []
unfolding large_answer
shifted_past r s e rs = judge_past (shifted (large_rows r)) rs [] (clean_shifted (large_rows r) (judge_accepted (large_rows r) _ _ (sym e)).0)

pub shifted_refused : (r : List ℕ) (f : Refusal) → filling_answer (Err f) ≡ large_answer r → (rs : List Row)
    → judge (shifted (large_rows r) ++ rs) [] ≡ refused (f.number + 90) f.place
unfolding large_answer
shifted_refused r f e rs = shifted_stays (large_rows r) rs _ [] f.number f.place (sym e)

-- ---- what a search, with result x, finds and misses below e

pub finds : {x y e : ℕ} → x ≡ y → x < e → So (ltb y e)
finds {y} {e} q l = lt-ltb y e (omega arith)

pub misses : {x y e : ℕ} → x ≡ y → e ≤ x → ltb y e ≡ false
misses {y} {e} q l = le-ltb y e (omega arith)

-- ---- the classes

pub classes_by : (l : List ℕ) (n k : ℕ) → length l ≡ n → ltb (first (at_least l k) 0 n) n ≡ false → Classes l n k
classes_by l n k e f = record { words = e; inside = λ v h. leb-false k (class_at l v) (none_found (at_least l k) n f v h) }
