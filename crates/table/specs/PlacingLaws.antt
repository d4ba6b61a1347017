-- Laws of words put into a buffer at a place.
use Rattle.std.specs.Prelude.{◌≡◌, List, [], ◌∷◌, ◌++◌, ℕ, ◌+◌, ◌≤◌, ◌<◌, length, take, drop, set}
use Rattle.std.proofs.Common.{refl, sym, ap, ◌∙◌, append_assoc, zero-add, add-zero, add-one, arith, length-append, take-append-drop, length-take-le, take_at, drop_at, drop-drop}
use Rattle.std.proofs.lemmas.Slice.{put_mid-paste}
use Rattle.std.proofs.lemmas.List.Edits.{paste_all}
use borrow.Rule.Slice.PartMut.{put_mid}
use Rattle.theory.specs.Logic.Range.{tabulate}
use Rattle.theory.proofs.Logic.ListLaws.{length_tabulate, tabulate_snoc}
use Rattle.table.specs.Answers.{written}
use Rattle.table.specs.AnswersLaws.{written_snoc}
use Rattle.table.specs.Placing.{placed}

-- from word 0 on
pub placed_written : (new old : List ℕ) → placed 0 new old ≡ written new old
unfolding placed written
placed_written new old = rw (zero-add (length new))

-- what is replaced, with what is before it
length_head : (at : ℕ) (new old : List ℕ) → at ≤ length old → length (take at old ++ new) ≡ at + length new
length_head at new old h = simp length-append (rw (length-take-le at old h))

head_first : (at : ℕ) (new old : List ℕ) → placed at new old ≡ (take at old ++ new) ++ drop (at + length new) old
unfolding placed
head_first at new old = sym (append_assoc (take at old) new (drop (at + length new) old))

-- both are written from the start
placed_head : (at : ℕ) (new old : List ℕ) → at ≤ length old → placed at new old ≡ written (take at old ++ new) old
unfolding written
placed_head at new old h = rw (length_head at new old h) (head_first at new old)

-- one word more
placed_snoc : (at : ℕ) (new old : List ℕ) (x : ℕ) → at + length new < length old
    → set (placed at new old) (at + length new) x ≡ placed at (new ++ (x ∷ [])) old
placed_snoc at new old x h =
    let l = length_head at new old (omega arith) in
    let s = written_snoc (take at old ++ new) old x (omega arith) in
    rw (placed_head at new old (omega arith), placed_head at (new ++ (x ∷ [])) old (omega arith)) (rw (l, append_assoc (take at old) new (x ∷ [])) at s)

-- more words behind those
pub placed_join : (at : ℕ) (new more old : List ℕ) → at + length new ≤ length old
    → placed (at + length new) more (placed at new old) ≡ placed at (new ++ more) old
placed_join at new more old h =
    let head = take at old ++ new in
    let rest = drop (at + length new) old in
    let n = at + length new in
    let l = length_head at new old (omega arith) in
    let e : at + length (new ++ more) ≡ n + length more = omega (arith, length-append new more) in
    let t : take n (head ++ rest) ≡ head = take_at head rest n l in
    let d : drop (n + length more) (head ++ rest) ≡ drop (n + length more) old =
    sym (drop-drop (length more) n (head ++ rest)) ∙ ap (drop (length more)) (drop_at head rest n l) ∙ drop-drop (length more) n old in
    rw (head_first at new old, head_first n more (head ++ rest), head_first at (new ++ more) old, e, t, d) (simp append_assoc)

-- the words f 0, f 1, .. one by one
pub placed_start : (at : ℕ) (f : ℕ → ℕ) (old : List ℕ) → old ≡ placed at (tabulate 0 f) old
unfolding placed tabulate
placed_start at f old = rw (add-zero at) (sym (take-append-drop at old))

pub placed_more : (at : ℕ) (f : ℕ → ℕ) (i : ℕ) (old : List ℕ) → at + i < length old
    → set (placed at (tabulate i f) old) (at + i) (f i) ≡ placed at (tabulate (i + 1) f) old
placed_more at f i old h =
    let l = length_tabulate i f in
    let s = placed_snoc at (tabulate i f) old (f i) (omega arith) in
    rw (add-one i, tabulate_snoc i f) (rw l at s)

-- one word alone
pub placed_one : (at x : ℕ) (old : List ℕ) → at < length old → set old at x ≡ placed at (x ∷ []) old
unfolding tabulate
placed_one at x old h =
    let m = placed_more at (λ i. x) 0 old (omega arith) in
    rw (← placed_start at (λ i. x) old, add-zero at) at m

pub written_join : (at : ℕ) (new more old : List ℕ) → at ≡ length new → length new ≤ length old → placed at more (written new old) ≡ written (new ++ more) old
written_join at new more old e h =
    let m = placed_join 0 new more old (omega arith) in
    rw e (rw (placed_written new old, placed_written (new ++ more) old, zero-add (length new)) at m)

-- two words
pub written_two : (x y : ℕ) (old : List ℕ) → 2 ≤ length old → set (set old 0 x) 1 y ≡ written (x ∷ y ∷ []) old
unfolding written
written_two x y old h = ap (λ (l : List ℕ). set l 1 y) (written_snoc [] old x (omega arith)) ∙ written_snoc (x ∷ []) old y h

-- a part of k words that is written at once
pub placed_part : (at k : ℕ) (part old : List ℕ) {new : List ℕ} → part ≡ new → length new ≡ k → put_mid at k old part ≡ placed at new old
unfolding placed
placed_part at k part old {new} e l = put_mid-paste at k old part new (length new) e l refl ∙ paste_all old at new (length new) refl
