-- Laws of verdicts, for the rows of any call.
use Rattle.std.specs.Prelude.{◌≡◌, refl, Bool, true, false, cond, List, [], ◌∷◌, ◌++◌, ℕ, suc, ◌+◌, ◌-◌, ◌≤◌, ◌<◌, length, drop, get_or, set}
use Rattle.std.proofs.Common.{sym, ap, ◌∙◌, append_assoc, add-one, arith, length-append, length-drop, get_or-append-add, get_or-drop, drop-cons, drop_at}
use Rattle.std.proofs.Math.Bool.{So}
use Rattle.std.proofs.Math.ListN.{get_or-append}
use Rattle.std.proofs.Math.Seq.{set-append_seam}
use Rattle.theory.specs.Logic.Range.{tabulate}
use Rattle.theory.proofs.Logic.ListLaws.{length_tabulate, tabulate_snoc}
use Rattle.table.specs.Answers.{Row, Answer, accepted, refused, judge, Clean, written, after}

-- ---- answers

pub accepted_inj : {xs ys : List ℕ} → accepted xs ≡ accepted ys → xs ≡ ys
accepted_inj e = cc

pub refused_inj : {k k' p p' : ℕ} → refused k p ≡ refused k' p' → (k ≡ k') × (p ≡ p')
refused_inj e = (cc, cc)

-- no answer is both
pub not_both : {xs : List ℕ} {k p : ℕ} → refused k p ≡ accepted xs → ⊥
not_both e = let z : ◌≡◌ {A = ℕ} 0 1 = cc in omega arith

-- ---- one row: its condition holds, or the next row decides

pub judge_hit : (r : Row) (rs : List Row) (counts : List ℕ) → So r.condition → judge (r ∷ rs) counts ≡ refused r.number r.place
unfolding judge
judge_hit r rs counts h = rw h

pub judge_next : (r : Row) (rs : List Row) (counts : List ℕ) → r.condition ≡ false → judge (r ∷ rs) counts ≡ judge rs counts
unfolding judge
judge_next r rs counts h = rw h

-- ---- accepted exactly if no condition holds, and then with these counts

pub judge_clean : (rs : List Row) (counts : List ℕ) → Clean rs → judge rs counts ≡ accepted counts
unfolding judge
judge_clean [] counts c = refl
judge_clean (r ∷ rs) counts c = judge_next r rs counts c.0 ∙ judge_clean rs counts c.1

pub judge_accepted : (rs : List Row) (counts given : List ℕ) → judge rs counts ≡ accepted given → Clean rs × (counts ≡ given)
unfolding judge
judge_accepted [] counts given e = (tt, accepted_inj e)
judge_accepted (r ∷ rs) counts given e = go r.condition refl e (judge_accepted rs counts given)
  where
    go : (b : Bool) → r.condition ≡ b → cond b (refused r.number r.place) (judge rs counts) ≡ accepted given
        → (judge rs counts ≡ accepted given → Clean rs × (counts ≡ given)) → Clean (r ∷ rs) × (counts ≡ given)
    go true f e ih = absurd (not_both e)
    go false f e ih = let a = ih e in ((f, a.0), a.1)

-- ---- the rows of a call are the reader's and then its own

pub judge_past : (rs ss : List Row) (counts : List ℕ) → Clean rs → judge (rs ++ ss) counts ≡ judge ss counts
judge_past [] ss counts c = refl
judge_past (r ∷ rs) ss counts c = judge_next r (rs ++ ss) counts c.0 ∙ judge_past rs ss counts c.1

-- a refusal stands, whatever rows and counts follow
pub judge_stays : (rs ss : List Row) (counts given : List ℕ) (k p : ℕ) → judge rs counts ≡ refused k p → judge (rs ++ ss) given ≡ refused k p
unfolding judge
judge_stays [] ss counts given k p e = absurd (not_both (sym e))
judge_stays (r ∷ rs) ss counts given k p e = go r.condition e (judge_stays rs ss counts given k p)
  where
    go : (b : Bool) → cond b (refused r.number r.place) (judge rs counts) ≡ refused k p
        → (judge rs counts ≡ refused k p → judge (rs ++ ss) given ≡ refused k p)
        → cond b (refused r.number r.place) (judge (rs ++ ss) given) ≡ refused k p
    go true e ih = e
    go false e ih = ih e

-- rows are clean exactly if both parts are
pub clean_append : (rs ss : List Row) → Clean rs → Clean ss → Clean (rs ++ ss)
clean_append [] ss c d = d
clean_append (r ∷ rs) ss c d = (c.0, clean_append rs ss c.1 d)

pub clean_split : (rs ss : List Row) → Clean (rs ++ ss) → Clean rs × Clean ss
clean_split [] ss c = (tt, c)
clean_split (r ∷ rs) ss c = let x = clean_split rs ss c.1 in ((c.0, x.0), x.1)

-- ---- lent memory: as long as before, the stated words first, old content beyond

pub length_written : (new old : List ℕ) → length new ≤ length old → length (written new old) ≡ length old
unfolding written
length_written new old h = simp (length-append, length-drop) (omega arith)

pub get_d_written : (new old : List ℕ) (i d : ℕ) → i < length new → get_or (written new old) i d ≡ get_or new i d
unfolding written
get_d_written new old i d h = get_or-append new (drop (length new) old) d i h

pub get_d_written_beyond : (new old : List ℕ) (i d : ℕ) → length new ≤ i → get_or (written new old) i d ≡ get_or old i d
unfolding written
get_d_written_beyond new old i d h =
    let e : i ≡ length new + (i - length new) = omega arith in
    rw e (get_or-append-add new (drop (length new) old) (i - length new) d ∙ get_or-drop (length new) old (i - length new) d)

-- one word more
pub written_snoc : (new old : List ℕ) (x : ℕ) → length new < length old → set (written new old) (length new) x ≡ written (new ++ (x ∷ [])) old
unfolding written
written_snoc new old x h =
    let e : length (new ++ (x ∷ [])) ≡ suc (length new) = length-append new (x ∷ []) ∙ add-one (length new) in
    rw (e, drop-cons old (length new) 0 h, set-append_seam new (get_or old (length new) 0) (drop (suc (length new)) old) x, append_assoc)

-- the words f 0, f 1, .. one by one
pub written_start : (f : ℕ → ℕ) (old : List ℕ) → old ≡ written (tabulate 0 f) old
unfolding written tabulate
written_start f old = refl

pub written_more : (f : ℕ → ℕ) (i : ℕ) (old : List ℕ) → i < length old → set (written (tabulate i f) old) i (f i) ≡ written (tabulate (i + 1) f) old
written_more f i old h =
    let l = length_tabulate i f in
    let s = written_snoc (tabulate i f) old (f i) (omega arith) in
    rw (add-one i, tabulate_snoc i f) (rw l at s)

-- written again: only what lies beyond counts
pub written_over : (N : ℕ) (new old old' : List ℕ) → length new ≡ N → drop N old ≡ drop N old' → written new old ≡ written new old'
unfolding written
written_over N new old old' e d = rw (e, d)

pub drop_written : (N : ℕ) (new old : List ℕ) → length new ≡ N → drop N (written new old) ≡ drop N old
unfolding written
drop_written N new old e = drop_at new (drop (length new) old) N e ∙ ap (λ (k : ℕ). drop k old) e

-- ---- a buffer after a call: the rows are passed, or one of them refuses

pub after_clean : (rs : List Row) (new old : List ℕ) → Clean rs → after rs new old ≡ written new old
unfolding after
after_clean [] new old c = refl
after_clean (r ∷ rs) new old c = rw c.0 (after_clean rs new old c.1)

pub after_past : (rs ss : List Row) (new old : List ℕ) → Clean rs → after (rs ++ ss) new old ≡ after ss new old
unfolding after
after_past [] ss new old c = refl
after_past (r ∷ rs) ss new old c = rw c.0 (after_past rs ss new old c.1)

pub after_accepted : (rs : List Row) (counts : List ℕ) {given : List ℕ} (new old : List ℕ) → judge rs counts ≡ accepted given → after rs new old ≡ written new old
after_accepted rs counts new old e = after_clean rs new old (judge_accepted rs counts _ e).0

pub after_refused : (rs : List Row) (counts : List ℕ) {k p : ℕ} (new old : List ℕ) → judge rs counts ≡ refused k p → after rs new old ≡ old
unfolding judge after
after_refused [] counts new old e = absurd (not_both (sym e))
after_refused (r ∷ rs) counts {k} {p} new old e = go r.condition e (after_refused rs counts new old)
  where
    go : (b : Bool) → cond b (refused r.number r.place) (judge rs counts) ≡ refused k p
        → (judge rs counts ≡ refused k p → after rs new old ≡ old) → cond b old (after rs new old) ≡ old
    go true e ih = refl
    go false e ih = ih e

-- ---- two calls that answer the same

-- rows in two parts: the first parts answer the same, and where they are passed the second do
pub judge_parts : (rs rs' ss ss' : List Row) (given given' counts counts' : List ℕ) → judge rs given ≡ judge rs' given'
    → (Clean rs → judge ss counts ≡ judge ss' counts') → judge (rs ++ ss) counts ≡ judge (rs' ++ ss') counts'
judge_parts rs rs' ss ss' given given' counts counts' e rest = go (judge rs given) refl
  where
    go : (a : Answer) → judge rs given ≡ a → judge (rs ++ ss) counts ≡ judge (rs' ++ ss') counts'
    go (accepted xs) q =
        let c = (judge_accepted rs given xs q).0 in
        judge_past rs ss counts c ∙ rest c ∙ sym (judge_past rs' ss' counts' (judge_accepted rs' given' xs (sym e ∙ q)).0)
    go (refused k p) q = judge_stays rs ss given counts k p q ∙ sym (judge_stays rs' ss' given' counts' k p (sym e ∙ q))

-- so a buffer is the same, if the stated words are
pub after_judged : (rs rs' : List Row) (counts counts' : List ℕ) {new new' : List ℕ} (old : List ℕ) → judge rs counts ≡ judge rs' counts'
    → (Clean rs → new ≡ new') → after rs new old ≡ after rs' new' old
after_judged rs rs' counts counts' {new} {new'} old e words = go (judge rs counts) refl
  where
    go : (a : Answer) → judge rs counts ≡ a → after rs new old ≡ after rs' new' old
    go (accepted xs) q =
        after_accepted rs counts new old q ∙ ap (λ (ys : List ℕ). written ys old) (words (judge_accepted rs counts xs q).0)
        ∙ sym (after_accepted rs' counts' new' old (sym e ∙ q))
    go (refused k p) q = after_refused rs counts new old q ∙ sym (after_refused rs' counts' new' old (sym e ∙ q))

pub length_after : (rs : List Row) (new old : List ℕ) → length new ≤ length old → length (after rs new old) ≡ length old
unfolding after
length_after [] new old h = length_written new old h
length_after (r ∷ rs) new old h = go r.condition (length_after rs new old h)
  where
    go : (b : Bool) → length (after rs new old) ≡ length old → length (cond b old (after rs new old)) ≡ length old
    go true ih = refl
    go false ih = ih
