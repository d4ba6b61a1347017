-- Laws of a run: an entry's edit, and the run at each entry.
use Rattle.std.specs.Prelude.{◌≡◌, Bool, ℕ, ◌+◌, ◌≤◌, max, length}
use Rattle.std.proofs.Math.Path.{refl}
use Rattle.std.proofs.Common.{sym, ap, arith}
use Rattle.std.proofs.Math.Bool.{true, false, cond}
use mathlib.Core.List.{List, [], ◌∷◌}
use Rattle.table.specs.Table.{game_of}
use Rattle.table.specs.Answers.{Row, Answer, accepted, refused, judge, Clean}
use Rattle.table.specs.AnswersLaws.{judge_accepted, not_both}
use Rattle.edit_rules.specs.declared.Edit.TheVariants.{Arrival, Leaving}
use Rattle.edit_trace.specs.Run.{passing, toggle, toggled, entry_rows, Run, run_from, run_over}

-- ---- rows that are passed, or one of which refuses

module _ {A : Type 0} (a b : A) where
  pub passing_clean : (rs : List Row) → Clean rs → passing rs a b ≡ a
  unfolding passing
  passing_clean [] c = refl
  passing_clean (r ∷ rs) c = rw c.0 (passing_clean rs c.1)

  pub passing_refused : (rs : List Row) (counts : List ℕ) {k p : ℕ} → judge rs counts ≡ refused k p → passing rs a b ≡ b
  unfolding judge passing
  passing_refused [] counts e = absurd (not_both (sym e))
  passing_refused (r ∷ rs) counts {k} {p} e = go r.condition e (passing_refused rs counts)
    where
      go : (c : Bool) → cond c (refused r.number r.place) (judge rs counts) ≡ refused k p
          → (judge rs counts ≡ refused k p → passing rs a b ≡ b) → cond c b (passing rs a b) ≡ b
      go true e ih = refl
      go false e ih = ih e

-- ---- an entry's edit

pub toggle_is : (g : List ℕ) (e : ℕ × ℕ) {b : Bool} → b ≡ (game_of g).edge e.0 e.1 → cond b Leaving Arrival ≡ toggle g e
unfolding toggle
toggle_is g e h = ap (λ (b : Bool). cond b Leaving Arrival) h

-- ---- a run, entry by entry

module _ (size : ℕ) (e : ℕ × ℕ) (es : List (ℕ × ℕ)) (g : List ℕ) (longest done : ℕ) where
  pub run_next : Clean (entry_rows g size e)
      → run_from size (e ∷ es) g longest done ≡ run_from size es (toggled g e) (max longest (length (toggled g e))) (done + 1)
  unfolding run_from
  run_next c = passing_clean _ _ (entry_rows g size e) c

  pub run_stops : {k p : ℕ} → judge (entry_rows g size e) [] ≡ refused k p
      → run_from size (e ∷ es) g longest done ≡ record { table = g; longest = longest; done = done; stop = entry_rows g size e }
  unfolding run_from
  run_stops h = passing_refused _ _ (entry_rows g size e) [] h

pub run_ends : (size : ℕ) (g : List ℕ) (longest done : ℕ)
    → run_from size [] g longest done ≡ record { table = g; longest = longest; done = done; stop = [] }
unfolding run_from
run_ends size g longest done = refl

-- the run as it goes: it ends, an entry is done, or an entry stops it
pub data RunView (size : ℕ) : List (ℕ × ℕ) → List ℕ → ℕ → ℕ → Run → Type 0 where
  ends : {g : List ℕ} {longest done : ℕ} → RunView size [] g longest done (record { table = g; longest = longest; done = done; stop = [] })
  goes : {e : ℕ × ℕ} {es : List (ℕ × ℕ)} {g : List ℕ} {longest done : ℕ} {r : Run} → Clean (entry_rows g size e)
      → RunView size es (toggled g e) (max longest (length (toggled g e))) (done + 1) r → RunView size (e ∷ es) g longest done r
  stops : {e : ℕ × ℕ} {es : List (ℕ × ℕ)} {g : List ℕ} {longest done k p : ℕ} → judge (entry_rows g size e) [] ≡ refused k p
      → RunView size (e ∷ es) g longest done (record { table = g; longest = longest; done = done; stop = entry_rows g size e })

pub run_view : (size : ℕ) (es : List (ℕ × ℕ)) (g : List ℕ) (longest done : ℕ) → RunView size es g longest done (run_from size es g longest done)
run_view size [] g longest done = rw (run_ends size g longest done) ends
run_view size (e ∷ es) g longest done = go (judge (entry_rows g size e) []) refl (run_view size es (toggled g e) (max longest (length (toggled g e))) (done + 1))
  where
    go : (a : Answer) → judge (entry_rows g size e) [] ≡ a
        → RunView size es (toggled g e) (max longest (length (toggled g e))) (done + 1) (run_from size es (toggled g e) (max longest (length (toggled g e))) (done + 1))
        → RunView size (e ∷ es) g longest done (run_from size (e ∷ es) g longest done)
    go (accepted counts) h view =
        let c = (judge_accepted (entry_rows g size e) [] counts h).0 in
        rw (run_next size e es g longest done c) (goes c view)
    go (refused k p) h view = rw (run_stops size e es g longest done h) (stops h)

-- no more entries are done than there are
view_few : {size : ℕ} {es : List (ℕ × ℕ)} {g : List ℕ} {longest done : ℕ} {r : Run} → RunView size es g longest done r → r.done ≤ done + length es
view_few ends = omega arith
view_few (goes passed view) = omega (arith, view_few view)
view_few (stops at) = omega arith

pub run_few : (size : ℕ) (es : List (ℕ × ℕ)) (g : List ℕ) → (run_over size es g).done ≤ length es
run_few size es g = omega (arith, view_few (run_view size es g (length g) 0))
