-- Laws of refusals: they go by the rows alone, and have the number of a row, so that rows before others are passed, or refuse, as it tells.
use Rattle.std.specs.Prelude.{◌≡◌, ◌⊎◌, Bool, true, false, cond, List, [], ◌∷◌, ◌++◌, ℕ, ◌≤◌}
use Rattle.std.proofs.Common.{sym, ap, ◌∙◌, subst, inl, inr, append-nil, arith}
use Rattle.table.specs.Answers.{Row, refused, judge, Clean}
use Rattle.table.specs.AnswersLaws.{refused_inj, not_both, judge_stays}
use Rattle.table.specs.DecisionsLaws.{judge_split}
use Rattle.table.specs.Reading.{game_rows_by}
use Rattle.plan.specs.Acceptance.{plan_rows}

-- a refusal goes by the rows alone
pub recount : (rows : List Row) (counts given : List ℕ) {k p : ℕ} → judge rows counts ≡ refused k p → judge rows given ≡ refused k p
recount rows counts given {k} {p} e = ap (λ (rs : List Row). judge rs given) (sym (append-nil rows)) ∙ judge_stays rows [] counts given k p e

abbrev pub Numbers : (ℕ → Type 0) → List Row → Type 0
Numbers Q [] = Unit
Numbers Q (r ∷ rs) = Q r.number × Numbers Q rs

pub numbers_append : (Q : ℕ → Type 0) (rs ss : List Row) → Numbers Q rs → Numbers Q ss → Numbers Q (rs ++ ss)
numbers_append Q [] ss a b = b
numbers_append Q (r ∷ rs) ss a b = (a.0, numbers_append Q rs ss a.1 b)

-- a refusal has the number of a row
pub judge_number : (Q : ℕ → Type 0) (rows : List Row) (counts : List ℕ) (k p : ℕ) → Numbers Q rows → judge rows counts ≡ refused k p → Q k
unfolding judge
judge_number Q [] counts k p a e = absurd (not_both (sym e))
judge_number Q (r ∷ rs) counts k p a e = go r.condition e (judge_number Q rs counts k p a.1)
  where
    go : (b : Bool) → cond b (refused r.number r.place) (judge rs counts) ≡ refused k p → (judge rs counts ≡ refused k p → Q k) → Q k
    go true e ih = subst Q (refused_inj e).0 a.0
    go false e ih = ih e

module _ (Q : ℕ → Type 0) where
  pub game_numbers : ((k : ℕ) → k ≤ 8 → Q k) → (unfit : ℕ → ℕ → Bool) (game : List ℕ) → Numbers Q (game_rows_by unfit game)
  unfolding game_rows_by
  game_numbers q unfit game = (q 1 (omega arith), (q 2 (omega arith), (q 3 (omega arith), (q 4 (omega arith), (q 5 (omega arith), (q 6 (omega arith), (q 8 (omega arith), tt)))))))

  pub plan_numbers : ((k : ℕ) → 11 ≤ k → k ≤ 16 → Q k) → (g : List ℕ) (player : ℕ) (plan : List ℕ) → Numbers Q (plan_rows g player plan)
  unfolding plan_rows
  plan_numbers q g player plan = (
    q 11 (omega arith) (omega arith),
    (
      q 12 (omega arith) (omega arith),
      (q 13 (omega arith) (omega arith), (q 14 (omega arith) (omega arith), (q 15 (omega arith) (omega arith), (q 16 (omega arith) (omega arith), tt)))),
    ),
  )

-- rows rs refuse with numbers in Q, rows ss with none of them: so a number in Q is a refusal of rs, and for any other rs is passed
module _ (Q : ℕ → Type 0) (rs ss : List Row) (first : Numbers Q rs) (rest : Numbers (λ k. ¬ Q k) ss) (counts : List ℕ) (k p : ℕ)
    (e : judge (rs ++ ss) counts ≡ refused k p) where
  pub refused_first : Q k → judge rs counts ≡ refused k p
  refused_first q = go (judge_split rs ss counts k p e)
    where
      go : (judge rs counts ≡ refused k p) ⊎ (Clean rs × (judge ss counts ≡ refused k p)) → judge rs counts ≡ refused k p
      go (inl a) = a
      go (inr b) = absurd (judge_number (λ k. ¬ Q k) ss counts k p rest b.1 q)

  pub passed_first : ¬ Q k → Clean rs
  passed_first n = go (judge_split rs ss counts k p e)
    where
      go : (judge rs counts ≡ refused k p) ⊎ (Clean rs × (judge ss counts ≡ refused k p)) → Clean rs
      go (inl a) = absurd (n (judge_number Q rs counts k p first a))
      go (inr b) = b.0
