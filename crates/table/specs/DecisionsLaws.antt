-- Rows that render rules decide by them, and so do rows after rows.
use Rattle.std.specs.Prelude.{◌≡◌, refl, ◌⊎◌, List, [], ◌∷◌, ◌++◌, ℕ}
use Rattle.std.proofs.Common.{sym, ◌∙◌, inl, inr}
use Rattle.table.specs.Answers.{Row, Answer, accepted, refused, judge, Clean}
use Rattle.table.specs.AnswersLaws.{judge_accepted, judge_past, judge_stays, clean_append, clean_split}
use Rattle.table.specs.Rules.{Rule, FirstRule, here, later, NoRule, no_rule, fails, Rendered}
use Rattle.table.specs.RulesLaws.{judge_refused, judge_refuses, clean_none, none_clean}
use Rattle.table.specs.Decisions.{Decides}

pub rendered_decides : {rows : List Row} {rules : List Rule} → Rendered rows rules → Decides rows rules
rendered_decides r = record {
  refuses = λ counts k p. (judge_refused r counts k p, λ f. judge_refuses r f counts);
  none = clean_none r;
  clean = none_clean r;
}

-- ---- rules after rules

first_front : {qs : List Rule} {k p : ℕ} (ts : List Rule) → FirstRule qs k p → FirstRule (qs ++ ts) k p
first_front ts (here h e a) = here h e a
first_front ts (later m f) = later m (first_front ts f)

first_behind : {qs ts : List Rule} {k p : ℕ} → NoRule qs → FirstRule ts k p → FirstRule (qs ++ ts) k p
first_behind no_rule f = f
first_behind (fails m n) f = later m (first_behind n f)

first_split : (qs ts : List Rule) (k p : ℕ) → FirstRule (qs ++ ts) k p → FirstRule qs k p ⊎ (NoRule qs × FirstRule ts k p)
first_split [] ts k p f = inr (no_rule, f)
first_split (q ∷ qs) ts k p (here h e a) = inl (here h e a)
first_split (q ∷ qs) ts k p (later m f) = go (first_split qs ts k p f)
  where
    go : FirstRule qs k p ⊎ (NoRule qs × FirstRule ts k p) → FirstRule (q ∷ qs) k p ⊎ (NoRule (q ∷ qs) × FirstRule ts k p)
    go (inl a) = inl (later m a)
    go (inr b) = inr (fails m b.0, b.1)

none_append : {qs ts : List Rule} → NoRule qs → NoRule ts → NoRule (qs ++ ts)
none_append no_rule n = n
none_append (fails d ds) n = fails d (none_append ds n)

none_split : (qs : List Rule) {ts : List Rule} → NoRule (qs ++ ts) → NoRule qs × NoRule ts
none_split [] n = (no_rule, n)
none_split (q ∷ qs) (fails d n) = let s = none_split qs n in (fails d s.0, s.1)

-- ---- rows after rows

pub judge_split : (rs ss : List Row) (counts : List ℕ) (k p : ℕ) → judge (rs ++ ss) counts ≡ refused k p
    → (judge rs counts ≡ refused k p) ⊎ (Clean rs × (judge ss counts ≡ refused k p))
judge_split rs ss counts k p e = go (judge rs counts) refl
  where
    go : (a : Answer) → judge rs counts ≡ a → (judge rs counts ≡ refused k p) ⊎ (Clean rs × (judge ss counts ≡ refused k p))
    go (accepted given) f = let c = (judge_accepted rs counts given f).0 in inr (c, sym (judge_past rs ss counts c) ∙ e)
    go (refused k' p') f = inl (f ∙ sym (judge_stays rs ss counts counts k' p' f) ∙ e)

-- the second part decides where the first is passed
pub decides_append : {rs ss : List Row} {qs ts : List Rule} → Decides rs qs → (Clean rs → Decides ss ts) → Decides (rs ++ ss) (qs ++ ts)
decides_append {rs} {ss} {qs} {ts} a b = record {
  refuses = λ counts k p. (λ e. to counts k p (judge_split rs ss counts k p e), λ f. from counts k p (first_split qs ts k p f));
  none = λ c. let s = clean_split rs ss c in none_append (a.none s.0) ((b s.0).none s.1);
  clean = λ n.
      let s = none_split qs n in
      let c = a.clean s.0 in
      clean_append rs ss c ((b c).clean s.1);
}
  where
    to : (counts : List ℕ) (k p : ℕ) → (judge rs counts ≡ refused k p) ⊎ (Clean rs × (judge ss counts ≡ refused k p)) → FirstRule (qs ++ ts) k p
    to counts k p (inl e) = first_front ts ((a.refuses counts k p).0 e)
    to counts k p (inr c) = first_behind (a.none c.0) (((b c.0).refuses counts k p).0 c.1)

    from : (counts : List ℕ) (k p : ℕ) → FirstRule qs k p ⊎ (NoRule qs × FirstRule ts k p) → judge (rs ++ ss) counts ≡ refused k p
    from counts k p (inl f) = judge_stays rs ss counts counts k p ((a.refuses counts k p).1 f)
    from counts k p (inr n) =
        let c = a.clean n.0 in
        judge_past rs ss counts c ∙ ((b c).refuses counts k p).1 n.1
