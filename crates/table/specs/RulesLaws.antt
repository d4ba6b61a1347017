-- Laws of rules: where computed rows render them, a verdict goes by them.
use Rattle.std.specs.Prelude.{◌≡◌, refl, ◌↔◌, Bool, true, false, cond, List, ◌∷◌, ◌++◌, ℕ, ◌≤◌, ltb, length}
use Rattle.std.proofs.Common.{sym, ap, ◌∙◌, arith, ltb-true, lt-ltb}
use Rattle.std.proofs.Math.Bool.{So}
use Rattle.theory.proofs.Logic.BoolsLaws.{clash, So_not}
use Rattle.theory.specs.Logic.Range.{first}
use Rattle.theory.proofs.Logic.RangeLaws.{first_ge, first_before, first_passes, first_least, first_is}
use Rattle.table.specs.Answers.{Row, memory_row, Answer, refused, judge, Clean}
use Rattle.table.specs.AnswersLaws.{refused_inj, not_both, judge_hit, judge_next}
use Rattle.table.specs.Rules.{Rule, Some, First, placed, memory_rule, first_such, FirstRule, here, later, NoRule, no_rule, fails, Renders, Rendered, none, next}

-- ---- a computed row renders a rule

pub renders_placed : (k x : ℕ) (b : Bool) (C : Type 0) → So b ↔ C → Renders (record { number = k; condition = b; place = x }) (placed k C x)
renders_placed k x b C t = record { number = refl; holds = t; place = λ h p. (λ e. e, λ e. e) }

pub memory_renders : (number needed : ℕ) (memory : List ℕ) → Renders (memory_row number needed memory) (memory_rule number needed memory)
memory_renders number needed memory = renders_placed number needed _ _ (ltb-true (length memory) needed, lt-ltb (length memory) needed)

-- the test p says P, so the search for p finds the first P
pub renders_first : (k : ℕ) (p : ℕ → Bool) (P : ℕ → Type 0) (a e : ℕ) (at : ℕ → ℕ) → a ≤ e → ((j : ℕ) → So (p j) ↔ P j)
    → Renders (record { number = k; condition = ltb (first p a e) e; place = at (first p a e) }) (first_such k P a e at)
renders_first k p P a e at l t = record { number = refl; holds = (some, found); place = λ h x. (at_first h x, first_at h x) }
  where
    some : So (ltb (first p a e) e) → Some P a e
    some h = let b = ltb-true (first p a e) e h in (first p a e, first_ge p a e, b, (t (first p a e)).0 (first_passes p a e l b))

    found : Some P a e → So (ltb (first p a e) e)
    found s = lt-ltb (first p a e) e (omega (arith, first_least p a e s.0 s.1 ((t s.0).1 s.3)))

    at_first : So (ltb (first p a e) e) → (x : ℕ) → at (first p a e) ≡ x → (j : ℕ) × First P a e j × (at j ≡ x)
    at_first h x q =
        let b = ltb-true (first p a e) e h in (
          first p a e,
          record {
            from = first_ge p a e;
            below = b;
            holds = (t (first p a e)).0 (first_passes p a e l b);
            before = λ j c d y. clash ((t j).1 y) (first_before p a e j c d);
          },
          q,
        )

    first_at : So (ltb (first p a e) e) → (x : ℕ) → (j : ℕ) × First P a e j × (at j ≡ x) → at (first p a e) ≡ x
    first_at h x f =
        let d = f.1 in
        ap at (first_is p a e f.0 d.from d.below ((t f.0).1 d.holds) (λ j b c. So_not (λ y. d.before j b c ((t j).0 y)))) ∙ f.2

-- ---- refused k at p exactly if the first rule whose condition holds has number k and names p

pub judge_refused : {rs : List Row} {qs : List Rule} → Rendered rs qs → (counts : List ℕ) (k p : ℕ) → judge rs counts ≡ refused k p → FirstRule qs k p
unfolding judge
judge_refused none counts k p e = absurd (not_both (sym e))
judge_refused (next {r = r} {q = q} {rs = rs} {qs = qs} x xs) counts k p e = go r.condition refl e (judge_refused xs counts k p)
  where
    go : (b : Bool) → r.condition ≡ b → cond b (refused r.number r.place) (judge rs counts) ≡ refused k p
        → (judge rs counts ≡ refused k p → FirstRule qs k p) → FirstRule (q ∷ qs) k p
    go true f e ih = here (x.holds.0 f) (sym x.number ∙ (refused_inj e).0) ((x.place f p).0 (refused_inj e).1)
    go false f e ih = later (λ h. clash (x.holds.1 h) f) (ih e)

pub judge_refuses : {rs : List Row} {qs : List Rule} {k p : ℕ} → Rendered rs qs → FirstRule qs k p → (counts : List ℕ) → judge rs counts ≡ refused k p
judge_refuses none f counts = elim f [ ]
judge_refuses (next {r = r} {rs = rs} x xs) (here {k = k} {p = p} h e a) counts =
    let f = x.holds.1 h in
    judge_hit r rs counts f ∙ cc (x.number ∙ e, (x.place f p).1 a)
judge_refuses (next {r = r} {rs = rs} x xs) (later m f) counts =
    judge_next r rs counts (So_not (λ h. m (x.holds.0 h))) ∙ judge_refuses xs f counts

-- an answer by rows that render rules
pub refused_by : {rows : List Row} {rules : List Rule} {answer : Answer} (counts : List ℕ) → Rendered rows rules → answer ≡ judge rows counts
    → (k p : ℕ) → (answer ≡ refused k p) ↔ FirstRule rules k p
refused_by counts render verdict k p =
    (λ e. judge_refused render counts k p (sym verdict ∙ e), λ f. verdict ∙ judge_refuses render f counts)

-- rows after rows render rules after rules
pub rendered_append : {rs ss : List Row} {qs ts : List Rule} → Rendered rs qs → Rendered ss ts → Rendered (rs ++ ss) (qs ++ ts)
rendered_append none ys = ys
rendered_append (next x xs) ys = next x (rendered_append xs ys)

-- ---- rows are clean exactly if no rule's condition holds

pub clean_none : {rs : List Row} {qs : List Rule} → Rendered rs qs → Clean rs → NoRule qs
clean_none none c = no_rule
clean_none (next x xs) c = fails (λ h. clash (x.holds.1 h) c.0) (clean_none xs c.1)

pub none_clean : {rs : List Row} {qs : List Rule} → Rendered rs qs → NoRule qs → Clean rs
none_clean none no_rule = tt
none_clean (next x xs) (fails d ds) = (So_not (λ h. d (x.holds.0 h)), none_clean xs ds)
