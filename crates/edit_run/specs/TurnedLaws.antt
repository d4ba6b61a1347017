-- Laws of the edges of a run: their counts after an entry, and that they are the edges of the run's tables.
use Rattle.std.specs.Prelude.{◌≡◌, Bool, ℕ, zero, suc, ◌+◌, ◌-◌, ◌≤◌, ◌<◌}
use Rattle.std.proofs.Math.Path.{refl, ap}
use Rattle.std.proofs.Common.{sym, ap₂, ◌∙◌}
use Rattle.std.proofs.Math.Bool.{true, false, cond, So}
use mathlib.Core.List.{List, [], ◌∷◌, ◌++◌}
use native.Mathlib.Omega.{arith}
use Rattle.std.proofs.Math.Dec.{eqb, ltb}
use Rattle.std.proofs.Math.ListN.{length, length-append}
use borrow.Author.Tests.{eqb-true, eqb-false, eq-eqb, ne_eqb, lt-ltb, le-ltb}
use Rattle.theory.specs.Logic.Bools.{◌&◌, ◌or◌, bit}
use Rattle.theory.proofs.Logic.BoolsLaws.{and_in, and_out}
use Rattle.theory.specs.Logic.Range.{tabulate, count}
use Rattle.theory.proofs.Logic.ListLaws.{tabulate_snoc}
use Rattle.theory.specs.Plans.Plan.{linked}
use Rattle.table.specs.Table.{game_of}
use Rattle.edit_rules.specs.Edges.{with_edges, others, edited_edges, edited}
use Rattle.edit_rules.proofs.EdgesLaws.{edges_with, with_linked, with_with}
use Rattle.edit_rules.specs.declared.Edit.TheVariants.{Arrival, Leaving}
use Rattle.edit_trace.specs.Trace.{entries_of}
use Rattle.edit_trace.specs.Run.{toggle, toggled}
use Rattle.edit_run.specs.Turned.{leaving, turned, stepped}

bit_false : {b : Bool} → b ≡ false → bit b ≡ 0
unfolding bit
bit_false h = rw h

bit_true : {b : Bool} → So b → bit b ≡ 1
unfolding bit
bit_true h = rw h

-- ---- edges put behind others

entries_append : (v w : ℕ) (es fs : List (ℕ × ℕ)) → entries_of v w (es ++ fs) ≡ entries_of v w es + entries_of v w fs
unfolding entries_of
entries_append v w [] fs = omega arith
entries_append v w (e ∷ es) fs = omega (arith, entries_append v w es fs)

leaving_append : (v : ℕ) (es fs : List (ℕ × ℕ)) → leaving v (es ++ fs) ≡ leaving v es + leaving v fs
unfolding leaving
leaving_append v [] fs = omega arith
leaving_append v (e ∷ es) fs = omega (arith, leaving_append v es fs)

entries_one : (v w : ℕ) (e : ℕ × ℕ) → entries_of v w (e ∷ []) ≡ bit (eqb e.0 v & eqb e.1 w)
unfolding entries_of
entries_one v w e = omega arith

leaving_one : (v : ℕ) (e : ℕ × ℕ) → leaving v (e ∷ []) ≡ bit (eqb e.0 v)
unfolding leaving
leaving_one v e = omega arith

-- ---- listed one by one

pub entries_tabulate : (v w m : ℕ) (f : ℕ → ℕ × ℕ) → entries_of v w (tabulate m f) ≡ count m (λ x. eqb (f x).0 v & eqb (f x).1 w)
unfolding count
entries_tabulate v w zero f = unfold entries_of in unfold tabulate in refl
entries_tabulate v w (suc m) f =
    rw (tabulate_snoc {A = ℕ × ℕ} m f)
    (entries_append v w (tabulate m f) (f m ∷ []) ∙ ap₂ ◌+◌ (entries_tabulate v w m f) (entries_one v w (f m)))

pub leaving_tabulate : (v m : ℕ) (f : ℕ → ℕ × ℕ) → leaving v (tabulate m f) ≡ count m (λ x. eqb (f x).0 v)
unfolding count
leaving_tabulate v zero f = unfold leaving in unfold tabulate in refl
leaving_tabulate v (suc m) f =
    rw (tabulate_snoc {A = ℕ × ℕ} m f)
    (leaving_append v (tabulate m f) (f m ∷ []) ∙ ap₂ ◌+◌ (leaving_tabulate v m f) (leaving_one v (f m)))

-- ---- a linked pair is one that some edge is

pub linked_counted : (v w : ℕ) (es : List (ℕ × ℕ)) → linked es v w ≡ ltb 0 (entries_of v w es)
unfolding linked entries_of ◌or◌ bit
linked_counted v w [] = refl
linked_counted v w (e ∷ es) = go (eqb e.0 v & eqb e.1 w) (linked_counted v w es)
  where
    go : (b : Bool) → linked es v w ≡ ltb 0 (entries_of v w es) → (b or linked es v w) ≡ ltb 0 (bit b + entries_of v w es)
    go true ih = sym (lt-ltb 0 (1 + entries_of v w es) (omega arith))
    go false ih = let q : 0 + entries_of v w es ≡ entries_of v w es = omega arith in rw q ih

-- ---- every copy left out

module _ (s t : ℕ) where
  abbrev taken : ℕ × ℕ → Bool
  taken e = eqb e.0 s & eqb e.1 t

  length_left : (es : List (ℕ × ℕ)) → length (others s t es) + entries_of s t es ≡ length es
  unfolding others entries_of bit
  length_left [] = refl
  length_left (e ∷ es) = go (taken e) (length_left es)
    where
      go : (b : Bool) → length (others s t es) + entries_of s t es ≡ length es
          → length (cond b (others s t es) (e ∷ others s t es)) + (bit b + entries_of s t es) ≡ length (e ∷ es)
      go true ih = omega arith
      go false ih = omega arith

  pub leaving_left : (es : List (ℕ × ℕ)) → leaving s (others s t es) + entries_of s t es ≡ leaving s es
  unfolding others entries_of leaving
  leaving_left [] = refl
  leaving_left (e ∷ es) = go (taken e) refl (leaving_left es)
    where
      go : (b : Bool) → taken e ≡ b → leaving s (others s t es) + entries_of s t es ≡ leaving s es
          → leaving s (cond b (others s t es) (e ∷ others s t es)) + (bit b + entries_of s t es) ≡ bit (eqb e.0 s) + leaving s es
      go true h ih = let one = bit_true (and_out h).0 in let b = bit_true refl in omega (arith, one, b)
      go false h ih = let b = bit_false refl in omega (arith, b)

  leaving_rest : (v : ℕ) → (v ≡ s → ⊥) → (es : List (ℕ × ℕ)) → leaving v (others s t es) ≡ leaving v es
  unfolding others leaving
  leaving_rest v d [] = refl
  leaving_rest v d (e ∷ es) = go (taken e) refl (leaving_rest v d es)
    where
      go : (b : Bool) → taken e ≡ b → leaving v (others s t es) ≡ leaving v es
          → leaving v (cond b (others s t es) (e ∷ others s t es)) ≡ bit (eqb e.0 v) + leaving v es
      go true h ih =
          let none = bit_false (ne_eqb e.0 v (λ q. d (sym q ∙ eqb-true e.0 s (and_out h).0))) in
          omega (arith, none)
      go false h ih = omega arith

  entries_left : (es : List (ℕ × ℕ)) → entries_of s t (others s t es) ≡ 0
  unfolding others entries_of
  entries_left [] = refl
  entries_left (e ∷ es) = go (taken e) refl (entries_left es)
    where
      go : (b : Bool) → taken e ≡ b → entries_of s t (others s t es) ≡ 0 → entries_of s t (cond b (others s t es) (e ∷ others s t es)) ≡ 0
      go true h ih = ih
      go false h ih = let none = bit_false h in omega (arith, none)

  entries_rest : (v w : ℕ) → (eqb s v & eqb t w) ≡ false → (es : List (ℕ × ℕ)) → entries_of v w (others s t es) ≡ entries_of v w es
  unfolding others entries_of
  entries_rest v w d [] = refl
  entries_rest v w d (e ∷ es) = go (taken e) refl (entries_rest v w d es)
    where
      go : (b : Bool) → taken e ≡ b → entries_of v w (others s t es) ≡ entries_of v w es
          → entries_of v w (cond b (others s t es) (e ∷ others s t es)) ≡ bit (eqb e.0 v & eqb e.1 w) + entries_of v w es
      go true h ih =
          let p = and_out h in
          let miss : (eqb e.0 v & eqb e.1 w) ≡ false = rw (eqb-true e.0 s p.0, eqb-true e.1 t p.1) d in
          let none = bit_false miss in
          omega (arith, none)
      go false h ih = omega arith

-- ---- after an entry

module _ (es : List (ℕ × ℕ)) (e : ℕ × ℕ) where
  abbrev c : ℕ
  c = entries_of e.0 e.1 es

  pub copies_few : (c ≤ length es) × (c ≤ leaving e.0 es)
  copies_few = (omega (arith, length_left e.0 e.1 es), omega (arith, leaving_left e.0 e.1 es))

  -- by whether a copy is there
  cases : (P : List (ℕ × ℕ) → ℕ → Type 0) → (c ≡ 0 → P (es ++ (e ∷ [])) 0) → (0 < c → P (others e.0 e.1 es) c) → P (turned es e) c
  unfolding turned
  cases P none some = go (eqb c 0) refl
    where
      go : (b : Bool) → eqb c 0 ≡ b → P (cond b (es ++ (e ∷ [])) (others e.0 e.1 es)) c
      go true h = let q = eqb-true c 0 h in rw q (none q)
      go false h = some (omega (arith, eqb-false c 0 h))

  pub length_turned : length (turned es e) ≡ stepped (length es) c
  unfolding stepped
  length_turned = cases (λ fs k. length fs ≡ cond (eqb k 0) (length es + 1) (length es - k)) (λ q. length-append es (e ∷ []))
      (λ h. rw (ne_eqb c 0 (λ q. omega arith)) (omega (arith, length_left e.0 e.1 es)))

  pub leaving_turned : leaving e.0 (turned es e) ≡ stepped (leaving e.0 es) c
  unfolding stepped
  leaving_turned = cases (λ fs k. leaving e.0 fs ≡ cond (eqb k 0) (leaving e.0 es + 1) (leaving e.0 es - k))
      (λ q. leaving_append e.0 es (e ∷ []) ∙ ap (λ (k : ℕ). leaving e.0 es + k) (leaving_one e.0 e ∙ bit_true (eq-eqb e.0 e.0 refl)))
      (λ h. rw (ne_eqb c 0 (λ q. omega arith)) (omega (arith, leaving_left e.0 e.1 es)))

  pub leaving_same : (v : ℕ) → (v ≡ e.0 → ⊥) → leaving v (turned es e) ≡ leaving v es
  leaving_same v d = cases (λ fs k. leaving v fs ≡ leaving v es)
      (λ q. omega (arith, leaving_append v es (e ∷ []), leaving_one v e, bit_false (ne_eqb e.0 v (λ q. d (sym q)))))
      (λ h. leaving_rest e.0 e.1 v d es)

  -- none after a leaving, one after an arrival
  pub entries_turned : entries_of e.0 e.1 (turned es e) ≡ cond (eqb c 0) 1 0
  entries_turned = cases (λ fs k. entries_of e.0 e.1 fs ≡ cond (eqb k 0) 1 0)
      (λ q. omega (arith, entries_append e.0 e.1 es (e ∷ []), entries_one e.0 e.1 e, bit_true (and_in (eq-eqb e.0 e.0 refl) (eq-eqb e.1 e.1 refl))))
      (λ h. rw (ne_eqb c 0 (λ q. omega arith)) (entries_left e.0 e.1 es))

  pub entries_same : (v w : ℕ) → (eqb e.0 v & eqb e.1 w) ≡ false → entries_of v w (turned es e) ≡ entries_of v w es
  entries_same v w d = cases (λ fs k. entries_of v w fs ≡ entries_of v w es)
      (λ q. omega (arith, entries_append v w es (e ∷ []), entries_one v w e, bit_false d))
      (λ h. entries_rest e.0 e.1 v w d es)

  -- it is what the run's table has then
  pub toggled_turned : (g : List ℕ) → toggled (with_edges g es) e ≡ with_edges g (turned es e)
  unfolding toggle edited edited_edges turned
  toggled_turned g =
      let there : (game_of (with_edges g es)).edge e.0 e.1 ≡ ltb 0 c = with_linked g es e.0 e.1 ∙ linked_counted e.0 e.1 es in
      rw (there, edges_with g es) (with_with g es _ ∙ ap (λ (fs : List (ℕ × ℕ)). with_edges g fs) (go (eqb c 0) refl))
    where
      go : (b : Bool) → eqb c 0 ≡ b → edited_edges (cond (ltb 0 c) Leaving Arrival) e.0 e.1 es ≡ cond b (es ++ (e ∷ [])) (others e.0 e.1 es)
      go true h = rw (le-ltb 0 c (omega (arith, eqb-true c 0 h)))
      go false h = rw (lt-ltb 0 c (omega (arith, eqb-false c 0 h)))
