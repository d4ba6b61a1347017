-- The edges after some entries are the edges that no entry names and the arrivals that no later entry names, in sequence: an entry leaves out the
-- equal pairs before it, and is there itself if it arrives.
use Rattle.std.specs.Prelude.{◌≡◌, ◌⊎◌, Bool, not, leb, get_or}
use Rattle.std.proofs.Math.Path.{refl, sym, ap, ap₂}
use Rattle.std.proofs.Common.{◌∙◌, inl, inr, add-one}
use Rattle.std.proofs.Math.Bool.{true, false, cond, So}
use mathlib.Core.List.{List, [], ◌∷◌, ◌++◌, append-nil}
use Prim.Native.Nat.{ℕ, zero, suc, ◌+◌, ◌≤◌, ◌<◌, max}
use Rattle.std.proofs.Math.Decide.{ℕ_discrete}
use native.Mathlib.Omega.{arith}
use Rattle.std.proofs.Math.Dec.{eqb}
use borrow.Author.Tests.{eqb-true, eq-eqb, le-leb, lt-leb, leb-true, le-ltb}
use Rattle.theory.specs.Logic.Bools.{◌&◌}
use Rattle.theory.proofs.Logic.BoolsLaws.{decide, clash, So_ext, So_not, and_in, and_out, not_in, not_out}
use Rattle.theory.specs.Logic.Range.{first, tabulate}
use Rattle.theory.proofs.Logic.RangeLaws.{first_ge, first_passes, first_least}
use Rattle.theory.proofs.Logic.ListLaws.{tabulate_snoc}
use Rattle.edit_rules.specs.Edges.{others}
use Rattle.edit_rules.proofs.EdgesLaws.{others_append, others_all}
use Rattle.edit_links.specs.Links.{pair_is, Linked}
use Rattle.edit_trace.specs.Trace.{entries_of}
use Rattle.edit_run.specs.Turned.{turned, pair_at, edges_after, passing_below}
use Rattle.edit_run.specs.TurnedLaws.{linked_counted}
use Rattle.edit_run.specs.TallyLaws.{equal, equals}

-- ---- pairs that pass

passing_ext : (p q : ℕ → Bool) (f : ℕ → ℕ × ℕ) (k : ℕ) → ((x : ℕ) → x < k → p x ≡ q x) → passing_below p f k ≡ passing_below q f k
unfolding passing_below
passing_ext p q f zero h = refl
passing_ext p q f (suc k) h =
    ap₂ ◌++◌ (passing_ext p q f k (λ x l. h x (omega arith))) (ap (λ (b : Bool). cond b (f k ∷ []) []) (h k (omega arith)))

passing_all : (p : ℕ → Bool) (f : ℕ → ℕ × ℕ) (k : ℕ) → ((x : ℕ) → x < k → So (p x)) → passing_below p f k ≡ tabulate k f
unfolding passing_below
passing_all p f zero h = unfold tabulate in refl
passing_all p f (suc k) h =
    rw (h k (omega arith), tabulate_snoc {A = ℕ × ℕ} k f) (ap (λ (l : List (ℕ × ℕ)). l ++ (f k ∷ [])) (passing_all p f k (λ x l. h x (omega arith))))

pub passing_more : (p : ℕ → Bool) (f : ℕ → ℕ × ℕ) (k : ℕ) → passing_below p f (k + 1) ≡ passing_below p f k ++ cond (p k) (f k ∷ []) []
unfolding passing_below
passing_more p f k = rw (add-one k)

-- without the equal ones
passing_others : (s t : ℕ) (p : ℕ → Bool) (f : ℕ → ℕ × ℕ) (k : ℕ)
    → others s t (passing_below p f k) ≡ passing_below (λ x. p x & not (eqb (f x).0 s & eqb (f x).1 t)) f k
unfolding passing_below
passing_others s t p f zero = unfold others in refl
passing_others s t p f (suc k) =
    others_append s t (passing_below p f k) (cond (p k) (f k ∷ []) [])
    ∙ ap₂ ◌++◌ (passing_others s t p f k) (go (p k) (eqb (f k).0 s & eqb (f k).1 t) refl)
  where
    go : (b d : Bool) → (eqb (f k).0 s & eqb (f k).1 t) ≡ d → others s t (cond b (f k ∷ []) []) ≡ cond (b & not d) (f k ∷ []) []
    go true true h = unfold others in unfold ◌&◌ in rw h
    go true false h = unfold others in unfold ◌&◌ in rw h
    go false d h = unfold others in unfold ◌&◌ in refl

and_right : (b : Bool) → (b & true) ≡ b
unfolding ◌&◌
and_right true = refl
and_right false = refl

and_pull : (b c d e : Bool) → d ≡ (c & e) → (b & d) ≡ ((b & c) & e)
unfolding ◌&◌
and_pull true c d e h = h
and_pull false c d e h = refl

strict : (a b : ℕ) → a ≤ b → (a ≡ b → ⊥) → a + 1 ≤ b
strict a b h d = elim (ℕ_discrete a b) [
  | yes e ↦ absurd (d e)
  | no e ↦ omega arith
]

-- ---- after i entries

module _ (S T : List ℕ) (m N : ℕ) (few : m ≤ N) (links : List ℕ) (linked : Linked S T m N links) (copies : List ℕ) where
  abbrev s : ℕ → ℕ
  s x = get_or S x 0

  abbrev t : ℕ → ℕ
  t x = get_or T x 0

  -- pair x is an edge or arrives, and no entry below k equals it
  abbrev pub survives : ℕ → ℕ → Bool
  survives k x = eqb (get_or copies x 0) 0 & leb k (get_or links x 0)

  -- what entry y does to an earlier pair
  survives_next : (y x : ℕ) → m ≤ y → y < N → x < y → survives (y + 1) x ≡ (survives y x & not (eqb (s x) (s y) & eqb (t x) (t y)))
  survives_next y x hm hy l =
      and_pull (eqb (get_or copies x 0) 0) (leb y (get_or links x 0)) _ _ (step (decide (eqb (s x) (s y) & eqb (t x) (t y))))
    where
      L : get_or links x 0 ≡ first (pair_is S T (s x) (t x)) (max (x + 1) m) N
      L = linked.at x (omega arith)

      step : So (eqb (s x) (s y) & eqb (t x) (t y)) ⊎ ((eqb (s x) (s y) & eqb (t x) (t y)) ≡ false)
          → leb (y + 1) (get_or links x 0) ≡ (leb y (get_or links x 0) & not (eqb (s x) (s y) & eqb (t x) (t y)))
      step (inl h) =
          let p = and_out h in
          let least = first_least (pair_is S T (s x) (t x)) (max (x + 1) m) N y (omega arith)
          (equals S T (s x) (t x) y (sym (eqb-true (s x) (s y) p.0)) (sym (eqb-true (t x) (t y) p.1))) in
          lt-leb (y + 1) (get_or links x 0) (omega (arith, L)) ∙ sym (So_not (λ z. clash h (not_out (and_out z).1)))
      step (inr h) = So_ext
          (λ z. and_in (le-leb y (get_or links x 0) (omega (arith, leb-true (y + 1) (get_or links x 0) z))) (not_in h))
          (λ z.
          let low = leb-true y (get_or links x 0) (and_out z).0 in
          let apart : (y ≡ get_or links x 0) → ⊥ = λ e.
          (let k : first (pair_is S T (s x) (t x)) (max (x + 1) m) N ≡ y = sym (e ∙ L) in
          let q = equal S T (s x) (t x) y (rw k at (first_passes (pair_is S T (s x) (t x)) (max (x + 1) m) N (omega arith) (omega (arith, k)))) in
          clash (and_in (eq-eqb (s x) (s y) (sym q.0)) (eq-eqb (t x) (t y) (sym q.1))) h) in
          le-leb (y + 1) (get_or links x 0) (strict y (get_or links x 0) low apart))

  -- the edges then
  module _ (D : ℕ) (high : m + D ≤ N) (done : (j : ℕ) → j < D → get_or copies (m + j) 0 ≡ entries_of (s (m + j)) (t (m + j)) (edges_after S T m j))
      (zeros : (x : ℕ) → x < m → get_or copies x 0 ≡ 0) where
    start_all : (x : ℕ) → x < m → So (survives (m + 0) x)
    start_all x l =
        let q : m + 0 ≤ get_or links x 0 = omega (arith, linked.at x (omega arith), first_ge (pair_is S T (s x) (t x)) (max (x + 1) m) N) in
        and_in (eq-eqb (get_or copies x 0) 0 (zeros x l)) (le-leb (m + 0) (get_or links x 0) q)

    -- entry y itself
    own_survives : (i : ℕ) → i < D → survives (m + i + 1) (m + i) ≡ eqb (entries_of (s (m + i)) (t (m + i)) (edges_after S T m i)) 0
    own_survives i l =
        let y = m + i in
        let q : y + 1 ≤ get_or links y 0 = omega (arith, linked.at y (omega arith), first_ge (pair_is S T (s y) (t y)) (max (y + 1) m) N) in
        rw (done i l, le-leb (y + 1) (get_or links y 0) q) (and_right _)

    turned_is : (es : List (ℕ × ℕ)) (e : ℕ × ℕ)
        → turned es e ≡ others e.0 e.1 es ++ cond (eqb (entries_of e.0 e.1 es) 0) (e ∷ []) []
    unfolding turned
    turned_is es e = go (eqb (entries_of e.0 e.1 es) 0) refl
      where
        go : (b : Bool) → eqb (entries_of e.0 e.1 es) 0 ≡ b
            → cond b (es ++ (e ∷ [])) (others e.0 e.1 es) ≡ others e.0 e.1 es ++ cond b (e ∷ []) []
        go true h =
            let none = linked_counted e.0 e.1 es ∙ le-ltb 0 (entries_of e.0 e.1 es) (omega (arith, eqb-true (entries_of e.0 e.1 es) 0 h)) in
            ap (λ (l : List (ℕ × ℕ)). l ++ (e ∷ [])) (sym (others_all e.0 e.1 es none))
        go false h = sym (append-nil (others e.0 e.1 es))

    pub edges_survive : (i : ℕ) → i ≤ D → edges_after S T m i ≡ passing_below (survives (m + i)) (pair_at S T) (m + i)
    unfolding edges_after
    edges_survive zero l =
        let q : m + zero ≡ m = omega arith in
        sym (ap (passing_below (survives (m + zero)) (pair_at S T)) q ∙ passing_all (survives (m + zero)) (pair_at S T) m start_all)
    edges_survive (suc i) l =
        let y = m + i in
        let q : m + suc i ≡ y + 1 = omega arith in
        let f = pair_at S T in
        turned_is (edges_after S T m i) (f y)
        ∙ ap₂ ◌++◌
        (ap (λ (es : List (ℕ × ℕ)). others (s y) (t y) es) (edges_survive i (omega arith)) ∙ passing_others (s y) (t y) (survives y) f y
        ∙ sym (passing_ext (survives (y + 1)) _ f y (λ x h. survives_next y x (omega arith) (omega arith) h)))
        (ap (λ (b : Bool). cond b (f y ∷ []) []) (sym (own_survives i (omega arith))))
        ∙ sym (passing_more (survives (y + 1)) f y) ∙ sym (ap (λ (k : ℕ). passing_below (survives k) f k) q)
