-- Laws of chains and links: a chain grows by a pair, and a row is linked along its chain, from the last pair back.
use Rattle.std.specs.Prelude.{◌≡◌, Bool, List, leb, length, get_or, set}
use Rattle.std.proofs.Math.Path.{refl, ap}
use Rattle.std.proofs.Common.{sym, ◌∙◌, add-one, get_or-set_other}
use Rattle.std.proofs.Math.Bool.{true, false, cond, So}
use Prim.Native.Nat.{ℕ, zero, suc, ◌+◌, ◌-◌, ◌≤◌, ◌<◌, max}
use Rattle.std.proofs.Math.Decide.{ℕ_discrete, dec_lt}
use native.Mathlib.Omega.{arith}
use Rattle.std.proofs.Math.Seq.{get_or-set_same}
use borrow.Author.Tests.{eqb-true, eq-eqb, ne_eqb, le-leb, lt-leb}
use Rattle.theory.proofs.Logic.BoolsLaws.{clash, So_not, and_in, and_out}
use Rattle.theory.specs.Logic.Range.{first, tabulate}
use Rattle.theory.proofs.Logic.RangeLaws.{first_step, first_hit, first_end_lem, first_skip}
use Rattle.theory.proofs.Logic.ListLaws.{length_tabulate, get_d_tabulate}
use Rattle.table.specs.Placing.{placed}
use Rattle.table.specs.PlacingLaws.{placed_written}
use Rattle.table.specs.AnswersLaws.{get_d_written}
use Rattle.edit_links.specs.Links.{last_of, of_source, pair_is, link_of, Pairs, Chained, Heads, Row, Linked}

-- ---- the last that passes

module _ (p : ℕ → Bool) where
  pub last_le : (x : ℕ) → last_of p x ≤ x
  unfolding last_of
  last_le zero = omega arith
  last_le (suc x) = go (p x) (last_le x)
    where
      go : (b : Bool) → last_of p x ≤ x → cond b (suc x) (last_of p x) ≤ suc x
      go true h = omega arith
      go false h = omega arith

  -- none between it and the end passes
  pub last_gap : (x i : ℕ) → last_of p x ≤ i → i < x → p i ≡ false
  unfolding last_of
  last_gap zero i h l = absurd (omega arith)
  last_gap (suc x) i h l = go (p x) refl h (last_gap x i)
    where
      go : (b : Bool) → p x ≡ b → cond b (suc x) (last_of p x) ≤ i → (last_of p x ≤ i → i < x → p i ≡ false) → p i ≡ false
      go true e g ih = absurd (omega arith)
      go false e g ih = elim (ℕ_discrete i x) [
        | yes q ↦ ap p q ∙ e
        | no d ↦ ih g (omega arith)
      ]

  -- it passes itself
  pub last_hit : (x : ℕ) → 0 < last_of p x → So (p (last_of p x - 1))
  unfolding last_of
  last_hit zero h = absurd (omega arith)
  last_hit (suc x) h = go (p x) refl h (last_hit x)
    where
      go : (b : Bool) → p x ≡ b → 0 < cond b (suc x) (last_of p x) → (0 < last_of p x → So (p (last_of p x - 1)))
          → So (p (cond b (suc x) (last_of p x) - 1))
      go true e g ih = let q : suc x - 1 ≡ x = omega arith in rw q e
      go false e g ih = ih g

-- ---- a chain grows

module _ (S heads before : List ℕ) where
  pub chained_none : ((v : ℕ) → get_or heads v 0 ≡ 0) → Chained S 0 heads before
  unfolding last_of
  chained_none z = record { head = z; link = λ x l. absurd (omega arith) }

  pub chained_more : (x : ℕ) → Chained S x heads before → x < length before → get_or S x 0 < length heads
      → Chained S (x + 1) (set heads (get_or S x 0) (x + 1)) (set before x (get_or heads (get_or S x 0) 0))
  unfolding last_of
  chained_more x c hb hh = rw (add-one x) record {
    head = λ v. elim (ℕ_discrete v (get_or S x 0)) [
      | yes e ↦ rw (e, get_or-set_same heads (get_or S x 0) (suc x) 0 hh, eq-eqb (get_or S x 0) (get_or S x 0) refl)
      | no d ↦ rw (get_or-set_other heads (get_or S x 0) v (suc x) 0 d, ne_eqb (get_or S x 0) v (λ e. d (sym e))) (c.head v)
    ];
    link = λ i l. elim (ℕ_discrete i x) [
      | yes e ↦ rw (e, get_or-set_same before x (get_or heads (get_or S x 0) 0) 0 hb) (c.head (get_or S x 0))
      | no d ↦ rw (get_or-set_other before x i (get_or heads (get_or S x 0) 0) 0 d) (c.link i (omega arith))
    ];
  }

-- ---- a row

module _ (S T : List ℕ) (m N n v : ℕ) where
  -- a pair of another source is none of v
  pair_other : (w x : ℕ) → of_source S v x ≡ false → pair_is S T v w x ≡ false
  unfolding pair_is
  pair_other w x h = So_not (λ t. clash (and_out t).0 h)

  -- the walk is at pair p - 1, of source v, or at the chain's end
  pub record Walk (old head links : List ℕ) (p : ℕ) : Type 0 where
    pub within : p ≤ N
    pub mine : 0 < p → get_or S (p - 1) 0 ≡ v
    pub heads : Heads S T m N n v p head
    pub row : Row S T m N v p old links

  -- it starts at the last pair of v
  pub walk_start : (old head : List ℕ) → ((w : ℕ) → w < n → get_or head w 0 ≡ N) → m ≤ N → Walk old head old (last_of (of_source S v) N)
  walk_start old head z hm =
      let p = last_of (of_source S v) N in
      let le = last_le (of_source S v) N in record {
        within = le;
        mine = λ h. eqb-true _ v (last_hit (of_source S v) N h);
        heads = λ w h. z w h ∙ sym (first_skip (pair_is S T v w) (max p m) N N (omega arith) (omega arith)
            (λ i a b. pair_other w i (last_gap (of_source S v) N i (omega arith) b)) ∙ first_end_lem (pair_is S T v w) N N (omega arith));
        row = record {
          new = λ x a b e. absurd (clash (eq-eqb (get_or S x 0) v e) (last_gap (of_source S v) N x a b));
          rest = λ x d. refl;
        };
      }

  -- and takes pair x
  module _ (old head links : List ℕ) (x : ℕ) (walk : Walk old head links (x + 1)) (inside : get_or T x 0 < n)
      (hm : m ≤ N) (hh : n ≤ length head) (hl : N ≤ length links) where
    abbrev w₀ : ℕ
    w₀ = get_or T x 0

    abbrev next : ℕ
    next = get_or head w₀ 0

    abbrev p' : ℕ
    p' = last_of (of_source S v) x

    mine₀ : get_or S x 0 ≡ v
    mine₀ = let e : x + 1 - 1 ≡ x = omega arith in rw e at (walk.mine (omega arith))

    low : p' ≤ x
    low = last_le (of_source S v) x

    here : So (pair_is S T v w₀ x)
    unfolding pair_is
    here = and_in (eq-eqb (get_or S x 0) v mine₀) (eq-eqb w₀ w₀ refl)

    elsewhere : (w : ℕ) → (w ≡ w₀ → ⊥) → pair_is S T v w x ≡ false
    unfolding pair_is
    elsewhere w d = So_not (λ t. d (sym (eqb-true w₀ w (and_out t).1)))

    -- the first from x on
    from_here : (w : ℕ) → w < n → get_or (set head w₀ (cond (leb m x) x next)) w 0 ≡ first (pair_is S T v w) (max x m) N
    from_here w h = elim (dec_lt x m) [
      | yes l ↦ (
          let q : max x m ≡ max (x + 1) m = omega arith in
          rw (lt-leb m x l, q) (elim (ℕ_discrete w w₀) [
            | yes e ↦ rw (e, get_or-set_same head w₀ next 0 (omega arith)) (walk.heads w₀ inside)
            | no d ↦ rw (get_or-set_other head w₀ w next 0 d) (walk.heads w h)
          ]))
      | no g ↦ (
          let q : max x m ≡ x = omega arith in
          let r : max (x + 1) m ≡ x + 1 = omega arith in
          let l : x < N = omega (arith, walk.within) in
          rw (le-leb m x (omega arith), q) (elim (ℕ_discrete w w₀) [
            | yes e ↦ rw (e, get_or-set_same head w₀ x 0 (omega arith)) (sym (first_hit (pair_is S T v w₀) x N l here))
            | no d ↦ rw (get_or-set_other head w₀ w x 0 d) ((rw r at (walk.heads w h)) ∙ sym (first_step (pair_is S T v w) x N l (elsewhere w d)))
          ]))
    ]

    pub walk_on : Walk old (set head w₀ (cond (leb m x) x next)) (set links x next) p'
    walk_on = record {
      within = omega (arith, low, walk.within);
      mine = λ h. eqb-true _ v (last_hit (of_source S v) x h);
      heads = λ w h.
          from_here w h
          ∙ sym (first_skip (pair_is S T v w) (max p' m) (max x m) N (omega (arith, low)) (omega (arith, walk.within))
          (λ i a b. pair_other w i (last_gap (of_source S v) x i (omega arith) (omega arith))));
      row = record {
        new = λ y a b e. elim (ℕ_discrete y x) [
          | yes q ↦ rw (q, get_or-set_same links x next 0 (omega (arith, walk.within)), mine₀) (walk.heads w₀ inside)
          | no d ↦ elim (dec_lt y x) [
            | yes l ↦ absurd (clash (eq-eqb (get_or S y 0) v e) (last_gap (of_source S v) x y a l))
            | no g ↦ rw (get_or-set_other links x y next 0 d) (walk.row.new y (omega arith) b e)
          ]
        ];
        rest = λ y d. rw (get_or-set_other links x y next 0 (λ e. d (ap (λ (k : ℕ). get_or S k 0) e ∙ mine₀))) (walk.row.rest y d);
      };
    }

  pub walk_end : (old head links : List ℕ) → Walk old head links 0 → Row S T m N v 0 old links
  walk_end old head links walk = walk.row

-- ---- row by row

-- a buffer that is filled
pub filled_with : (n N : ℕ) (head old : List ℕ) → head ≡ placed 0 (tabulate n (λ i. N)) old → (w : ℕ) → w < n → get_or head w 0 ≡ N
filled_with n N head old e w h =
    let f : ℕ → ℕ = λ i. N in
    let new = tabulate n f in
    rw (e, placed_written new old, get_d_written new old w 0 (omega (arith, length_tabulate n f))) (get_d_tabulate n f 0 w h)

module _ (S T : List ℕ) (m N : ℕ) where
  -- the pairs of sources below v are linked
  abbrev pub LinkedBelow : ℕ → List ℕ → Type 0
  LinkedBelow v links = (x : ℕ) → x < N → get_or S x 0 < v → get_or links x 0 ≡ link_of S T m N x

  pub linked_more : (v : ℕ) (old links : List ℕ) → LinkedBelow v old → Row S T m N v 0 old links → LinkedBelow (v + 1) links
  linked_more v old links below row x h l = elim (ℕ_discrete (get_or S x 0) v) [
    | yes e ↦ row.new x (omega arith) h e
    | no d ↦ row.rest x d ∙ below x h (omega arith)
  ]

  pub linked_all : (n : ℕ) (links : List ℕ) → Pairs S T N n → LinkedBelow n links → Linked S T m N links
  linked_all n links pairs below = record { at = λ x h. below x h (pairs.source x h) }
