-- Laws of a game's rows: successors by rows, the fall of a row, and what a row loses.
use Rattle.std.specs.Prelude.{◌≡◌, Bool, cond, ℕ, ◌+◌, ◌-◌, ◌*◌, ◌≤◌, ◌<◌, eqb, ltb}
use Rattle.std.proofs.Math.Path.{refl, sym, ap, ap₂}
use Rattle.std.proofs.Common.{◌∙◌}
use Rattle.std.proofs.Math.Logic.{inl, inr}
use Rattle.std.proofs.Math.Bool.{true, false, not, So}
use native.Mathlib.Omega.{arith}
use borrow.Author.Tests.{ltb-true, lt-ltb}
use Rattle.theory.specs.Logic.Bools.{◌&◌, ◌or◌, imp}
use Rattle.theory.proofs.Logic.BoolsLaws.{decide, clash, So_ext, So_not, or_left, or_right, or_out, and_in, and_out, and_fails, not_out, and_first, and_one, and_assoc}
use Rattle.theory.specs.Logic.Range.{any_below}
use Rattle.theory.proofs.Logic.RangeLaws.{any_in, any_out, any_ext, any_fails, first_le, first_before}
use Rattle.theory.specs.Order.Passes.{Rel}
use Rattle.theory.specs.Games.Game.{even, Game, own, Succ, Total}
use Rattle.theory.specs.Order.Order.{any_next}
use Rattle.theory.proofs.Order.OrderLaws.{any_next_in, any_next_out}
use Rattle.theory.specs.Order.Rows.{united, fall, united_lost, fails, loses}
use Rattle.theory.proofs.Order.RowsLaws.{any_same, fall_same, fall_none}
use Rattle.words.specs.Word.{word_bits, digit, lowest_bit, Lowest, Rest}
use Rattle.words.specs.LeftLaws.{Onward, rest_above, onward_between}
use Rattle.order_sets.specs.Sets.{Is, With, PutIn, united_in, apart_in, struck}
use Rattle.order_sets.specs.MembersLaws.{kept_none, kept_skip, kept_step, members_skip, members_step}
use Rattle.order_sets.specs.Losses.{EdgeSets, falling_in, Whole, FellIn, odd_loss, LossesIn}

-- ---- Bools

not_false : (b : Bool) → not b ≡ false → So b
not_false true e = refl
not_false false e = sym e

fall_cases : (m a b c : Bool) → (((m & a) & not b) or (((m & a) & not (not b)) & c)) ≡ m & (a & imp b c)
unfolding ◌&◌ ◌or◌ imp
fall_cases true true true c = refl
fall_cases true true false c = refl
fall_cases true false b c = refl
fall_cases false a b c = refl

fall_empty : (m o c d : Bool) → (((m & false) & o) or (((m & false) & not o) & c)) ≡ m & (false & d)
unfolding ◌&◌ ◌or◌
fall_empty true o c d = refl
fall_empty false o c d = refl

-- where one of both holds
rest_cases : (l x e : Bool) → So (l or x) → true & not ((x & (true & not (not e))) or ((x & not (true & not (not e))) & not l)) ≡ l & imp e (not x)
unfolding ◌&◌ ◌or◌ imp
rest_cases true true true t = refl
rest_cases true true false t = refl
rest_cases true false true t = refl
rest_cases true false false t = refl
rest_cases false true true t = refl
rest_cases false true false t = refl
rest_cases false false e t = clash t refl

mask_kept : (m a : Bool) → m & not (m & not a) ≡ m & a
unfolding ◌&◌
mask_kept true true = refl
mask_kept true false = refl
mask_kept false a = refl

-- row 0 + v is row v
row_base : (rows : Rel) (v x : ℕ) → rows v x ≡ rows (0 + v) x
row_base rows v x = let e : v ≡ 0 + v = omega arith in ap (λ (u : ℕ). rows u x) e

-- ---- successors by rows

module _ (B : ℕ) (G : Game) (edges : Rel) (s : EdgeSets B G edges) where
  pub next_any : (v : ℕ) → v < B → (q p : ℕ → Bool) → ((x : ℕ) → x < B → q x ≡ edges v x & p x) → any_below B q ≡ any_next G v p
  next_any v hv q p e =
      So_ext
      (λ t.
      let r = any_out t in
      let a = and_out (sym (e r.0 r.1) ∙ r.2) in
      let k = sym (s.next v r.0 hv r.1) ∙ a.0 in
      any_next_in G v p r.0 (record { inside = (s.inside v r.0 k).1; along = k }) a.1)
      (λ t.
      let r = any_next_out G v p t in
      let l : r.0 < B = omega (arith, s.small, r.1.inside) in
      any_in B q r.0 l (e r.0 l ∙ and_in (s.next v r.0 hv l ∙ r.1.along) r.2))

  -- the vertices with a successor in l
  pub near_is : (l : ℕ → Bool) (w : ℕ) → w < B → united_in B edges B l w ≡ any_next G w l
  unfolding united_in
  near_is l w h =
      So_ext
      (λ t.
      let r = any_out t in
      let a = and_out r.2 in
      let e = sym (s.back r.0 w r.1 h) ∙ a.1 in
      any_next_in G w l r.0 (record { inside = (s.inside w r.0 e).1; along = e }) a.0)
      (λ t.
      let r = any_next_out G w l t in
      let k : r.0 < B = omega (arith, s.small, r.1.inside) in
      any_in B _ r.0 k (and_in r.2 (s.back r.0 w k h ∙ r.1.along)))

  -- what has a successor is a vertex
  pub next_vertex : (p : ℕ → Bool) (w : ℕ) → So (any_next G w p) → w < G.n
  next_vertex p w t = let r = any_next_out G w p t in (s.inside w r.0 r.1.along).0

  -- ---- the fall of a row

  apart_is : (x : ℕ → Bool) (w : ℕ) → w < B → apart_in B edges w x ≡ not (any_next G w x)
  unfolding apart_in
  apart_is x w h = ap not (next_any w h _ x (λ y k. refl))

  -- of a mask, the vertices with a successor in l: what of them isn't apart from l
  pub near_apart : (l : ℕ → Bool) (m : Bool) (w : ℕ) → w < B → m & not (m & apart_in B edges w l) ≡ m & any_next G w l
  near_apart l m w h = rw (apart_is l w h) (mask_kept m (any_next G w l))

  pub fall_rows : (l x near odd : ℕ → Bool) (m : Bool) (w : ℕ) → w < B → odd w ≡ edges (2 * B) w
      → near w ≡ m & any_next G w l → falling_in B edges near odd x w ≡ m & fall G l x w
  unfolding fall
  fall_rows l x near odd m w h o e = rw (o, e, apart_is x w h) (elim (decide (any_next G w l)) [
    | inl t ↦ rw (s.odd w (next_vertex l w t)) (fall_cases m (any_next G w l) (own G even w) _)
    | inr f ↦ rw f (fall_empty m (edges (2 * B) w) (not (any_next G w x)) (imp (own G even w) (not (any_next G w x))))
  ])

  -- where l and x are all vertices, and each has an edge: all but those of Even's with a successor in x, and of Odd's with no other
  pub fall_rest : (l x near even' : ℕ → Bool) (w : ℕ) → w < B → Total G → Whole B G l x → near w ≡ any_next G w x
      → even' w ≡ (l w or x w) & not (edges (2 * B) w)
      → (l w or x w) & not (falling_in B edges near even' l w) ≡ fall G l x w
  unfolding fall
  fall_rest l x near even' w h total all n e = rw (n, e, apart_is l w h, all w h) (elim (decide (ltb w G.n)) [
    | inl t ↦ (let k = ltb-true w G.n t in
        rw (t, s.odd w k) (rest_cases (any_next G w l) (any_next G w x) (own G even w) (some k)))
    | inr f ↦ rw f (and_first _ refl ∙ sym (and_first _ (So_not (λ t. clash (lt-ltb w G.n (next_vertex l w t)) f))))
  ])
    where
      some : w < G.n → So (any_next G w l or any_next G w x)
      some k = let r = total w k in
          let y : r.0 < B = omega (arith, s.small, r.1.inside) in
          elim (or_out (all r.0 y ∙ lt-ltb r.0 G.n r.1.inside)) [
            | inl a ↦ or_left _ (any_next_in G w l r.0 r.1 a)
            | inr a ↦ or_right _ (any_next_in G w x r.0 r.1 a)
          ]

  -- ---- what a row loses

  -- the union of the rows of v's successors
  pub united_is : (words : Rel) (next : ℕ → Bool) (v x : ℕ) → v < B → Is B next (edges v) → united_in B words 0 next x ≡ united G words v x
  unfolding united_in united
  united_is words next v x hv e =
      next_any v hv _ (λ a. words a x) (λ a h. ap₂ ◌&◌ (e a h) (sym (row_base words a x)))

  -- the same of those that changed
  changed_is : (words : Rel) (which changed : ℕ → Bool) (v x : ℕ) → v < B → Is B which (λ a. edges v a & changed a)
      → united_in B words 0 which x ≡ united G (struck changed words) v x
  unfolding united_in united
  changed_is words which changed v x hv e =
      next_any v hv _ (λ a. changed a & words a x)
      (λ a h. ap₂ ◌&◌ (e a h) (sym (row_base words a x)) ∙ and_assoc _ _ _)

  module _ (related : Rel) (v : ℕ) (hv : v < B) where
    -- where the union of the successors' rows has all that was lost still, nothing is lost
    pub odd_none : (gone less : ℕ → Bool) → ((x : ℕ) → x < B → less x ≡ gone x & not (united G related v x))
        → any_below B less ≡ false → (w : ℕ) → odd_loss G related gone v w ≡ false
    unfolding odd_loss
    odd_none gone less f e w =
        and_fails (related v w) _ (fall_none G _ _ w (λ x h.
        let k : x < B = omega (arith, h, s.small) in
        sym (f x k) ∙ any_fails B less e x k))

    pub odd_some : (gone less left : ℕ → Bool) → ((x : ℕ) → x < B → less x ≡ gone x & not (united G related v x))
        → ((x : ℕ) → x < B → left x ≡ united G related v x)
        → (w : ℕ) → related v w & fall G less left w ≡ odd_loss G related gone v w
    unfolding odd_loss
    odd_some gone less left f e w =
        ap (λ b. related v w & b)
        (fall_same G _ _ _ _ w (λ x h. f x (omega (arith, h, s.small))) (λ x h. e x (omega (arith, h, s.small))))

    module _ (lost : Rel) (changed which : ℕ → Bool) (k : v < G.n) (e : Is B which (λ a. edges v a & changed a)) where
      pub loses_odd : (gone : ℕ → Bool) → ((x : ℕ) → x < B → gone x ≡ united_in B lost 0 which x) → So (edges (2 * B) v)
          → (w : ℕ) → odd_loss G related gone v w ≡ loses G related (struck changed lost) v w
      unfolding odd_loss loses fails united_lost
      loses_odd gone f o w =
          let n : own G even v ≡ false = not_out (sym (s.odd v k) ∙ o) in
          rw n
          (ap (λ b. related v w & b)
          (fall_same G _ _ _ _ w
          (λ x h.
          let l : x < B = omega (arith, h, s.small) in
          ap (λ b. b & not (united G related v x)) (f x l ∙ changed_is lost which changed v x hv e))
          (λ x h. refl)))

      pub loses_even : (falls : Rel) → FellIn B G related lost falls changed → edges (2 * B) v ≡ false
          → (w : ℕ) → w < B → related v w & united_in B falls 0 which w ≡ loses G related (struck changed lost) v w
      unfolding loses fails united
      loses_even falls f o w hw =
          rw own_v (elim (decide (related v w)) [
            | inl r ↦ ap (λ b. related v w & b) (changed_is falls which changed v w hv e ∙ any_same G v _ _ (each r))
            | inr n ↦ and_first _ n ∙ sym (and_first _ n)
          ])
        where
          own_v : So (own G even v)
          own_v = not_false (own G even v) (sym (s.odd v k) ∙ o)

          each : So (related v w) → (a : ℕ) → Succ G v a → struck changed falls a w ≡ fall G (struck changed lost a) (related a) w
          each r a t = elim (decide (changed a)) [
            | inl c ↦ (and_one _ c ∙ f v a w k t.inside hw c t.along own_v r
                ∙ fall_same G _ _ _ _ w (λ x h. sym (and_one _ c)) (λ x h. refl))
            | inr n ↦ and_first _ n ∙ sym (fall_none G _ _ w (λ x h. and_first _ n))
          ]

  -- only vertices are lost
  pub loses_vertex : (H lost : Rel) (v w : ℕ) → So (loses G H lost v w) → w < G.n
  unfolding loses fails fall
  loses_vertex H lost v w t = go (own G even v) (and_out t).1
    where
      go : (b : Bool)
          → So (cond b (any_next G v (λ a. any_next G w (lost a) & imp (own G even w) (not (any_next G w (H a)))))
          (any_next G w (united_lost G H lost v) & imp (own G even w) (not (any_next G w (united G H v)))))
          → w < G.n
      go true u = let r = any_next_out G v _ u in next_vertex (lost r.0) w (and_out r.2).0
      go false u = next_vertex (united_lost G H lost v) w (and_out u).0

-- ---- the losses of all vertices, one by one

module _ (B : ℕ) (p : Rel) (near : ℕ → Bool) where
  pub losses_start : (next : Rel) (losing : ℕ → Bool) → ((x : ℕ) → x < B → losing x ≡ false) → LossesIn B p near 0 next losing
  losses_start next losing z = record {
    rows = λ u h. absurd (omega arith);
    some = λ u h. z u h ∙ sym (kept_none near B (λ v. any_below B (p v)) u);
  }

  -- no vertex of `near` from k to i
  losses_skip : (k i : ℕ) (next : Rel) (losing : ℕ → Bool) → k ≤ i → ((u : ℕ) → k ≤ u → u < i → near u ≡ false) → LossesIn B p near k next losing
      → LossesIn B p near i next losing
  losses_skip k i next losing l none m = record {
    rows = members_skip near B _ k i none m.rows;
    some = λ u h. m.some u h ∙ kept_skip near B (λ v. any_below B (p v)) k i l none u;
  }

  pub losses_step : (v : ℕ) (next : Rel) (losing out : ℕ → Bool) (next' : Rel) (losing' : ℕ → Bool) (b : Bool) → So (near v) → LossesIn B p near v next losing → Is B out (p v)
      → PutIn B next next' v out → b ≡ any_below B out → With B losing losing' v b → LossesIn B p near (v + 1) next' losing'
  losses_step v next losing out next' losing' b on l e put k add = record {
    rows = members_step near B _ v
        (λ u h s x m. put.other u x (λ q. omega (arith, q, h)) m ∙ l.rows u h s x m)
        (λ x m. sym (put.here x m) ∙ e x m);
    some = λ u h.
        add u h
        ∙ ap₂ ◌or◌ (ap (λ c. eqb u v & c) (k ∙ any_ext B out (p v) e)) (l.some u h)
        ∙ kept_step near B (λ w. any_below B (p w)) v on u;
  }

  -- ---- a word of `near`, bit by bit

  module _ (base word : ℕ) (at : (k : ℕ) → k < word_bits → near (base + k) ≡ digit word k) where
    -- no bit from a to b
    none_between : (a b : ℕ) → b ≤ word_bits → ((k : ℕ) → a ≤ k → k < b → digit word k ≡ false) → (u : ℕ) → base + a ≤ u → u < base + b
        → near u ≡ false
    none_between a b h none u l m =
        let e : base + (u - base) ≡ u = omega arith in
        sym (ap near e) ∙ at (u - base) (omega arith) ∙ none (u - base) (omega arith) (omega arith)

    word_skip : (a b : ℕ) (next : Rel) (losing : ℕ → Bool) → a ≤ b → b ≤ word_bits → ((k : ℕ) → a ≤ k → k < b → digit word k ≡ false)
        → LossesIn B p near (base + a) next losing → LossesIn B p near (base + b) next losing
    word_skip a b next losing l h none = losses_skip (base + a) (base + b) next losing (omega arith) (none_between a b h none)

    pub word_start : (next : Rel) (losing : ℕ → Bool) → LossesIn B p near (base + 0) next losing → LossesIn B p near (base + lowest_bit word) next losing
    unfolding lowest_bit
    word_start next losing =
        word_skip 0 _ next losing (omega arith) (first_le (digit word) 0 word_bits (omega arith)) (first_before (digit word) 0 word_bits)

    -- the lowest bit that is left is done
    pub word_next : (left k r : ℕ) (next : Rel) (losing : ℕ → Bool) → Onward word left → Lowest left k → Rest left r
        → LossesIn B p near (base + k + 1) next losing → LossesIn B p near (base + lowest_bit r) next losing
    unfolding lowest_bit
    word_next left k r next losing o m e l =
        let h : base + k + 1 ≡ base + (k + 1) = omega arith in
        word_skip (k + 1) (lowest_bit r) next losing (omega (arith, rest_above left k r m e)) (first_le (digit r) 0 word_bits (omega arith))
        (λ i x y. onward_between left k r m e word o i (omega (arith, x)) y) (rw h at l)
