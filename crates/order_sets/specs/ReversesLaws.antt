-- Laws of losses that gain pairs: one pair, the bits of a word, a column, and the columns one by one.
use Rattle.std.specs.Prelude.{◌≡◌, Bool, not, ℕ, ◌+◌, ◌*◌, ◌<◌, eqb}
use Rattle.std.proofs.Math.Path.{refl, sym, ap}
use Rattle.std.proofs.Common.{ap₂, ◌∙◌, subst, inl, inr, arith, eqb-true, eq-eqb, ne_eqb}
use Rattle.std.proofs.Math.Bool.{true, false, So}
use Rattle.std.proofs.Math.Decide.{ℕ_discrete}
use Rattle.theory.specs.Logic.Bools.{◌&◌, ◌or◌}
use Rattle.theory.proofs.Logic.BoolsLaws.{clash, So_ext, and_in, and_out, and_true, and_one, or_left, or_right, or_out, or_first, or_false}
use Rattle.theory.specs.Logic.Range.{any_below, first}
use Rattle.theory.proofs.Logic.RangeLaws.{any_in, any_out, any_ext, any_append}
use Rattle.theory.specs.Order.Passes.{Rel}
use Rattle.theory.specs.Order.Rows.{mirrored_by}
use Rattle.words.specs.Word.{word_bits, digit, Lowest, Rest}
use Rattle.words.specs.LeftLaws.{Left, done, or_start, or_next, or_end}
use Rattle.order_sets.specs.Sets.{Is, With, PutIn, AddedIn, struck}
use Rattle.order_sets.specs.MembersLaws.{kept, kept_start, kept_next, kept_end}
use Rattle.order_sets.specs.Reverses.{MoreIn, one_pair, word_pairs, column_pairs, CompletedIn}

-- ---- one pair

-- a number that is added to a row
added : (B : ℕ) (old new : Rel) (v x : ℕ) → AddedIn B old new v x true → (u y : ℕ) → y < B → new u y ≡ (one_pair v x u y or old u y)
added B old new v x a u y h = a u y h ∙ ap (λ b. (eqb u v & b) or old u y) (and_true (eqb y x))

-- the row loses something already
pub pair_added : (B : ℕ) (next next' : Rel) (losing : ℕ → Bool) (w v : ℕ) → w < B → So (losing w) → AddedIn B next next' w v true
    → MoreIn B (one_pair w v) next losing next' losing
pair_added B next next' losing w v hw on a = record {
  pairs = λ u y hu hy. So_ext
      (λ t. let c = and_out t in elim (or_out (sym (added B next next' w v a u y hy) ∙ c.1)) [
        | inl p ↦ or_right _ p
        | inr q ↦ or_left _ (and_in c.0 q)
      ])
      (λ t. elim (or_out t) [
        | inl s ↦ (let c = and_out s in and_in c.0 (added B next next' w v a u y hy ∙ or_right _ c.1))
        | inr p ↦ and_in (subst (λ (i : ℕ). So (losing i)) (sym (eqb-true u w (and_out p).0)) on) (added B next next' w v a u y hy ∙ or_left _ p)
      ]);
  grows = λ u h t. t;
}

-- the row is a new one
pub pair_new : (B : ℕ) (next mid next' : Rel) (losing losing' zero : ℕ → Bool) (w v : ℕ) → w < B → losing w ≡ false → ((x : ℕ) → zero x ≡ false)
    → PutIn B next mid w zero → AddedIn B mid next' w v true → With B losing losing' w true → MoreIn B (one_pair w v) next losing next' losing'
pair_new B next mid next' losing losing' zero w v hw off none put a b = record {
  pairs = λ u y hu hy. So_ext (forth u y hu hy) (back u y hu hy);
  grows = λ u h t. member u h ∙ or_right _ t;
}
  where
    member : (u : ℕ) → u < B → losing' u ≡ (eqb u w or losing u)
    member u h = b u h ∙ ap (λ c. c or losing u) (and_true (eqb u w))

    forth : (u y : ℕ) → u < B → y < B → So (struck losing' next' u y) → So (struck losing next u y or one_pair w v u y)
    forth u y hu hy t = let c = and_out t in elim (or_out (sym (added B mid next' w v a u y hy) ∙ c.1)) [
      | inl p ↦ or_right _ p
      | inr q ↦ elim (ℕ_discrete u w) [
        | yes e ↦ clash (put.here y hy ∙ subst (λ (i : ℕ). So (mid i y)) e q) (none y)
        | no n ↦ or_left _ (and_in (sym (or_first _ (ne_eqb u w n)) ∙ sym (member u hu) ∙ c.0) (sym (put.other u y n hy) ∙ q))
      ]
    ]

    back : (u y : ℕ) → u < B → y < B → So (struck losing next u y or one_pair w v u y) → So (struck losing' next' u y)
    back u y hu hy t = elim (or_out t) [
      | inl s ↦ (let c = and_out s in elim (ℕ_discrete u w) [
        | yes e ↦ clash (subst (λ (i : ℕ). So (losing i)) e c.0) off
        | no n ↦ and_in (member u hu ∙ or_right _ c.0) (added B mid next' w v a u y hy ∙ or_right _ (put.other u y n hy ∙ c.1))
      ])
      | inr p ↦ and_in (member u hu ∙ or_left _ (and_out p).0) (added B mid next' w v a u y hy ∙ or_left _ p)
    ]

-- ---- the bits of a word

module _ (B : ℕ) (base which v : ℕ) (next : Rel) (losing : ℕ → Bool) where
  -- those that aren't left are losses
  abbrev pub WordTo : ℕ → Rel → (ℕ → Bool) → Type 0
  WordTo left next' losing' = MoreIn B (λ u y. done which (λ k. one_pair (base + k) v u y) left) next losing next' losing'

  pub word_start : WordTo which next losing
  word_start = record { pairs = λ u y hu hy. or_start which (λ k. one_pair (base + k) v u y) (struck losing next u y); grows = λ u h t. t }

  pub word_next : (left k r : ℕ) (next' : Rel) (losing' : ℕ → Bool) (next'' : Rel) (losing'' : ℕ → Bool) → Left which left → Lowest left k → Rest left r → WordTo left next' losing'
      → MoreIn B (one_pair (base + k) v) next' losing' next'' losing'' → WordTo r next'' losing''
  word_next left k r next' losing' next'' losing'' l m e s t = record {
    pairs = λ u y hu hy.
        t.pairs u y hu hy ∙ ap (λ b. b or one_pair (base + k) v u y) (s.pairs u y hu hy)
        ∙ or_next which (λ k. one_pair (base + k) v u y) left k r l m e (struck losing next u y);
    grows = λ u h o. t.grows u h (s.grows u h o);
  }

  pub word_end : (left : ℕ) (next' : Rel) (losing' : ℕ → Bool) → left ≡ 0 → WordTo left next' losing' → MoreIn B (word_pairs base which v) next losing next' losing'
  word_end left next' losing' e s = record {
    pairs = λ u y hu hy. s.pairs u y hu hy ∙ or_end which (λ k. one_pair (base + k) v u y) left e (struck losing next u y);
    grows = s.grows;
  }

-- ---- a column, word by word

module _ (B : ℕ) (which : ℕ → Bool) (v : ℕ) (next : Rel) (losing : ℕ → Bool) where
  -- the pairs of the first j words are losses
  abbrev pub ColumnTo : ℕ → Rel → (ℕ → Bool) → Type 0
  ColumnTo j next' losing' = MoreIn B (λ u y. any_below (j * 64) (λ a. which a & one_pair a v u y)) next losing next' losing'

  pub column_start : ColumnTo 0 next losing
  unfolding any_below
  column_start = record { pairs = λ u y hu hy. sym (or_false (struck losing next u y)); grows = λ u h t. t }

  or_three : (a b c : Bool) → ((a or b) or c) ≡ (a or (b or c))
  unfolding ◌or◌
  or_three true b c = refl
  or_three false b c = refl

  pub column_next : (j word : ℕ) (next' : Rel) (losing' : ℕ → Bool) (next'' : Rel) (losing'' : ℕ → Bool)
      → ((k : ℕ) → k < word_bits → which (j * 64 + k) ≡ digit word k) → ColumnTo j next' losing'
      → MoreIn B (word_pairs (j * 64) word v) next' losing' next'' losing'' → ColumnTo (j + 1) next'' losing''
  column_next j word next' losing' next'' losing'' at s t = record {
    pairs = λ u y hu hy.
        let e : (j + 1) * 64 ≡ j * 64 + 64 = omega arith in
        t.pairs u y hu hy
        ∙ ap₂ ◌or◌ (s.pairs u y hu hy) (any_ext 64 _ _ (λ k h. ap (λ b. b & one_pair (j * 64 + k) v u y) (sym (at k h))))
        ∙ or_three (struck losing next u y) _ _
        ∙ ap (λ b. struck losing next u y or b)
        (sym (ap (λ (i : ℕ). any_below i (λ a. which a & one_pair a v u y)) e ∙ any_append (j * 64) 64 _));
    grows = λ u h o. t.grows u h (s.grows u h o);
  }

  pub column_end : (j : ℕ) (next' : Rel) (losing' : ℕ → Bool) → j * 64 ≡ B → ColumnTo j next' losing' → MoreIn B (column_pairs which v) next losing next' losing'
  column_end j next' losing' e s = record {
    pairs = λ u y hu hy.
        s.pairs u y hu hy
        ∙ ap (λ b. struck losing next u y or b) (ap (λ (i : ℕ). any_below i (λ a. which a & one_pair a v u y)) e ∙ here u y hu);
    grows = s.grows;
  }
    where
      here : (u y : ℕ) → u < B → any_below B (λ a. which a & one_pair a v u y) ≡ column_pairs which v u y
      here u y hu =
          So_ext
          (λ t.
          let r = any_out t in
          let c = and_out r.2 in
          let d = and_out c.1 in
          and_in (subst (λ (i : ℕ). So (which i)) (sym (eqb-true u r.0 d.0)) c.0) d.1)
          (λ t. let c = and_out t in any_in B _ u hu (and_in c.0 (and_in (eq-eqb u u refl) c.1)))

-- ---- the columns of those that lost something, one by one

-- the reverses of the rows before v are losses
abbrev pub MirrorTo : ℕ → (ℕ → Bool) → Rel → (ℕ → Bool) → ℕ → Rel → (ℕ → Bool) → Type 0
MirrorTo B which next losing v next' losing' = MoreIn B (λ u y. kept which B (λ x. next x u) v y) next losing next' losing'

module _ (B : ℕ) (which : ℕ → Bool) (next : Rel) (losing : ℕ → Bool) (same : Is B which losing) where
  abbrev from : ℕ → ℕ
  from k = first which k B

  -- the losses before are `struck which next`
  old_is : (u y : ℕ) → u < B → struck losing next u y ≡ struck which next u y
  old_is u y hu = ap (λ b. b & next u y) (sym (same u hu))

  pub mirror_start : MirrorTo B which next losing (from 0) next losing
  mirror_start = record {
    pairs = λ u y hu hy.
        sym (ap (λ b. struck losing next u y or b) (kept_start which B (λ x. next x u) y) ∙ or_false (struck losing next u y));
    grows = λ u h t. t;
  }

  pub mirror_next : (v : ℕ) (next' : Rel) (losing' : ℕ → Bool) (next'' : Rel) (losing'' lost : ℕ → Bool) → v < B → So (which v) → MirrorTo B which next losing v next' losing'
      → Is B lost (next' v) → MoreIn B (column_pairs lost v) next' losing' next'' losing'' → MirrorTo B which next losing (from (v + 1)) next'' losing''
  mirror_next v next' losing' next'' losing'' lost hv on s e t = record {
    pairs = λ u y hu hy.
        t.pairs u y hu hy
        ∙ ap₂ ◌or◌ (s.pairs u y hu hy) (ap (λ b. b & eqb y v) (row u hu))
        ∙ joined u y hu
        ∙ ap (λ b. struck losing next u y or b) (kept_next which B (λ x. next x u) v on y);
    grows = λ u h o. t.grows u h (s.grows u h o);
  }
    where
      loses_v : So (losing' v)
      loses_v = s.grows v hv (sym (same v hv) ∙ on)

      -- row v: its losses, and the reverses before
      row : (u : ℕ) → u < B → lost u ≡ (struck losing next v u or kept which B (λ x. next x v) v u)
      row u hu = e u hu ∙ sym (and_one (next' v u) loses_v) ∙ s.pairs v u hv hu

      joined : (u y : ℕ) → u < B
          → ((struck losing next u y or kept which B (λ x. next x u) v y)
          or ((struck losing next v u or kept which B (λ x. next x v) v u) & eqb y v))
          ≡ (struck losing next u y or ((eqb y v & next v u) or kept which B (λ x. next x u) v y))
      joined u y hu =
          So_ext
          (λ t. elim (or_out t) [
            | inl a ↦ elim (or_out a) [ inl b ↦ or_left _ b | inr b ↦ or_right _ (or_right _ b) ]
            | inr a ↦ (let c = and_out a in elim (or_out c.0) [
              | inl b ↦ or_right _ (or_left _ (and_in c.1 (and_out b).1))
              | inr b ↦ or_left _ (old_is u y hu ∙ subst (λ (i : ℕ). So (struck which next u i)) (sym (eqb-true y v c.1)) (and_out b).1)
            ])
          ])
          (λ t. elim (or_out t) [
            | inl a ↦ or_left _ (or_left _ a)
            | inr a ↦ elim (or_out a) [
              | inl b ↦ (let c = and_out b in or_right _ (and_in (or_left _ (old_is v u hv ∙ and_in on c.1)) c.0))
              | inr b ↦ or_left _ (or_right _ b)
            ]
          ])

  pub mirror_end : (mirror : Bool) → not mirror ≡ false → (v : ℕ) (next' : Rel) (losing' : ℕ → Bool) → v ≡ B → MirrorTo B which next losing v next' losing'
      → CompletedIn B mirror next losing next' losing'
  unfolding mirrored_by
  mirror_end false m v next' losing' e s u y hu hy = clash refl m
  mirror_end true m v next' losing' e s u y hu hy =
      s.pairs u y hu hy
      ∙ ap (λ b. struck losing next u y or b)
      (ap (λ (i : ℕ). kept which B (λ x. next x u) i y) e
      ∙ kept_end which B (λ x. next x u) B (omega arith) y hy ∙ sym (old_is y u hy))

-- no reverses are asked
pub mirror_none : (B : ℕ) (mirror : Bool) → So (not mirror) → (next : Rel) (losing : ℕ → Bool) → CompletedIn B mirror next losing next losing
unfolding mirrored_by
mirror_none B false m next losing u y hu hy = refl
mirror_none B true m next losing u y hu hy = clash m refl
