-- Laws of losses that are taken out of a relation, row by row, and counted.
use Rattle.std.specs.Prelude.{◌≡◌, refl, Bool, false, not, ℕ, ◌+◌, ◌-◌, ◌*◌, ◌≤◌, ◌<◌}
use Rattle.std.proofs.Math.Path.{sym}
use Rattle.std.proofs.Common.{ap, ap₂, ◌∙◌, subst, inl, inr, arith, eq-eqb, ne_eqb, le-ltb}
use Rattle.std.proofs.Math.Bool.{So}
use Rattle.std.proofs.Math.Decide.{ℕ_discrete}
use Rattle.std.proofs.Math.Arith.{digits_div, digits_mod}
use Rattle.theory.specs.Logic.Bools.{◌&◌, ◌or◌}
use Rattle.theory.proofs.Logic.BoolsLaws.{decide, clash, So_ext, So_not, and_in, and_out, and_fails, and_true, or_false, not_in, not_out, and_one, and_first, or_first}
use Rattle.theory.specs.Logic.Range.{any_below, first, count, sum}
use Rattle.theory.proofs.Logic.RangeLaws.{any_in, any_fails, first_ge, first_before}
use Rattle.theory.proofs.Logic.CountLaws.{count_ext, count_none, count_append}
use Rattle.theory.proofs.Logic.SumLaws.{sum_none, sum_next, sum_ext, sum_skip, count_rows}
use Rattle.theory.specs.Order.Passes.{Rel}
use Rattle.theory.specs.Games.Game.{even, Game, own}
use Rattle.theory.specs.Order.Rounds.{cleared}
use Rattle.theory.specs.Order.Rows.{fall}
use Rattle.theory.proofs.Order.RowsLaws.{fall_same}
use Rattle.order_sets.specs.Sets.{Is, PutIn, united_in, struck}
use Rattle.order_sets.specs.MembersLaws.{kept, kept_start, kept_next, members_start, members_next}
use Rattle.order_sets.specs.Losses.{EdgeSets}
use Rattle.order_sets.specs.Removal.{AskedFall, TakenRow, TakenIn}

-- ---- one row

pub row_asked : (B : ℕ) (edges : Rel) (out before left fallen p : ℕ → Bool) (a c : ℕ) (related lost falls related' lost' falls' : Rel) → Is B out p
    → c ≡ count B out → Is B before (related a) → Is B left (λ x. before x & not (out x))
    → ((G : Game) → EdgeSets B G edges → AskedFall B G related' a out left fallen)
    → PutIn B related related' a left → PutIn B lost lost' a out → PutIn B falls falls' a fallen
    → TakenRow B edges p a related lost falls c related' lost' falls'
row_asked B edges out before left fallen p a c related lost falls related' lost' falls' e k b l f ph pl pf = record {
  size = k ∙ count_ext B out p e;
  left = λ x h. sym (ph.here x h) ∙ l x h ∙ ap₂ (λ y z. y & not z) (b x h) (e x h);
  loss = λ x h. sym (pl.here x h) ∙ e x h;
  fallen = λ G s v w hv h t o r.
      sym (pf.here w h) ∙ f G s v w hv h t o r
      ∙ fall_same G _ _ _ _ w (λ x m. e x (omega (arith, m, s.small))) (λ x m. ph.here x (omega (arith, m, s.small)));
  related_others = ph.other;
  lost_others = pl.other;
  falls_others = pf.other;
}

-- the fall is there for a mask that holds what is asked for
pub row_taken : (B : ℕ) (edges : Rel) (out before left fallen p mask : ℕ → Bool) (a c : ℕ) (related lost falls related' lost' falls' : Rel) → Is B out p
    → c ≡ count B out → Is B before (related a) → Is B left (λ x. before x & not (out x))
    → ((G : Game) → EdgeSets B G edges
    → ((v w : ℕ) → v < G.n → w < B → So (G.edge v a) → So (own G even v) → So (related' v w) → So (mask w))
    × ((w : ℕ) → w < B → So (mask w) → fallen w ≡ fall G out left w))
    → PutIn B related related' a left → PutIn B lost lost' a out → PutIn B falls falls' a fallen
    → TakenRow B edges p a related lost falls c related' lost' falls'
row_taken B edges out before left fallen p mask a c related lost falls related' lost' falls' e k b l f =
    row_asked B edges out before left fallen p a c related lost falls related' lost' falls' e k b l
    (λ G s v w hv h t o r. (f G s).1 w h ((f G s).0 v w hv h t o r))

-- Even's predecessors of a
evens_are : (B : ℕ) (G : Game) (edges : Rel) (evens : ℕ → Bool) (a : ℕ) → a < B → EdgeSets B G edges
    → Is B evens (λ v. edges (B + a) v & not (edges (2 * B) v)) → (v : ℕ) → v < G.n → So (G.edge v a) → So (own G even v) → (v < B) × So (evens v)
evens_are B G edges evens a ha s e v hv t o =
    let hb : v < B = omega (arith, hv, s.small) in
    (hb, e v hb ∙ and_in (s.back a v ha hb ∙ t) (ap not (s.odd v hv) ∙ ap (λ b. not (not b)) o))

-- the union of their rows holds all that they ask for
pub asking_covers : (B : ℕ) (G : Game) (edges related : Rel) (evens asking : ℕ → Bool) (a : ℕ) → a < B → EdgeSets B G edges
    → Is B evens (λ v. edges (B + a) v & not (edges (2 * B) v)) → Is B asking (united_in B related 0 evens)
    → (v w : ℕ) → v < G.n → w < B → So (G.edge v a) → So (own G even v) → So (related v w) → So (asking w)
unfolding united_in
asking_covers B G edges related evens asking a ha s e k v w hv hw t o r =
    let p = evens_are B G edges evens a ha s e v hv t o in
    let i : v ≡ 0 + v = omega arith in
    k w hw ∙ any_in B _ v p.0 (and_in p.1 (subst (λ (u : ℕ). So (related u w)) i r))

-- where there are none, nothing is asked for
pub none_asked : (B : ℕ) (G : Game) (edges related : Rel) (evens l x fallen : ℕ → Bool) (a : ℕ) → a < B → EdgeSets B G edges
    → Is B evens (λ v. edges (B + a) v & not (edges (2 * B) v)) → any_below B evens ≡ false → AskedFall B G related a l x fallen
none_asked B G edges related evens l x fallen a ha s e none v w hv hw t o r =
    let p = evens_are B G edges evens a ha s e v hv t o in
    clash p.1 (any_fails B evens none v p.0)

-- ---- row by row

module _ (B : ℕ) (edges next : Rel) (losing : ℕ → Bool) (old : Rel) where
  abbrev from : ℕ → ℕ
  from k = first losing k B

  -- a row that isn't among those of `losing` holds nothing of theirs
  skipped : (u : ℕ) → losing u ≡ false → count B (struck losing next u) ≡ 0
  skipped u e = count_none B _ (λ x h. and_first _ e)

  pub taken_start : (lost falls : Rel) → TakenIn B edges next losing (from 0) old 0 old lost falls
  taken_start lost falls = record {
    size = sum_none _ ∙ sym (sum_skip _ 0 (from 0) (omega arith) (λ u h k. skipped u (first_before losing 0 B u h k)));
    left = λ u x h k. sym (ap (λ b. old u x & not b) (kept_start losing B (λ v. next v x) u) ∙ and_true (old u x));
    loss = members_start losing B _;
    fallen = λ G s. members_start losing B _;
  }

  module _ (a : ℕ) (on : So (losing a)) (ha : a < B) (c d : ℕ) (related lost falls related' lost' falls' : Rel)
      (t : TakenIn B edges next losing a old c related lost falls) (r : TakenRow B edges (next a) a related lost falls d related' lost' falls') where
    -- what is taken out with row a: of that row, and of another
    here : (x : ℕ) → kept losing B (λ v. next v x) (from (a + 1)) a ≡ next a x
    here x =
        sym (kept_next losing B (λ v. next v x) a on a)
        ∙ ap₂ ◌or◌ (and_one (next a x) (eq-eqb a a refl)) (and_first _ (le-ltb a a (omega arith))) ∙ or_false (next a x)

    other : (u x : ℕ) → (u ≡ a → ⊥)
        → kept losing B (λ v. next v x) (from (a + 1)) u ≡ kept losing B (λ v. next v x) a u
    other u x n = sym (kept_next losing B (λ v. next v x) a on u) ∙ or_first _ (and_first _ (ne_eqb u a n))

    -- row a was whole
    whole : (x : ℕ) → x < B → related a x ≡ old a x
    whole x h = t.left a x ha h ∙ ap (λ b. old a x & not b) (and_first _ (le-ltb a a (omega arith))) ∙ and_true (old a x)

    by_row : (P : ℕ → Type 0) (u : ℕ) → P a → ((u ≡ a → ⊥) → P u) → P u
    by_row P u p q = elim (ℕ_discrete u a) [ yes e ↦ subst P (sym e) p | no n ↦ q n ]

    earlier : (u : ℕ) → u < a → u ≡ a → ⊥
    earlier u h e = omega arith

    -- rows only shrink
    shrinks : (v w : ℕ) → v < B → w < B → So (related' v w) → So (related v w)
    shrinks v w hv hw q = elim (ℕ_discrete v a) [
      | yes i ↦ (let o = subst (λ (i : ℕ). So (related' i w)) i q in
          subst (λ (i : ℕ). So (related i w)) (sym i) (and_out (sym (r.left w hw) ∙ o)).0)
      | no n ↦ sym (r.related_others v w n hw) ∙ q
    ]

    pub taken_next : TakenIn B edges next losing (from (a + 1)) old (c + d) related' lost' falls'
    taken_next = record {
      size =
          ap₂ ◌+◌ t.size (r.size ∙ count_ext B _ _ (λ x h. sym (and_one (next a x) on)))
          ∙ sym (sum_skip _ (a + 1) (from (a + 1)) (first_ge losing (a + 1) B)
          (λ u h k. skipped u (first_before losing (a + 1) B u h k)) ∙ sum_next _ a);
      left = λ u x h k.
          by_row (λ u. related' u x ≡ old u x & not (kept losing B (λ v. next v x) (from (a + 1)) u)) u
          (r.left x k ∙ ap₂ (λ b d. b & not d) (whole x k) (sym (here x)))
          (λ n. r.related_others u x n k ∙ t.left u x h k ∙ ap (λ b. old u x & not b) (sym (other u x n)));
      loss =
          members_next losing B _ a (λ u h s x k. r.lost_others u x (earlier u h) k ∙ t.loss u h s x k) r.loss;
      fallen = λ G s.
          members_next losing B _ a
          (λ u h o v w hv k y z q.
          r.falls_others u w (earlier u h) k ∙ t.fallen G s u h o v w hv k y z (shrinks v w (omega (arith, hv, s.small)) k q)
          ∙ fall_same G _ _ _ _ w (λ x l. refl) (λ x l. sym (r.related_others u x (earlier u h) (omega (arith, l, s.small)))))
          (r.fallen G s);
    }

-- ---- how many pairs are taken out

module _ (B : ℕ) (n : ℕ) (H H' out : Rel) (small : n ≤ B) (left : (v w : ℕ) → v < n → w < n → H' v w ≡ H v w & not (out v w))
    (inside : (v w : ℕ) → v < n → w < n → So (out v w) → So (H v w))
    (rows : (v w : ℕ) → v < B → w < B → So (out v w) → (v < n) × (w < n)) where
  is_out : (v w : ℕ) → v < n → w < n → out v w ≡ H v w & not (H' v w)
  is_out v w hv hw =
      So_ext
      (λ t. and_in (inside v w hv hw t) (not_in (left v w hv hw ∙ and_fails _ _ (ap not t))))
      (λ t. let c = and_out t in elim (decide (out v w)) [
        | inl o ↦ o
        | inr f ↦ clash (left v w hv hw ∙ and_in c.0 (not_in f)) (not_out c.1)
      ])

  in_row : (v : ℕ) → v < n → count B (out v) ≡ count n (out v)
  in_row v hv =
      let e : B ≡ n + (B - n) = omega arith in
      let none : count (B - n) (λ i. out v (n + i)) ≡ 0 =
      count_none (B - n) (λ i. out v (n + i)) (λ i h. So_not (λ t. let c = (rows v (n + i) (omega arith) (omega arith) t).1 in omega arith)) in
      ap (λ (k : ℕ). count k (out v)) e ∙ count_append n (B - n) (out v) ∙ omega (arith, none)

  pub out_count : sum B (λ v. count B (out v)) ≡ cleared n H H'
  unfolding cleared
  out_count =
      sum_skip _ n B small (λ v h k. count_none B (out v) (λ w l. So_not (λ t. let c = (rows v w k l t).0 in omega arith)))
      ∙ sum_ext n _ _ (λ v h. in_row v h ∙ count_ext n _ _ (λ w k. is_out v w h k ∙ rw (digits_div v k, digits_mod v k)))
      ∙ sym (count_rows n n _)
