-- Laws of rows: the pair test by rows is the pair test (`test_rows`); under all pairs every pair passes (`fallen_start`); a round takes out
-- what fails under the rows before it (`round_passes`), so that the next can follow (`fallen_next`, `mirrored_next`), and no row whose successors
-- lost nothing changes (`loses_none`). So rounds are the passes of either relation (`round_start`, `round_next`, `last_count`, `last_left`).
use Rattle.std.specs.Prelude.{◌≡◌, ◌⊎◌, Bool}
use Rattle.std.proofs.Math.Path.{refl, sym, ap, ap₂}
use Rattle.std.proofs.Common.{◌∙◌}
use Rattle.std.proofs.Math.Logic.{inl, inr}
use Rattle.std.proofs.Math.Bool.{true, false, not, cond, So}
use Prim.Native.Nat.{ℕ, ◌+◌, ◌*◌, ◌<◌}
use Rattle.theory.specs.Logic.Range.{sum}
use Rattle.theory.specs.Logic.Bools.{◌&◌, ◌or◌, imp}
use Rattle.theory.proofs.Logic.BoolsLaws.{decide, clash, So_ext, eqb_flip, So_not, not_in, not_out, and_in, and_out, and_one, imp_in, imp_out, or_left, or_right, or_out, or_flip}
use Rattle.theory.specs.Order.Passes.{Marks, Rel, marked, largest}
use Rattle.theory.specs.Games.Game.{even, Game, own, Succ, Total}
use Rattle.theory.specs.Order.Order.{all_next, any_next, moves, equal_priority, test, marks_between, order_marks, order, order_passes}
use Rattle.theory.proofs.Order.OrderLaws.{all_next_in, all_next_out, any_next_in, any_next_out, test_same}
use Rattle.theory.specs.Order.Governed.{governed_test, test_by, marks_by, passes_by}
use Rattle.theory.proofs.Order.GovernedLaws.{passes_by_lem, marks_by_lem}
use Rattle.theory.specs.Order.Rounds.{cleared, relation_size, cleared_by}
use Rattle.theory.proofs.Order.RoundsLaws.{after_start, after_next, round_clears, last_passes, last_marks, counts_add}
use Rattle.theory.specs.Order.Rows.{cpre, united, row_test, fall, united_lost, fails, loses, mirrored_by, taken, Fallen, Round, Mirrored, AfterRound}

-- the pairs of either
abbrev both : Rel → Rel → Rel
both H K v w = H v w or K v w

-- ---- Bools

and_rest : (a b : Bool) → a & b ≡ false → So a → b ≡ false
unfolding ◌&◌
and_rest true b e t = e
and_rest false b e t = clash t refl

and_none : (a b : Bool) → (So a → b ≡ false) → a & b ≡ false
unfolding ◌&◌
and_none true b f = f refl
and_none false b f = refl

and_under : (a : Bool) {b c : Bool} → (So a → b ≡ c) → a & b ≡ a & c
unfolding ◌&◌
and_under true f = f refl
and_under false f = refl

neither : (a b : Bool) → not a & not b ≡ not (a or b)
unfolding ◌&◌ ◌or◌
neither true b = refl
neither false b = refl

-- a is what b is not
opposite : {a : Bool} (b : Bool) → (So a → So b → ⊥) → (a ≡ false → So b) → a ≡ not b
opposite {a} b f h = So_ext (λ t. not_in (So_not (f t))) (λ t. elim (decide a) [ inl s ↦ s | inr e ↦ clash (h e) (not_out t) ])

-- two relations that agree on a pair and its reverse
pub mirrored_by_same : (mirror : Bool) (H K : Rel) (v w : ℕ) → H v w ≡ K v w → H w v ≡ K w v → mirrored_by mirror H v w ≡ mirrored_by mirror K v w
unfolding mirrored_by
mirrored_by_same false H K v w e f = e
mirrored_by_same true H K v w e f = ap₂ ◌or◌ e f

-- a pair of either is one of H, or its reverse is
pub mirrored_by_out : (mirror : Bool) (H : Rel) (v w : ℕ) → So (mirrored_by mirror H v w) → So (H v w) ⊎ So (H w v)
unfolding mirrored_by
mirrored_by_out false H v w t = inl t
mirrored_by_out true H v w t = or_out t

-- ---- each and some successor

module _ (g : Game) where
  pub any_same : (v : ℕ) (p q : ℕ → Bool) → ((x : ℕ) → Succ g v x → p x ≡ q x) → any_next g v p ≡ any_next g v q
  any_same v p q e =
      So_ext
      (λ t. let r = any_next_out g v p t in any_next_in g v q r.0 r.1 (sym (e r.0 r.1) ∙ r.2))
      (λ t. let r = any_next_out g v q t in any_next_in g v p r.0 r.1 (e r.0 r.1 ∙ r.2))

  all_same : (v : ℕ) (p q : ℕ → Bool) → ((x : ℕ) → Succ g v x → p x ≡ q x) → all_next g v p ≡ all_next g v q
  all_same v p q e =
      So_ext
      (λ t. all_next_in g v q (λ x s. sym (e x s) ∙ all_next_out g v p t x s))
      (λ t. all_next_in g v p (λ x s. e x s ∙ all_next_out g v q t x s))

  -- some of v's and some of w's, in either sequence
  any_swap : (H : Rel) (v w : ℕ) → any_next g v (λ x. any_next g w (H x)) ≡ any_next g w (λ y. any_next g v (λ x. H x y))
  any_swap H v w =
      So_ext
      (λ t.
      let r = any_next_out g v _ t in
      let q = any_next_out g w _ r.2 in
      any_next_in g w _ q.0 q.1 (any_next_in g v _ r.0 r.1 q.2))
      (λ t.
      let r = any_next_out g w _ t in
      let q = any_next_out g v _ r.2 in
      any_next_in g v _ q.0 q.1 (any_next_in g w _ r.0 r.1 q.2))

  -- ---- the test by rows

  pub test_rows : (H : Rel) (v w : ℕ) → test even g g H v w ≡ row_test g H v w
  unfolding test moves row_test cpre united
  test_rows H v w = go (own g even v) (own g even w)
    where
      go : (a b : Bool)
          → moves a b g g H v w
          ≡ cond a (all_next g v (λ x. cond b (any_next g w (H x)) (all_next g w (H x))))
          (cond b (any_next g w (λ y. any_next g v (λ x. H x y))) (all_next g w (λ y. any_next g v (λ x. H x y))))
      go true true = refl
      go true false = refl
      go false true = any_swap H v w
      go false false = refl

  pub cpre_same : (X Y : ℕ → Bool) (w : ℕ) → ((x : ℕ) → x < g.n → X x ≡ Y x) → cpre g X w ≡ cpre g Y w
  unfolding cpre
  cpre_same X Y w e = rw (any_same w X Y (λ x s. e x s.inside), all_same w X Y (λ x s. e x s.inside))

  -- ---- the fall of a row: X is left of X and L, which are apart

  -- it goes by the vertices alone
  pub fall_same : (L X L' X' : ℕ → Bool) (w : ℕ) → ((x : ℕ) → x < g.n → L x ≡ L' x) → ((x : ℕ) → x < g.n → X x ≡ X' x) → fall g L X w ≡ fall g L' X' w
  unfolding fall
  fall_same L X L' X' w l x = rw (any_same w L L' (λ y s. l y s.inside), any_same w X X' (λ y s. x y s.inside))

  -- where nothing is taken out, nothing falls
  pub fall_none : (L X : ℕ → Bool) (w : ℕ) → ((x : ℕ) → x < g.n → L x ≡ false) → fall g L X w ≡ false
  unfolding fall
  fall_none L X w e = So_not (λ t. let r = any_next_out g w L (and_out t).0 in clash r.2 (e r.0 r.1.inside))

  pub fall_is : (L X : ℕ → Bool) (w : ℕ) → ((x : ℕ) → x < g.n → So (L x) → X x ≡ false) → So (cpre g (λ x. X x or L x) w)
      → cpre g X w ≡ not (fall g L X w)
  unfolding cpre fall
  fall_is L X w apart t = go (own g even w) t
    where
      some : So (any_next g w (λ x. X x or L x)) → any_next g w X ≡ false → So (any_next g w L)
      some s f = let r = any_next_out g w _ s in elim (or_out r.2) [
        | inl a ↦ clash (any_next_in g w X r.0 r.1 a) f
        | inr b ↦ any_next_in g w L r.0 r.1 b
      ]

      each : So (all_next g w (λ x. X x or L x)) → any_next g w L ≡ false → So (all_next g w X)
      each s f = all_next_in g w X (λ x h. elim (or_out (all_next_out g w _ s x h)) [ inl a ↦ a | inr b ↦ clash (any_next_in g w L x h b) f ])

      go : (b : Bool) → So (cond b (any_next g w (λ x. X x or L x)) (all_next g w (λ x. X x or L x)))
          → cond b (any_next g w X) (all_next g w X) ≡ not (any_next g w L & imp b (not (any_next g w X)))
      go true s =
          opposite (any_next g w L & imp true (not (any_next g w X))) (λ a f. clash a (not_out (imp_out (and_out f).1 refl)))
          (λ e. and_in (some s e) (imp_in (λ h. not_in e)))
      go false s =
          opposite (any_next g w L & imp false (not (any_next g w X)))
          (λ a f. let r = any_next_out g w L (and_out f).0 in clash (all_next_out g w X a r.0 r.1) (apart r.0 r.1.inside r.2))
          (λ e.
          let l : So (any_next g w L) = elim (decide (any_next g w L)) [ inl a ↦ a | inr f ↦ clash (each s f) e ] in
          and_in l (imp_in (λ h. clash h refl)))

  -- ---- what fails in a round

  module _ (H lost : Rel) (f : Fallen g H lost) (v w : ℕ) (hv : v < g.n) (hw : w < g.n) where
    -- the union of the rows of v's successors is what is left of it and what it lost
    union : (x : ℕ) → united g (both H lost) v x ≡ (united g H v x or united_lost g H lost v x)
    unfolding united united_lost
    union x =
        So_ext
        (λ t. let r = any_next_out g v _ t in elim (or_out r.2) [
          | inl a ↦ or_left _ (any_next_in g v _ r.0 r.1 a)
          | inr b ↦ elim (decide (any_next g v (λ a. H a x))) [
            | inl a ↦ or_left _ a
            | inr e ↦ or_right _ (and_in (any_next_in g v _ r.0 r.1 b) (not_in e))
          ]
        ])
        (λ t. elim (or_out t) [
          | inl a ↦ (let r = any_next_out g v _ a in any_next_in g v _ r.0 r.1 (or_left _ r.2))
          | inr b ↦ (let r = any_next_out g v _ (and_out b).0 in any_next_in g v _ r.0 r.1 (or_right _ r.2))
        ])

    round_fails : So (H v w) → test even g g H v w ≡ not (fails g H lost v w)
    unfolding row_test fails
    round_fails t = test_rows H v w ∙ go (own g even v) (sym (test_rows (both H lost) v w) ∙ f.passed v w hv hw t)
      where
        go : (b : Bool) → So (cond b (all_next g v (λ a. cpre g (both H lost a) w)) (cpre g (united g (both H lost) v) w))
            → cond b (all_next g v (λ a. cpre g (H a) w)) (cpre g (united g H v) w)
            ≡ not (cond b (any_next g v (λ a. fall g (lost a) (H a) w)) (fall g (united_lost g H lost v) (united g H v) w))
        go true s =
            let each : (a : ℕ) → Succ g v a → cpre g (H a) w ≡ not (fall g (lost a) (H a) w) =
            λ a h. fall_is (lost a) (H a) w (λ x k l. f.apart a x h.inside k l) (all_next_out g v _ s a h) in
            opposite (any_next g v (λ a. fall g (lost a) (H a) w))
            (λ a b. let r = any_next_out g v _ b in clash r.2 (not_out (sym (each r.0 r.1) ∙ all_next_out g v _ a r.0 r.1)))
            (λ e. elim (decide (any_next g v (λ a. fall g (lost a) (H a) w))) [
              | inl a ↦ a
              | inr b ↦ clash (all_next_in g v _ (λ a h. each a h ∙ not_in (So_not (λ l. clash (any_next_in g v _ a h l) b)))) e
            ])
        go false s =
            fall_is (united_lost g H lost v) (united g H v) w (λ x k l. not_out (unfold united_lost in (and_out l).1))
            (sym (cpre_same _ _ w (λ x k. union x)) ∙ s)

  -- what is lost goes by the vertices alone
  pub loses_same : (H lost lost' : Rel) → ((a x : ℕ) → a < g.n → x < g.n → lost a x ≡ lost' a x) → (v w : ℕ) → loses g H lost v w ≡ loses g H lost' v w
  unfolding loses fails united_lost united
  loses_same H lost lost' e v w = rw (
    any_same v (λ a. fall g (lost a) (H a) w) (λ a. fall g (lost' a) (H a) w) (λ a s. fall_same _ _ _ _ w (λ x h. e a x s.inside h) (λ x h. refl)),
    fall_same (λ x. any_next g v (λ a. lost a x) & not (any_next g v (λ a. H a x))) (λ x. any_next g v (λ a. H a x)) _ _ w
        (λ x h. ap (λ b. b & not (any_next g v (λ a. H a x))) (any_same v (λ a. lost a x) (λ a. lost' a x) (λ a s. e a x s.inside h))) (λ x h. refl),
  )

  -- a row no successor of which lost anything loses nothing
  pub loses_none : (H lost : Rel) (v : ℕ) → ((a x : ℕ) → Succ g v a → x < g.n → lost a x ≡ false) → (w : ℕ) → loses g H lost v w ≡ false
  unfolding loses fails fall united_lost united
  loses_none H lost v none w = and_none (H v w) _ (λ h. go (own g even v))
    where
      alone : (X : ℕ → Bool) (a : ℕ) → Succ g v a → any_next g w (lost a) ≡ false
      alone X a s = So_not (λ t. let r = any_next_out g w _ t in clash r.2 (none a r.0 s r.1.inside))

      go : (b : Bool)
          → cond b (any_next g v (λ a. any_next g w (lost a) & imp (own g even w) (not (any_next g w (H a)))))
          (any_next g w (λ x. any_next g v (λ a. lost a x) & not (any_next g v (λ a. H a x)))
          & imp (own g even w) (not (any_next g w (λ x. any_next g v (λ a. H a x)))))
          ≡ false
      go true = So_not (λ t. let r = any_next_out g v _ t in clash (and_out r.2).0 (alone (H v) r.0 r.1))
      go false = So_not (λ t.
          let r = any_next_out g w _ (and_out t).0 in
          let q = any_next_out g v _ (and_out r.2).0 in
          clash q.2 (none q.0 r.0 q.1 r.1.inside))

  -- ---- from round to round

  -- under all pairs every pair passes, since every vertex has a successor
  module _ (total : Total g) where
    cpre_all : (X : ℕ → Bool) → ((x : ℕ) → x < g.n → So (X x)) → (w : ℕ) → w < g.n → So (cpre g X w)
    unfolding cpre
    cpre_all X f w hw = go (own g even w)
      where
        go : (b : Bool) → So (cond b (any_next g w X) (all_next g w X))
        go true = let r = total w hw in any_next_in g w X r.0 r.1 (f r.0 r.1.inside)
        go false = all_next_in g w X (λ x s. f x s.inside)

    all_pass : (K : Rel) → ((x y : ℕ) → x < g.n → y < g.n → So (K x y)) → (v w : ℕ) → v < g.n → w < g.n → So (test even g g K v w)
    unfolding row_test united
    all_pass K k v w hv hw = test_rows K v w ∙ go (own g even v)
      where
        go : (b : Bool) → So (cond b (all_next g v (λ a. cpre g (K a) w)) (cpre g (λ x. any_next g v (λ a. K a x)) w))
        go true = all_next_in g v _ (λ a s. cpre_all (K a) (λ x h. k a x s.inside h) w hw)
        go false = let r = total v hv in cpre_all _ (λ x h. any_next_in g v (λ a. K a x) r.0 r.1 (k r.0 x r.1.inside h)) w hw

    -- all that isn't in H was taken out
    pub fallen_start : (H lost : Rel) → ((v w : ℕ) → v < g.n → w < g.n → lost v w ≡ not (H v w)) → Fallen g H lost
    fallen_start H lost e = record {
      apart = λ v w hv hw t. not_out (sym (e v w hv hw) ∙ t);
      passed = λ v w hv hw t.
          all_pass (both H lost)
          (λ x y hx hy. elim (decide (H x y)) [ inl a ↦ or_left _ a | inr f ↦ or_right _ (e x y hx hy ∙ not_in f) ]) v w hv hw;
    }

  -- ---- either relation

  -- the tests of both relations go by the pairs of vertices alone
  pub test_by_same : (mirror : Bool) (H K : Rel) (v w : ℕ) → ((x y : ℕ) → x < g.n → y < g.n → H x y ≡ K x y) → test_by mirror g H v w ≡ test_by mirror g K v w
  unfolding test_by governed_test
  test_by_same false H K v w e = test_same g H K v w e
  test_by_same true H K v w e = ap₂ ◌&◌ (test_same g H K v w e) (test_same g H K w v e)

  -- they ask the test of the pair
  test_by_test : (mirror : Bool) (H : Rel) (v w : ℕ) → So (test_by mirror g H v w) → So (test even g g H v w)
  unfolding test_by governed_test
  test_by_test false H v w t = t
  test_by_test true H v w t = (and_out t).0

  module _ (mirror : Bool) (H lost : Rel) (mirrored : So mirror → Mirrored g H) where
    -- only pairs of H are taken out
    pub taken_in : (v w : ℕ) → v < g.n → w < g.n → So (taken mirror g H lost v w) → So (H v w)
    unfolding mirrored_by loses
    taken_in v w hv hw = go mirror mirrored
      where
        go : (m : Bool) → (So m → Mirrored g H) → So (taken m g H lost v w) → So (H v w)
        go false s t = (and_out t).0
        go true s t = elim (or_out t) [ inl a ↦ (and_out a).0 | inr b ↦ s refl v w hv hw ∙ (and_out b).0 ]

    -- what is taken out of H is what fails
    taken_fails : Fallen g H lost → (v w : ℕ) → v < g.n → w < g.n → So (H v w) → test_by mirror g H v w ≡ not (taken mirror g H lost v w)
    unfolding test_by governed_test mirrored_by loses
    taken_fails f v w hv hw = go mirror mirrored
      where
        one : (x y : ℕ) → x < g.n → y < g.n → So (H x y) → test even g g H x y ≡ not (loses g H lost x y)
        one x y hx hy t = round_fails H lost f x y hx hy t ∙ ap not (sym (and_one _ t))

        go : (m : Bool) → (So m → Mirrored g H) → So (H v w) → test_by m g H v w ≡ not (taken m g H lost v w)
        go false s t = one v w hv hw t
        go true s t = ap₂ ◌&◌ (one v w hv hw t) (one w v hw hv (sym (s refl v w hv hw) ∙ t)) ∙ neither (loses g H lost v w) (loses g H lost w v)

    module _ (H' lost' : Rel) (f : Fallen g H lost) (r : Round mirror g H lost H' lost') where
      -- H is what is left and what was taken out
      round_whole : (v w : ℕ) → v < g.n → w < g.n → H v w ≡ both H' lost' v w
      round_whole v w hv hw =
          So_ext
          (λ t. elim (decide (lost' v w)) [ inl a ↦ or_right _ a | inr e ↦ or_left _ (r.left v w hv hw ∙ and_in t (not_in e)) ])
          (λ t. elim (or_out t) [
            | inl a ↦ (and_out (sym (r.left v w hv hw) ∙ a)).0
            | inr b ↦ taken_in v w hv hw (sym (r.out v w hv hw) ∙ b)
          ])

      -- what is left is what passes
      pub round_passes : (v w : ℕ) → v < g.n → w < g.n → H' v w ≡ H v w & test_by mirror g H v w
      round_passes v w hv hw =
          r.left v w hv hw ∙ and_under (H v w) (λ t. ap not (r.out v w hv hw) ∙ sym (taken_fails f v w hv hw t))

      pub fallen_next : Fallen g H' lost'
      fallen_next = record {
        apart = λ v w hv hw t. r.left v w hv hw ∙ and_none _ _ (λ h. ap not t);
        passed = λ v w hv hw t.
            sym (test_same g H (both H' lost') v w round_whole) ∙ test_by_test mirror H v w (and_out (sym (round_passes v w hv hw) ∙ t)).1;
      }

      pub mirrored_next : So mirror → Mirrored g H'
      unfolding mirrored_by
      mirrored_next m v w hv hw =
          r.left v w hv hw
          ∙ ap₂ (λ a b. a & not b) (mirrored m v w hv hw) (r.out v w hv hw ∙ turn mirror m ∙ sym (r.out w v hw hv))
          ∙ sym (r.left w v hw hv)
        where
          turn : (m : Bool) → So m → taken m g H lost v w ≡ taken m g H lost w v
          turn true t = or_flip (loses g H lost v w) (loses g H lost w v)
          turn false t = clash t refl

  -- ---- rounds are passes

  equal_mirrored : (H : Rel) → ((v w : ℕ) → v < g.n → w < g.n → H v w ≡ equal_priority g g v w) → Mirrored g H
  unfolding equal_priority
  equal_mirrored H e v w hv hw = e v w hv hw ∙ eqb_flip (g.priority v) (g.priority w) ∙ sym (e w v hw hv)

  -- pass 0 takes out the unequal priorities
  pub round_start : Total g → (H lost : Rel) → ((v w : ℕ) → v < g.n → w < g.n → H v w ≡ equal_priority g g v w)
      → ((v w : ℕ) → v < g.n → w < g.n → lost v w ≡ not (H v w)) → (mirror : Bool) → AfterRound mirror g 0 H lost
  round_start total H lost e l mirror = record {
    pass = after_start g.n (test_by mirror g) (equal_priority g g) (test_by_same mirror) H e;
    fallen = fallen_start total H lost l;
    mirrored = λ m. equal_mirrored H e;
  }

  module _ (mirror : Bool) (k : ℕ) (H lost : Rel) (p : AfterRound mirror g k H lost) where
    -- a round that takes something out isn't the last
    pub round_next : (H' lost' : Rel) → Round mirror g H lost H' lost' → (v w : ℕ) → v < g.n → w < g.n → So (lost' v w) → AfterRound mirror g (k + 1) H' lost'
    round_next H' lost' r v w hv hw t =
        let o = sym (r.out v w hv hw) ∙ t in
        let a = taken_in mirror H lost p.mirrored v w hv hw o in record {
          pass =
              after_next g.n (test_by mirror g) (equal_priority g g) (test_by_same mirror) k H p.pass H'
              (round_passes mirror H lost p.mirrored H' lost' p.fallen r) v w hv hw a
              (taken_fails mirror H lost p.mirrored p.fallen v w hv hw a ∙ ap not o);
          fallen = fallen_next mirror H lost p.mirrored H' lost' p.fallen r;
          mirrored = mirrored_next mirror H lost p.mirrored H' lost' p.fallen r;
        }

    -- it clears as many marks as the pass
    pub round_count : (H' lost' : Rel) → Round mirror g H lost H' lost' → cleared g.n H H' ≡ cleared_by g.n (test_by mirror g) (equal_priority g g) k
    round_count H' lost' r =
        round_clears g.n (test_by mirror g) (equal_priority g g) (test_by_same mirror) k H p.pass H'
        (round_passes mirror H lost p.mirrored H' lost' p.fallen r)

    -- a round that takes nothing out is
    module _ (none : (v w : ℕ) → v < g.n → w < g.n → taken mirror g H lost v w ≡ false) where
      all_passes : (v w : ℕ) → v < g.n → w < g.n → So (H v w) → So (test_by mirror g H v w)
      all_passes v w hv hw t = taken_fails mirror H lost p.mirrored p.fallen v w hv hw t ∙ not_in (none v w hv hw)

      pub last_count : k + 1 ≡ passes_by mirror g
      last_count = last_passes g.n (test_by mirror g) (equal_priority g g) (test_by_same mirror) k H p.pass all_passes ∙ passes_by_lem g mirror

      pub last_left : (v w : ℕ) → v < g.n → w < g.n → H v w ≡ marked (marks_by mirror g) (v * g.n + w)
      last_left v w hv hw =
          last_marks g.n (test_by mirror g) (equal_priority g g) (test_by_same mirror) k H p.pass all_passes v w hv hw
          ∙ ap (λ (m : Marks). marked m (v * g.n + w)) (marks_by_lem g mirror)

  -- the marks of pass 0 are what the passes of the order clear, and the order
  pub order_counts : sum (order_passes g) (cleared_by g.n (test even g g) (equal_priority g g)) + relation_size g.n (order g)
      ≡ relation_size g.n (equal_priority g g)
  unfolding order_passes order order_marks marks_between largest
  order_counts = counts_add g.n (test even g g) (equal_priority g g) (test_same g)
