-- How blocks are made, split and left. One block holds every walk. Numbers that no link inside a block raises are equal all along a closed
-- walk in it, so they split the block. A position on a closed walk has a link to the next one, in its block; and where it has the block's
-- lowest priority, it has that of the walk's start, so the wrong parity.
use Rattle.std.specs.Prelude.{◌≡◌, refl, Bool, List, [], ◌∷◌, ℕ, ◌%◌, ◌≤◌, ◌<◌, get_or, set}
use Rattle.std.proofs.Common.{sym, ◌∙◌, subst, inl, inr, arith, get_or-set_other}
use Rattle.std.proofs.Math.Bool.{So}
use Rattle.theory.specs.Plans.Plan.{Walk}
use Rattle.theory.specs.Plans.Returns.{In}
use Rattle.plan_blocks.specs.Blocks.{gone, BadWalk, Confined}

-- ---- along a walk through positions of which P holds

module _ (link : ℕ → ℕ → Bool) (P : ℕ → Type 0) where
  -- what no link raises falls along the walk
  falls : (f : ℕ → ℕ) → ((u v : ℕ) → P u → P v → So (link u v) → f v ≤ f u) → (i : ℕ) (ks : List ℕ) (j : ℕ) → P i → ((k : ℕ) → In k ks → P k) → P j
      → Walk link i ks j → (f j ≤ f i) × ((k : ℕ) → In k ks → (f j ≤ f k) × (f k ≤ f i))
  falls f step i [] j a b c w = (step i j a c w, λ k m. absurd m)
  falls f step i (k ∷ ks) j a b c w =
      let down : f k ≤ f i = step i k a (b k (inl refl)) w.0 in
      let rest = falls f step k ks j (b k (inl refl)) (λ m h. b m (inr h)) c w.1 in (
        omega (arith, rest.0, down),
        λ m h. elim h [
          | inl e ↦ rw e (rest.0, down)
          | inr l ↦ ((rest.1 m l).0, omega (arith, (rest.1 m l).1, down))
        ],
      )

  -- each position of the walk has a link to the next one
  nexts : (i : ℕ) (ks : List ℕ) (j : ℕ) → ((k : ℕ) → In k ks → P k) → P j → Walk link i ks j → (k : ℕ) → In k (i ∷ ks) → (v : ℕ) × P v × So (link k v)
  nexts i [] j b c w k (inl e) = (j, c, rw e w)
  nexts i [] j b c w k (inr m) = absurd m
  nexts i (l ∷ ks) j b c w k (inl e) = (l, b l (inl refl), rw e w.0)
  nexts i (l ∷ ks) j b c w k (inr m) = nexts l ks j (λ x h. b x (inr h)) c w.1 k m

module _ (p player : ℕ) (link : ℕ → ℕ → Bool) (priorities : List ℕ) where
  pub confined_one : (blocks : List ℕ) → ((j : ℕ) → get_or blocks j 0 ≡ 0) → Confined p player link priorities blocks
  confined_one blocks z = record { live = λ i ks b e. omega (arith, z i, e); same = λ i ks b k m. z k ∙ sym (z i) }

  module _ (blocks : List ℕ) (c : Confined p player link priorities blocks) where
    -- ---- a block is split

    module _ (numbers : List ℕ) (fall : (u v : ℕ) → u < p → (get_or blocks u 0 ≡ gone → ⊥) → So (link u v) → get_or blocks v 0 ≡ get_or blocks u 0 → get_or numbers v 0 ≤ get_or numbers u 0) where
      split_same : (i : ℕ) (ks : List ℕ) → BadWalk p player link priorities i ks → (k : ℕ) → In k (i ∷ ks) → get_or numbers k 0 ≡ get_or numbers i 0
      split_same i ks b k (inl e) = rw e
      split_same i ks b k (inr m) =
          let r = falls link (λ (k : ℕ). (k < p) × (get_or blocks k 0 ≡ get_or blocks i 0)) (λ (k : ℕ). get_or numbers k 0)
          (λ u v x y l. fall u v x.0 (λ e. c.live i ks b (sym x.1 ∙ e)) l (y.1 ∙ sym x.1))
          i ks i (b.inside i (inl refl), refl) (λ k m. (b.inside k (inr m), c.same i ks b k (inr m))) (b.inside i (inl refl), refl) b.walk in
          omega (arith, r.1 k m)

      pub confined_split : (blocks' : List ℕ) → ((u : ℕ) → u < p → (get_or blocks u 0 ≡ gone → ⊥) → (get_or blocks' u 0 ≡ get_or numbers u 0) × (get_or numbers u 0 ≡ gone → ⊥))
          → Confined p player link priorities blocks'
      confined_split blocks' new = record {
        live = λ i ks b e. let n = new i (b.inside i (inl refl)) (c.live i ks b) in n.1 (sym n.0 ∙ e);
        same = λ i ks b k m.
            (new k (b.inside k m) (λ e. c.live i ks b (sym (c.same i ks b k m) ∙ e))).0
            ∙ split_same i ks b k m
            ∙ sym (new i (b.inside i (inl refl)) (c.live i ks b)).0;
      }

    -- ---- a position leaves its block

    module _ (v : ℕ) where
      confined_less : ((i : ℕ) (ks : List ℕ) → BadWalk p player link priorities i ks → In v (i ∷ ks) → ⊥) → Confined p player link priorities (set blocks v gone)
      confined_less off = record {
        live = λ i ks b e. c.live i ks b (sym (kept i ks b i (inl refl)) ∙ e);
        same = λ i ks b k m. kept i ks b k m ∙ c.same i ks b k m ∙ sym (kept i ks b i (inl refl));
      }
        where
          kept : (i : ℕ) (ks : List ℕ) → BadWalk p player link priorities i ks → (k : ℕ) → In k (i ∷ ks) → get_or (set blocks v gone) k 0 ≡ get_or blocks k 0
          kept i ks b k m = get_or-set_other blocks v k gone 0 (λ e. off i ks b (subst (λ (x : ℕ). In x (i ∷ ks)) e m))

      -- no link of its leads to its block
      pub confined_stuck : ((w : ℕ) → So (link v w) → get_or blocks w 0 ≡ get_or blocks v 0 → ⊥) → Confined p player link priorities (set blocks v gone)
      confined_stuck stuck = confined_less (λ i ks b m.
          let r = nexts link (λ (k : ℕ). get_or blocks k 0 ≡ get_or blocks i 0) i ks i (λ k m. c.same i ks b k (inr m)) refl b.walk v m in
          stuck r.0 r.2 (r.1 ∙ sym (c.same i ks b v m)))

      -- it has the lowest priority of its block, and that is of the right parity
      pub confined_lowest : get_or priorities v 0 % 2 ≡ player
          → ((j : ℕ) → j < p → (get_or blocks j 0 ≡ gone → ⊥) → get_or blocks j 0 ≡ get_or blocks v 0 → get_or priorities v 0 ≤ get_or priorities j 0)
          → Confined p player link priorities (set blocks v gone)
      confined_lowest right lowest = confined_less (λ i ks b m.
          let low = lowest i (b.inside i (inl refl)) (c.live i ks b) (sym (c.same i ks b v m)) in
          let e : get_or priorities i 0 ≡ get_or priorities v 0 = omega (arith, low, b.above v m) in
          b.wrong (rw e right))
