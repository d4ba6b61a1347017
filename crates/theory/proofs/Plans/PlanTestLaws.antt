-- The computed test suffices.
use Rattle.std.specs.Prelude.{◌≡◌, refl, ◌⊎◌, List, [], ◌∷◌, ℕ, ◌≤◌, ◌<◌, ltb}
use Rattle.std.proofs.Math.Logic.{inl, inr}
use Rattle.std.proofs.Math.Bool.{false, So}
use Rattle.std.proofs.lemmas.Bool.{false≢true}
use Rattle.std.proofs.Common.{arith}
use Rattle.std.proofs.Math.Dec.{eqb}
use borrow.Author.Tests.{eqb-true, ltb-true}
use Rattle.theory.specs.Logic.Bools.{◌&◌}
use Rattle.theory.proofs.Logic.BoolsLaws.{clash, and_out, or_out, imp_out}
use Rattle.theory.specs.Logic.Range.{all_below, any_below}
use Rattle.theory.proofs.Logic.RangeLaws.{all_out, any_out}
use Rattle.theory.specs.Order.Passes.{Rel}
use Rattle.theory.specs.Games.Game.{Player, parity, Game, own, Succ}
use Rattle.theory.specs.Order.Order.{all_next}
use Rattle.theory.proofs.Order.OrderLaws.{all_next_out}
use Rattle.theory.specs.Plans.Plan.{Plan, linked, Walk, Wins}
use Rattle.theory.specs.Plans.Returns.{In, Return}
use Rattle.theory.proofs.Plans.ReturnsLaws.{closed_in}
use Rattle.theory.specs.Plans.PlanTest.{each_link, len, at, good_link, answered, moved, surely_wins}

pub each_link_out : (p : Rel) (ls : List (ℕ × ℕ)) (i j : ℕ) → So (each_link p ls) → So (linked ls i j) → So (p i j)
unfolding each_link linked
each_link_out p [] i j t l = absurd (false≢true l)
each_link_out p (x ∷ ls) i j t l = go (or_out l) (each_link_out p ls i j (and_out t).1)
  where
    go : So (eqb x.0 i & eqb x.1 j) ⊎ So (linked ls i j) → (So (linked ls i j) → So (p i j)) → So (p i j)
    go (inl e) ih = let q = and_out e in rw (← eqb-true x.0 i q.0, ← eqb-true x.1 j q.1) (and_out t).0
    go (inr m) ih = ih m

-- where every link from a position of the wrong parity descends, no position returns
descends : (a : Player) (c : ℕ → ℕ) (link : Rel) → ((i j : ℕ) → So (link i j) → So (parity a (c i)) ⊎ (c j < c i)) → (i : ℕ) → Return a c link i → ⊥
descends a c link down i r = start r.between r.walk r.above
  where
    lower : (j : ℕ) → So (link i j) → c i ≤ c j → ⊥
    lower j t h = elim (down i j t) [ inl p ↦ clash p r.wrong | inr l ↦ omega arith ]

    start : (ks : List ℕ) → Walk link i ks i → ((k : ℕ) → In k ks → c i ≤ c k) → ⊥
    start [] w f = lower i w (omega arith)
    start (k ∷ ks) w f = lower k w.0 (f k (inl refl))

module _ (a : Player) (G : Game) (P : Plan) (v : ℕ) (t : So (surely_wins a G P v)) where
  record Parts : Type 0 where
    some : So (ltb 0 (len a G P))
    start : So (eqb (at a G P 0) v)
    vertex : So (all_below (len a G P) (λ i. ltb (at a G P i) G.n))
    links : So (each_link (good_link a G P) P.links)
    moves : So (all_below (len a G P) (moved a G P))
    answers : So (all_below (len a G P) (answered a G P))

  parts : Parts
  unfolding surely_wins
  parts =
      let p₁ = and_out t in
      let p₂ = and_out p₁.0 in
      let p₃ = and_out p₂.0 in
      let p₄ = and_out p₃.0 in
      let p₅ = and_out p₄.0 in
      record { some = p₅.0; start = p₅.1; vertex = p₄.1; links = p₃.1; moves = p₂.1; answers = p₁.1 }

  record Link (i j : ℕ) : Type 0 where
    source : i < len a G P
    target : j < len a G P
    follows : So (G.edge (at a G P i) (at a G P j))
    lowers : So (parity a (G.priority (at a G P i))) ⊎ (G.priority (at a G P j) < G.priority (at a G P i))

  link : (i j : ℕ) → So (linked P.links i j) → Link i j
  unfolding good_link
  link i j l =
      let q₁ = and_out (each_link_out (good_link a G P) P.links i j parts.links l) in
      let q₂ = and_out q₁.0 in
      let q₃ = and_out q₂.0 in
      record { source = ltb-true _ _ q₃.0; target = ltb-true _ _ q₃.1; follows = q₂.1; lowers = either (or_out q₁.1) }
    where
      either : So (parity a (G.priority (at a G P i))) ⊎ So (ltb (G.priority (at a G P j)) (G.priority (at a G P i)))
          → So (parity a (G.priority (at a G P i))) ⊎ (G.priority (at a G P j) < G.priority (at a G P i))
      either (inl p) = inl p
      either (inr l) = inr (ltb-true _ _ l)

  pub surely_wins_lem : Wins a G P v
  unfolding moved answered
  surely_wins_lem = record {
    some = ltb-true _ _ parts.some;
    start = eqb-true _ _ parts.start;
    vertex = λ i h. ltb-true _ _ ((all_out parts.vertex).at i h);
    source = λ i j l. (link i j l).source;
    target = λ i j l. (link i j l).target;
    follows = λ i j l. (link i j l).follows;
    moves = λ i h o. let r = any_out (imp_out ((all_out parts.moves).at i h) o) in (r.0, r.2);
    answers = λ i h o w s. answer i w o s (or_out ((all_out parts.answers).at i h));
    closed = closed_in a _ _ (descends a _ _ (λ i j l. (link i j l).lowers));
  }
    where
      answer : (i w : ℕ) → own G a (at a G P i) ≡ false → Succ G (at a G P i) w
          → So (own G a (at a G P i)) ⊎ So (all_next G (at a G P i) (λ w. any_below (len a G P) (λ j. linked P.links i j & eqb (at a G P j) w)))
          → (j : ℕ) × So (linked P.links i j) × (at a G P j ≡ w)
      answer i w o s (inl t) = clash t o
      answer i w o s (inr t) = let r = any_out (all_next_out G (at a G P i) _ t w s) in let q = and_out r.2 in (r.0, q.0, eqb-true _ _ q.1)
