-- In a right solution each winner's vertices are a region of the game, so the winner named at each vertex has a winning plan from it.
use Rattle.std.specs.Prelude.{◌≡◌, refl, List, [], ◌∷◌, ℕ, ◌<◌}
use Rattle.std.proofs.Math.Path.{sym}
use Rattle.std.proofs.Common.{◌∙◌, ltb-true, lt-ltb}
use Rattle.std.proofs.Math.Bool.{So}
use Rattle.std.proofs.lemmas.Bool.{false≢true}
use Rattle.theory.proofs.Logic.BoolsLaws.{and_in, and_out}
use Rattle.theory.specs.Order.Passes.{Rel}
use Rattle.theory.specs.Games.Game.{Player, other, Game, Total}
use Rattle.theory.proofs.Games.GameLaws.{same_refl, same_out}
use Rattle.theory.specs.Plans.Plan.{Walk, Won, WonSmall}
use Rattle.theory.specs.Plans.Returns.{Return}
use Rattle.theory.proofs.Plans.ReturnsLaws.{closed_in}
use Rattle.theory.proofs.Winners.WinnerLaws.{one_winner}
use Rattle.theory.specs.Winners.Region.{none, whole, Region}
use Rattle.theory.proofs.Winners.RegionPlanLaws.{whole_in, whole_out, region_won}
use Rattle.theory.proofs.Winners.DeterminacyLaws.{winner, winner_is}
use Rattle.theory.specs.Solutions.Solution.{Kept, Good, region, kept_by}

-- a walk over fewer links is one over more
walk_more : (link link' : Rel) → ((v w : ℕ) → So (link v w) → So (link' v w)) → (s : ℕ) (ks : List ℕ) (e : ℕ) → Walk link s ks e → Walk link' s ks e
walk_more link link' f s [] e w = f s e w
walk_more link link' f s (k ∷ ks) e w = (f s k w.0, walk_more link link' f k ks e w.1)

module _ (G : Game) (win : ℕ → Player) (kept : Rel) (k : Kept G win kept) where
  -- the edges kept at vertices of a's
  by_out : (a : Player) (v w : ℕ) → So (kept_by win kept a v w) → So (kept v w) × (win v ≡ a)
  unfolding kept_by
  by_out a v w t = let b = and_out t in (b.0, sym (same_out a (win v) b.1))

  by_in : (a : Player) (v w : ℕ) → So (kept v w) → win v ≡ a → So (kept_by win kept a v w)
  unfolding kept_by
  by_in a v w t e = and_in t (rw e (same_refl a))

  region_in : (a : Player) (v : ℕ) → v < G.n → win v ≡ a → So (region G win a v)
  unfolding region
  region_in a v h e = and_in (lt-ltb v G.n h) (rw e (same_refl a))

  region_out : (a : Player) (v : ℕ) → So (region G win a v) → (v < G.n) × (win v ≡ a)
  unfolding region
  region_out a v t = let b = and_out t in (ltb-true v G.n b.0, sym (same_out a (win v) b.1))

  -- a walk over them starts at a vertex of a's
  walk_source : (a : Player) (s : ℕ) (ks : List ℕ) (e : ℕ) → Walk (kept_by win kept a) s ks e → (s < G.n) × (win s ≡ a)
  walk_source a s [] e w = let b = by_out a s e w in (k.source s e b.0, b.1)
  walk_source a s (j ∷ ks) e w = let b = by_out a s j w.0 in (k.source s j b.0, b.1)

  -- the vertices of a's are a region of a's: its strategy keeps the edges kept there
  pub good_region : Good G win kept → (a : Player) → Region G a (whole G) none (region G win a)
  unfolding none
  good_region good a = record {
    link = kept_by win kept a;
    holds = λ v t. absurd (false≢true t);
    inside = λ v t. whole_in G v (region_out a v t).0;
    source = λ v w t. let b = by_out a v w t in region_in a v (k.source v w b.0) b.1;
    target = λ v w t. let b = by_out a v w t in region_in a w (k.target v w b.0) (sym (k.stays v w b.0) ∙ b.1);
    leaves = λ v w t. refl;
    follows = λ v w t. k.follows v w (by_out a v w t).0;
    moves = λ v t e o. let b = region_out a v t in let m = k.moves v b.0 (rw b.1 o) in (m.0, by_in a v m.0 m.1 b.1);
    answers = λ v t e o w s x.
        let b = region_out a v t in
        by_in a v w (k.answers v w b.0 (rw b.1 o) (record { inside = whole_out G w s; along = x })) b.1;
    closed = closed_in a G.priority (kept_by win kept a) never;
  }
    where
      never : (i : ℕ) → Return a G.priority (kept_by win kept a) i → ⊥
      never i r =
          let b = walk_source a i r.between i r.walk in
          good i b.0 (record {
            between = r.between;
            walk = walk_more (kept_by win kept a) kept (λ v w t. (by_out a v w t).0) i r.between i r.walk;
            above = r.above;
            wrong = rw b.1 r.wrong;
          })

  -- ---- the solution is right at every vertex

  module _ (good : Good G win kept) (v : ℕ) (h : v < G.n) where
    -- the winner has a winning plan, of no more positions than vertices and no more links than edges
    pub solved_won : WonSmall (win v) G v
    solved_won = region_won G (win v) (region G win (win v)) (good_region good (win v)) v (region_in (win v) v h refl)

    -- the loser has none
    pub solved_lost : Won (other (win v)) G v → ⊥
    solved_lost l = let w = solved_won in one_winner (win v) G v (w.plan, w.wins) l

    -- and it is the winner of the determinacy theorem
    pub solved_winner : Total G → winner G v ≡ win v
    solved_winner total = let w = solved_won in (winner_is G total v h (win v)).0 (w.plan, w.wins)
