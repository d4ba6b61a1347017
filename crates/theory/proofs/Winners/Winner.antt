-- Who wins at a vertex of a total game, by Zielonka's recursion (laws in `DeterminacyLaws`):
-- a is the player of the lowest priority's parity, A what a attracts to the vertices that have it, and the subgame without A is solved. Where
-- the opponent wins nothing there, a wins everywhere; else the opponent wins that in the whole, and the subgame without its attractor is solved.
use Rattle.std.specs.Prelude.{◌≡◌, refl, ◌⊎◌, false, not, cond, ℕ, zero, suc, ◌≤◌, ◌<◌, eqb}
use Rattle.std.proofs.Common.{sym, ap, ◌∙◌, subst, le_refl, arith}
use Rattle.std.proofs.Math.Logic.{inl, inr}
use Rattle.std.proofs.Math.Bool.{So, not-not}
use Rattle.std.proofs.lemmas.Bool.{false≢true}
use borrow.Author.Tests.{eqb-true, eq-eqb}
use Rattle.theory.specs.Logic.Bools.{◌&◌}
use Rattle.theory.proofs.Logic.BoolsLaws.{decide, clash, and_in, and_out}
use Rattle.theory.specs.Logic.Range.{any_below, count}
use Rattle.theory.proofs.Logic.RangeLaws.{any_out, any_fails}
use Rattle.theory.specs.Games.Game.{Player, even, odd, other, parity, Game, own, is_total}
use Rattle.theory.proofs.Games.GameLaws.{same_other, parity_other, total_out}
use Rattle.theory.specs.Winners.Region.{Set, none, union, minus, whole, Lowest, Subgame, Region, Attractor, Solution}
use Rattle.theory.proofs.Winners.RegionLaws.{union_left, union_right, minus_in, minus_less, lowest, region_layer, layer_region, region_target, region_whole, region_recurs}
use Rattle.theory.proofs.Winners.AttractorLaws.{attractor, subgame_rest, region_trap}
use Rattle.theory.proofs.Winners.RegionPlanLaws.{whole_subgame}

-- ---- a solution seen from either player

player_of_lem : (q : ℕ) → (a : Player) × So (parity a q)
unfolding other
player_of_lem q = elim (decide (parity even q)) [ inl t ↦ (even, t) | inr f ↦ (odd, parity_other even q ∙ ap not f) ]

opposed : (G : Game) (a : Player) (v : ℕ) → own G (other a) v ≡ not (own G a v)
opposed G a v = same_other a (G.owner v)

opposed_back : (G : Game) (a : Player) (v : ℕ) → own G a v ≡ not (own G (other a) v)
opposed_back G a v = sym (ap not (opposed G a v) ∙ not-not (own G a v))

swap : (G : Game) (S : Set) (a b : Player) → other a ≡ b → a ≡ other b → Solution G a S → Solution G b S
swap G S a b e f s = record {
  mine = s.theirs;
  theirs = s.mine;
  my_region = subst (λ (p : Player). Region G p S none s.theirs) e s.their_region;
  their_region = subst (λ (p : Player). Region G p S none s.mine) f s.my_region;
  cover = λ v t. elim (s.cover v t) [ inl m ↦ inr m | inr u ↦ inl u ];
}

turn : (G : Game) (S : Set) (a b : Player) → Solution G a S → Solution G b S
unfolding other
turn G S even even s = s
turn G S even odd s = swap G S even odd refl refl s
turn G S odd even s = swap G S odd even refl refl s
turn G S odd odd s = s

-- ---- the step: from smaller subgames to S

module _ (G : Game) (S : Set) (sub : Subgame G S) where
  abbrev Smaller : Type 0
  Smaller = (S' : Set) → Subgame G S' → count G.n S' < count G.n S → Solution G even S'

  empty : ((v : ℕ) → v < G.n → S v ≡ false) → Solution G even S
  unfolding none
  empty f = record {
    mine = none;
    theirs = none;
    my_region = region_target G even S none (λ v t. absurd (false≢true t));
    their_region = region_target G (other even) S none (λ v t. absurd (false≢true t));
    cover = λ v t. clash t (f v (sub.inside v t));
  }

  module _ (rec : Smaller) (a : Player) (low : Lowest G S G.n) (good : So (parity a (G.priority low.at))) where
    q : ℕ
    q = G.priority low.at

    -- the vertices of the lowest priority
    N : Set
    N v = S v & eqb (G.priority v) q

    A : Attractor G a S N N
    unfolding N
    A = attractor G a S N sub N (region_target G a S N (λ v t. (and_out t).0))

    low_in : So (N low.at)
    unfolding N q
    low_in = and_in low.member (eq-eqb q q refl)

    rest : Solution G a (minus S A.set)
    rest = turn G (minus S A.set) even a (rec (minus S A.set) (subgame_rest G a S A.set sub A.saturated)
        (minus_less G S A.set low.at low.inside low.member (A.extends low.at low_in)))

    -- the opponent wins nothing in the rest
    all_mine : any_below G.n rest.theirs ≡ false → Solution G a S
    unfolding none N q
    all_mine f = record {
      mine = S;
      theirs = none;
      my_region = region_recurs G a S N sub q (λ v s. low.least v (sub.inside v s) s) (λ v t. eqb-true (G.priority v) q (and_out t).1) good
          (region_whole G a S N (union A.set rest.mine)
          (region_layer G a S N A.set rest.mine A.region (layer_region G a S A.set rest.mine rest.my_region)) covered);
      their_region = region_target G (other a) S none (λ v t. absurd (false≢true t));
      cover = λ v s. inl s;
    }
      where
        covered : (v : ℕ) → So (S v) → So (union A.set rest.mine v)
        covered v s = elim (decide (A.set v)) [
          | inl b ↦ union_left A.set rest.mine v b
          | inr g ↦ elim (rest.cover v (minus_in S A.set v s g)) [
            | inl m ↦ union_right A.set rest.mine v m
            | inr t ↦ clash t (any_fails G.n rest.theirs f v (sub.inside v s))
          ]
        ]

    -- the opponent wins some u there
    some_theirs : (u : ℕ) → So (rest.theirs u) → Solution G a S
    some_theirs u t = record {
      mine = last.mine;
      theirs = union B.set last.theirs;
      my_region = region_trap G (other a) S B.set sub B.saturated a (opposed_back G a) last.mine last.my_region;
      their_region = region_layer G (other a) S none B.set last.theirs B.region (layer_region G (other a) S B.set last.theirs last.their_region);
      cover = cover';
    }
      where
        won : Region G (other a) S none rest.theirs
        won = region_trap G a S A.set sub A.saturated (other a) (opposed G a) rest.theirs rest.their_region

        B : Attractor G (other a) S none rest.theirs
        B = attractor G (other a) S none sub rest.theirs won

        last : Solution G a (minus S B.set)
        last =
            let s = won.inside u t in
            turn G (minus S B.set) even a (rec (minus S B.set) (subgame_rest G (other a) S B.set sub B.saturated)
            (minus_less G S B.set u (sub.inside u s) s (B.extends u t)))

        cover' : (v : ℕ) → So (S v) → So (last.mine v) ⊎ So (union B.set last.theirs v)
        cover' v s = elim (decide (B.set v)) [
          | inl c ↦ inr (union_left B.set last.theirs v c)
          | inr g ↦ elim (last.cover v (minus_in S B.set v s g)) [ inl m ↦ inl m | inr t ↦ inr (union_right B.set last.theirs v t) ]
        ]

    solve_for : Solution G a S
    solve_for = elim (decide (any_below G.n rest.theirs)) [ inl t ↦ (let r = any_out t in some_theirs r.0 r.2) | inr f ↦ all_mine f ]

  solve_step : Smaller → Solution G even S
  solve_step rec = elim (lowest G S G.n) [
    | inl f ↦ empty f
    | inr l ↦ (let p = player_of_lem (G.priority l.at) in turn G S p.0 even (solve_for rec p.0 l p.1))
  ]

solve_within : (G : Game) (k : ℕ) (S : Set) → Subgame G S → count G.n S ≤ k → Solution G even S
solve_within G zero S sub h = solve_step G S sub (λ S' s l. absurd (omega arith))
solve_within G (suc k) S sub h = solve_step G S sub (λ S' s l. solve_within G k S' s (omega arith))

pub solve : (G : Game) (S : Set) → Subgame G S → Solution G even S
solve G S sub = solve_within G (count G.n S) S sub (le_refl (count G.n S))

-- ---- the winner

-- by a solution of the game
unfoldable pub winner_by : {G : Game} → Solution G even (whole G) → ℕ → Player
winner_by s v = cond (s.mine v) even odd

-- who wins at v. It asks for no proof: of a game that isn't total it says nothing.
unfoldable pub winner : Game → ℕ → Player
winner G v = elim (decide (is_total G)) [ inl t ↦ winner_by (solve G (whole G) (whole_subgame G (total_out G t))) v | inr f ↦ even ]
