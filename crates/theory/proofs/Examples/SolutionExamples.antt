-- A game of four vertices solved by hand: who wins at each vertex, the edges that the winners keep, and an order of the vertices that
-- certifies it. And a solution that isn't right: the winners are the same, but a kept edge makes a closed walk of the loser's.
use Rattle.std.specs.Prelude.{◌≡◌, refl, Bool, List, [], ◌∷◌, ℕ, ◌<◌, eqb, ltb, leb, get_or}
use Rattle.std.proofs.Math.Logic.{inl, inr}
use Rattle.std.proofs.Math.Bool.{So}
use Rattle.std.proofs.Common.{arith}
use borrow.Author.Tests.{ltb-true, lt-ltb, le-leb, eqb-true}
use Rattle.theory.specs.Logic.Bools.{◌&◌, ◌or◌, imp}
use Rattle.theory.proofs.Logic.BoolsLaws.{clash, imp_out, and_in, and_out, or_out}
use Rattle.theory.specs.Logic.Range.{all_below, any_below}
use Rattle.theory.proofs.Logic.RangeLaws.{all_out, any_out}
use Rattle.theory.specs.Games.Game.{Player, even, odd, same, parity, Game, own, Total}
use Rattle.theory.proofs.Games.GameLaws.{same_out, total_out}
use Rattle.theory.specs.Plans.Plan.{linked, Won, WonSmall}
use Rattle.theory.specs.Plans.PlanTest.{each_link}
use Rattle.theory.proofs.Plans.PlanTestLaws.{each_link_out}
use Rattle.theory.proofs.Winners.DeterminacyLaws.{winner}
use Rattle.theory.specs.Solutions.Solution.{Kept, Good}
use Rattle.theory.proofs.Solutions.SolutionLaws.{solved_won, solved_lost, solved_winner}
use Rattle.theory.specs.Solutions.Places.{Over, Ordered}
use Rattle.theory.proofs.Solutions.PlacesLaws.{ordered_good}
use Rattle.theory.proofs.Examples.Compute.{compute}
use Rattle.theory.proofs.Examples.Examples.{list_game}

-- ---- what is asked of kept edges and of an order, computed from a list of the kept edges

module _ (G : Game) (win : ℕ → Player) (es : List (ℕ × ℕ)) where
  unfoldable stays : ℕ → ℕ → Bool
  stays v w = ltb v G.n & ltb w G.n & G.edge v w & same (win v) (win w)

  unfoldable plays : ℕ → Bool
  plays v = imp (own G (win v) v) (any_below G.n (linked es v)) & (own G (win v) v or all_below G.n (λ w. imp (G.edge v w) (linked es v w)))

  unfoldable keeps : Bool
  keeps = each_link stays es & all_below G.n plays

  keeps_out : So keeps → Kept G win (linked es)
  unfolding keeps stays plays
  keeps_out t = record {
    source = λ v w l. ltb-true v G.n (and_out (and_out (and_out (edge v w l)).0).0).0;
    target = λ v w l. ltb-true w G.n (and_out (and_out (and_out (edge v w l)).0).0).1;
    follows = λ v w l. (and_out (and_out (edge v w l)).0).1;
    stays = λ v w l. same_out (win v) (win w) (and_out (edge v w l)).1;
    moves = λ v h o. let r = any_out (imp_out (and_out (vertex v h)).0 o) in (r.0, r.2);
    answers = λ v w h f e. elim (or_out (and_out (vertex v h)).1) [
      | inl o ↦ clash o f
      | inr a ↦ imp_out ((all_out a).at w e.inside) e.along
    ];
  }
    where
      edge : (v w : ℕ) → So (linked es v w) → So (stays v w)
      edge v w l = each_link_out stays es v w (and_out t).0 l

      vertex : (v : ℕ) → v < G.n → So (plays v)
      vertex v h = (all_out (and_out t).1).at v h

  module _ (place : ℕ → ℕ) where
    unfoldable over : ℕ → ℕ → Bool
    over v u = ltb (G.priority v) (G.priority u) or (eqb (G.priority v) (G.priority u) & parity (win v) (G.priority v))

    unfoldable goes : ℕ → ℕ → Bool
    goes v w =
        (parity (win v) (G.priority v) or ltb (place w) (place v))
        & all_below G.n (λ u. imp (ltb (place v) (place u) & leb (place u) (place w)) (over v u))

    goes_out : So (each_link goes es) → Ordered G win (linked es) place
    unfolding goes over
    goes_out t = record {
      falls = λ v w l f q. elim (or_out (and_out (edge v w l)).0) [ inl y ↦ clash y f | inr d ↦ ltb-true (place w) (place v) d ];
      rises = λ v w l u h a b. passed v u (imp_out ((all_out (and_out (edge v w l)).1).at u h) (and_in (lt-ltb (place v) (place u) a) (le-leb (place u) (place w) b)));
    }
      where
        edge : (v w : ℕ) → So (linked es v w) → So (goes v w)
        edge v w l = each_link_out goes es v w t l

        passed : (v u : ℕ) → So (over v u) → Over G win v u
        passed v u o = elim (or_out o) [
          | inl l ↦ inl (ltb-true (G.priority v) (G.priority u) l)
          | inr b ↦ inr (eqb-true (G.priority v) (G.priority u) (and_out b).0, (and_out b).1)
        ]

-- ---- the game: 0 and 1 lead to each other, 1 also to 3, where Odd has a loop of priority 1; 2 has a loop of priority 1 and an edge to 0

unfoldable pub four : Game
unfolding list_game
four = list_game (1 ∷ 0 ∷ 1 ∷ 1 ∷ []) (odd ∷ even ∷ even ∷ odd ∷ []) ((0, 1) ∷ (1, 0) ∷ (1, 3) ∷ (2, 0) ∷ (2, 2) ∷ (3, 2) ∷ (3, 3) ∷ [])

four_total : Total four
unfolding compute four
four_total = total_out four refl

-- Even wins but at 3
unfoldable pub named : ℕ → Player
named v = get_or (even ∷ even ∷ even ∷ odd ∷ []) v even

-- Even moves from 1 to 0 and from 2 to 0, and Odd round its loop; at 0, which is Odd's, the one edge is kept
unfoldable pub kept : List (ℕ × ℕ)
kept = (0, 1) ∷ (1, 0) ∷ (2, 0) ∷ (3, 3) ∷ []

four_kept : Kept four named (linked kept)
unfolding compute four named kept keeps stays plays
four_kept = keeps_out four named kept refl

-- the order 1, 0, 2, 3: the edge from 1 to 0 rises, over 0, whose priority is higher; every other one between two vertices falls
unfoldable pub place : ℕ → ℕ
place v = get_or (1 ∷ 0 ∷ 2 ∷ 3 ∷ []) v 0

pub four_ordered : Ordered four named (linked kept) place
unfolding compute four named kept place goes over
four_ordered = goes_out four named kept place refl

four_good : Good four named (linked kept)
four_good = ordered_good four named (linked kept) place four_kept four_ordered

-- ---- so the named winners are the winners

pub four_winner_2 : winner four 2 ≡ even
unfolding four named
four_winner_2 = solved_winner four named (linked kept) four_kept four_good 2 (omega arith) four_total

pub four_winner_3 : winner four 3 ≡ odd
unfolding four named
four_winner_3 = solved_winner four named (linked kept) four_kept four_good 3 (omega arith) four_total

-- by a plan of at most 4 positions and 7 links
pub four_small_0 : WonSmall even four 0
unfolding four named
four_small_0 = solved_won four named (linked kept) four_kept four_good 0 (omega arith)

-- and Even has no plan at 3, however long
pub four_lost_3 : ¬ Won even four 3
unfolding compute four named
four_lost_3 = solved_lost four named (linked kept) four_kept four_good 3 (omega arith)

-- ---- not right: at 2 Even keeps the loop

unfoldable pub looping : List (ℕ × ℕ)
looping = (0, 1) ∷ (1, 0) ∷ (2, 2) ∷ (3, 3) ∷ []

pub looping_kept : Kept four named (linked looping)
unfolding compute four named looping keeps stays plays
looping_kept = keeps_out four named looping refl

pub looping_bad : ¬ Good four named (linked looping)
unfolding compute four named looping
looping_bad good = good 2 (omega arith) (record { between = []; walk = refl; above = λ u m. absurd m; wrong = refl })

-- so no order certifies it
pub looping_unordered : (place : ℕ → ℕ) → ¬ Ordered four named (linked looping) place
looping_unordered place o = looping_bad (ordered_good four named (linked looping) place looping_kept o)
