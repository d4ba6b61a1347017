-- A computed test that suffices for a plan to win, for the worked examples: each field of `Winning` with bounded "each" and "some", and
-- for the closed walks, that every link from a position of the wrong parity leads to a lower priority. (The plan acceptor is exact.)
use Rattle.std.specs.Prelude.{Bool, true, List, [], ◌∷◌, ℕ, eqb, ltb, length, get_or}
use Rattle.theory.specs.Logic.Bools.{◌&◌, ◌or◌, imp}
use Rattle.theory.specs.Logic.Range.{all_below, any_below}
use Rattle.theory.specs.Order.Passes.{Rel}
use Rattle.theory.specs.Games.Game.{Player, parity, Game, own}
use Rattle.theory.specs.Order.Order.{all_next}
use Rattle.theory.specs.Plans.Plan.{Plan, linked}

unfoldable pub each_link : Rel → List (ℕ × ℕ) → Bool
each_link p [] = true
each_link p (l ∷ ls) = p l.0 l.1 & each_link p ls

module _ (a : Player) (G : Game) (P : Plan) where
  abbrev pub len : ℕ
  len = length P.vertices

  abbrev pub at : ℕ → ℕ
  at i = get_or P.vertices i 0

  unfoldable pub good_link : Rel
  good_link i j =
      ltb i len & ltb j len & G.edge (at i) (at j) & (parity a (G.priority (at i)) or ltb (G.priority (at j)) (G.priority (at i)))

  unfoldable pub answered : ℕ → Bool
  answered i = own G a (at i) or all_next G (at i) (λ w. any_below len (λ j. linked P.links i j & eqb (at j) w))

  unfoldable pub moved : ℕ → Bool
  moved i = imp (own G a (at i)) (any_below len (λ j. linked P.links i j))

  unfoldable pub surely_wins : ℕ → Bool
  surely_wins v =
      ltb 0 len & eqb (at 0) v & all_below len (λ i. ltb (at i) G.n) & each_link good_link P.links & all_below len moved & all_below len answered
