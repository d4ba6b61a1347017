-- The pair test by rows of a relation, and what a row loses when rows before it shrink. The row of v is the set of w that v is related to.
-- All of it is for any relation H, but for the last record, which ties rounds to the passes of the order or, where reverses are asked too (`mirror`),
-- of the governed bisimulation.
use Rattle.std.specs.Prelude.{◌≡◌, Bool, true, false, not, cond, ℕ, ◌<◌}
use Rattle.std.proofs.Math.Bool.{So}
use Rattle.theory.specs.Logic.Bools.{◌&◌, ◌or◌, imp}
use Rattle.theory.specs.Order.Passes.{Rel}
use Rattle.theory.specs.Games.Game.{even, Game, own}
use Rattle.theory.specs.Order.Order.{all_next, any_next, equal_priority, test}
use Rattle.theory.specs.Order.Governed.{test_by}
use Rattle.theory.specs.Order.Rounds.{AfterPass}

-- the controllable predecessors of X: Even gets from w into X by one move, since some successor of w is in X or, where w is Odd's, each is
unfoldable pub cpre : Game → (ℕ → Bool) → ℕ → Bool
cpre g X w = cond (own g even w) (any_next g w X) (all_next g w X)

-- the union of the rows of v's successors
unfoldable pub united : Game → Rel → ℕ → ℕ → Bool
united g H v x = any_next g v (λ a. H a x)

-- the test by rows
unfoldable pub row_test : Game → Rel → Rel
row_test g H v w = cond (own g even v) (all_next g v (λ a. cpre g (H a) w)) (cpre g (united g H v) w)

-- ---- rows that lost something

-- what leaves the controllable predecessors when L is taken out and X is left
unfoldable pub fall : Game → (ℕ → Bool) → (ℕ → Bool) → ℕ → Bool
fall g L X w = any_next g w L & imp (own g even w) (not (any_next g w X))

-- what the union of the rows of v's successors lost
unfoldable pub united_lost : Game → Rel → Rel → ℕ → ℕ → Bool
united_lost g H lost v x = united g lost v x & not (united g H v x)

-- of a row of v that passed under H and `lost` together: what fails under H
unfoldable pub fails : Game → Rel → Rel → Rel
fails g H lost v w = cond (own g even v) (any_next g v (λ a. fall g (lost a) (H a) w)) (fall g (united_lost g H lost v) (united g H v) w)

-- of H, what fails
unfoldable pub loses : Game → Rel → Rel → Rel
loses g H lost v w = H v w & fails g H lost v w

-- the pairs of H, and with `mirror` their reverses
unfoldable pub mirrored_by : Bool → Rel → Rel
mirrored_by false H v w = H v w
mirrored_by true H v w = H v w or H w v

-- what a round takes out of H
abbrev pub taken : Bool → Game → Rel → Rel → Rel
taken mirror g H lost = mirrored_by mirror (loses g H lost)

-- `lost` was taken out of H, and all that is left passed before
pub record Fallen (g : Game) (H lost : Rel) : Type 0 where
  pub apart : (v w : ℕ) → v < g.n → w < g.n → So (lost v w) → H v w ≡ false
  pub passed : (v w : ℕ) → v < g.n → w < g.n → So (H v w) → So (test even g g (λ x y. H x y or lost x y) v w)

-- a round: what it takes out of H, and what it leaves
pub record Round (mirror : Bool) (g : Game) (H lost H' lost' : Rel) : Type 0 where
  pub out : (v w : ℕ) → v < g.n → w < g.n → lost' v w ≡ taken mirror g H lost v w
  pub left : (v w : ℕ) → v < g.n → w < g.n → H' v w ≡ H v w & not (lost' v w)

-- H is its own reverse
abbrev pub Mirrored : Game → Rel → Type 0
Mirrored g H = (v w : ℕ) → v < g.n → w < g.n → H v w ≡ H w v

-- H is the relation after pass k, and `lost` is what pass k took out; the pass before pass 0 left all pairs
pub record AfterRound (mirror : Bool) (g : Game) (k : ℕ) (H lost : Rel) : Type 0 where
  pub pass : AfterPass g.n (test_by mirror g) (equal_priority g g) k H
  pub fallen : Fallen g H lost
  pub mirrored : So mirror → Mirrored g H
