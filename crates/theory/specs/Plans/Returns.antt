-- Closed walks of the wrong parity, seen from one position. c k is the priority of position k.
use Rattle.std.specs.Prelude.{◌≡◌, ◌⊎◌, Bool, false, List, [], ◌∷◌, ℕ, ◌≤◌, min}
use Rattle.theory.specs.Games.Game.{Player, parity}
use Rattle.theory.specs.Plans.Plan.{Walk, seen}

abbrev pub In : ℕ → List ℕ → Type 0
In i [] = ⊥
In i (k ∷ ks) = (i ≡ k) ⊎ In i ks

-- Document 01, refusal 16: i lies on a closed walk of the wrong parity and has its lowest priority.
pub record WrongWalk (a : Player) (c : ℕ → ℕ) (link : ℕ → ℕ → Bool) (i : ℕ) : Type 0 where
  pub start : ℕ
  pub between : List ℕ
  pub walk : Walk link start between start
  pub on : In i (start ∷ between)
  pub lowest : c i ≡ seen min c start between
  pub wrong : parity a (seen min c start between) ≡ false

-- i has the wrong parity and reaches itself by one link or more through positions of priority at least its own
pub record Return (a : Player) (c : ℕ → ℕ) (link : ℕ → ℕ → Bool) (i : ℕ) : Type 0 where
  pub between : List ℕ
  pub walk : Walk link i between i
  pub above : (k : ℕ) → In k between → c i ≤ c k
  pub wrong : parity a (c i) ≡ false
