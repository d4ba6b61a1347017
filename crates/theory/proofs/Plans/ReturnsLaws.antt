-- Refusal 16 is a return: one way the return is the closed walk, the other way the walk is started at the position.
use Rattle.std.specs.Prelude.{◌≡◌, refl, ◌↔◌, Bool, List, ◌∷◌, ℕ, ◌≤◌, min}
use Rattle.std.proofs.Common.{inl, inr, le_refl, le_antisymm}
use Rattle.std.proofs.Math.Bool.{So}
use Rattle.theory.proofs.Logic.BoolsLaws.{decide, clash}
use Rattle.theory.specs.Games.Game.{Player, parity}
use Rattle.theory.specs.Plans.Plan.{Walk, seen}
use Rattle.theory.specs.Plans.Returns.{In, WrongWalk, Return}
use Rattle.theory.proofs.Plans.WalkLaws.{walk_rotate, seen_le, seen_ge, seen_at}

module _ (a : Player) (c : ℕ → ℕ) (link : ℕ → ℕ → Bool) where
  return_in : (i : ℕ) → WrongWalk a c link i → Return a c link i
  return_in i w =
      let r = walk_rotate link w.start w.between i w.walk w.on in record {
        between = r.between;
        walk = r.walk;
        above = λ k m. rw w.lowest (seen_le c w.start w.between k (r.parts k m));
        wrong = rw w.lowest w.wrong;
      }

  return_out : (i : ℕ) → Return a c link i → WrongWalk a c link i
  return_out i r = record {
    start = i;
    between = r.between;
    walk = r.walk;
    on = inl refl;
    lowest = lowest;
    wrong = rw (← lowest) r.wrong;
  }
    where
      all : (k : ℕ) → In k (i ∷ r.between) → c i ≤ c k
      all k (inl e) = rw e (le_refl (c i))
      all k (inr m) = r.above k m

      lowest : c i ≡ seen min c i r.between
      lowest = le_antisymm (seen_ge c (c i) i r.between all) (seen_le c i r.between i (inl refl))

  -- i lies on a closed walk of the wrong parity and has its lowest priority exactly when it has the wrong parity and returns
  pub wrong_walk_return : (i : ℕ) → WrongWalk a c link i ↔ Return a c link i
  wrong_walk_return i = (return_in i, return_out i)

  -- so every closed walk has the player's parity exactly when no position returns
  pub closed_in : ((i : ℕ) → Return a c link i → ⊥) → (i : ℕ) (ks : List ℕ) → Walk link i ks i → So (parity a (seen min c i ks))
  closed_in none i ks w = elim (decide (parity a (seen min c i ks))) [
    | inl t ↦ t
    | inr f ↦ (
        let s = seen_at c i ks in
        absurd (none s.0 (return_in s.0 (record { start = i; between = ks; walk = w; on = s.1; lowest = s.2; wrong = f }))))
  ]

  pub closed_out : ((i : ℕ) (ks : List ℕ) → Walk link i ks i → So (parity a (seen min c i ks))) → (i : ℕ) → Return a c link i → ⊥
  closed_out closed i r = let w = return_out i r in clash (closed w.start w.between w.walk) w.wrong
