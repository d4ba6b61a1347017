-- Laws of the stamps on answered vertices.
use Rattle.std.specs.Prelude.{◌≡◌, refl, Bool, cond, List, ℕ, ◌+◌, ◌≤◌, ◌<◌, eqb, length, get_or, set}
use Rattle.std.proofs.Common.{sym, ◌∙◌, le_refl, arith, eq-eqb, ne_eqb}
use Rattle.std.proofs.Math.Path.{ap, fun_ext}
use Rattle.std.proofs.Math.Bool.{true, false, not, So}
use Rattle.theory.specs.Logic.Range.{any_from}
use Rattle.theory.proofs.Logic.RangeLaws.{from_in, from_end, from_same}
use Rattle.theory.proofs.Logic.ListLaws.{after_set}
use Rattle.index.specs.Index.{among}
use Rattle.plan_links.specs.PlanTable.{vertex_at}
use Rattle.plan.specs.Stamps.{stands_at, StampedTo, Stamped, unstamped, unstamped_target, unanswered}

pub stamped_none : (w targets : List ℕ) (a stamp : ℕ) (old : List ℕ) → StampedTo w targets a a stamp old old
stamped_none w targets a stamp old = record { at = λ x. rw (from_end a a (λ k. stands_at w x (get_or targets k 0)) (le_refl a)) }

pub stamped_more : (w targets : List ℕ) (a t stamp : ℕ) (old new : List ℕ) → a ≤ t → (v : ℕ) → v ≡ vertex_at w (get_or targets t 0) → v < length new
    → StampedTo w targets a t stamp old new → StampedTo w targets a (t + 1) stamp old (set new v stamp)
unfolding stands_at
stamped_more w targets a t stamp old new h v e l f = record {
  at =
      after_set (λ (x y : ℕ). y ≡ cond (any_from a (t + 1) (λ k. stands_at w x (get_or targets k 0))) stamp (get_or old x 0)) new v stamp l
      (rw (from_in a (t + 1) (λ k. stands_at w v (get_or targets k 0)) t h (omega arith) (eq-eqb _ v (sym e))))
      (λ x d. rw (from_same a t (λ k. stands_at w x (get_or targets k 0)) (ne_eqb _ x (λ q. d (sym q ∙ sym e)))) (f.at x));
}

pub stamped_all : (w starts targets : List ℕ) (i t stamp : ℕ) (old new : List ℕ) → t ≡ get_or starts (i + 1) 0 → StampedTo w targets (get_or starts i 0) t stamp old new
    → Stamped w starts targets i stamp old new
unfolding among
stamped_all w starts targets i t stamp old new e f = record { at = λ x. rw e at (f.at x) }

-- ---- a target without a stamp

module _ (starts targets stamps : List ℕ) (v stamp : ℕ) where
  pub unstamped_none : any_from (get_or starts v 0) (get_or starts v 0) (unstamped_target stamps stamp targets) ≡ false
  unstamped_none = from_end _ _ (unstamped_target stamps stamp targets) (le_refl (get_or starts v 0))

  pub unstamped_not : (a t : ℕ) → get_or stamps (get_or targets t 0) 0 ≡ stamp → any_from a t (unstamped_target stamps stamp targets) ≡ false
      → any_from a (t + 1) (unstamped_target stamps stamp targets) ≡ false
  unfolding unstamped_target unstamped
  unstamped_not a t e f = from_same a t (unstamped_target stamps stamp targets) (ap not (eq-eqb (get_or stamps (get_or targets t 0) 0) stamp e)) ∙ f

  pub unstamped_here : (t : ℕ) → get_or starts v 0 ≤ t → t < get_or starts (v + 1) 0 → (get_or stamps (get_or targets t 0) 0 ≡ stamp → ⊥)
      → So (among starts targets v (unstamped stamps stamp))
  unfolding among unstamped
  unstamped_here t h k d = from_in (get_or starts v 0) (get_or starts (v + 1) 0) _ t h k (ap not (ne_eqb (get_or stamps (get_or targets t 0) 0) stamp d))

  pub unstamped_all : (t : ℕ) → t ≡ get_or starts (v + 1) 0 → any_from (get_or starts v 0) t (unstamped_target stamps stamp targets) ≡ false
      → among starts targets v (unstamped stamps stamp) ≡ false
  unfolding among unstamped_target
  unstamped_all t e f = rw e at f

-- ---- after the stamps of position i, a vertex has none exactly if no link of i answers it

module _ (w starts targets old new : List ℕ) (i stamp : ℕ) (m : Stamped w starts targets i stamp old new) (before : (x : ℕ) → get_or old x 0 < stamp) where
  pub stamped_le : (x : ℕ) → get_or new x 0 ≤ stamp
  stamped_le x = rw (m.at x) (go (among starts targets i (stands_at w x)))
    where
      go : (b : Bool) → cond b stamp (get_or old x 0) ≤ stamp
      go true = omega arith
      go false = omega (arith, before x)

  pub unstamped_unanswered : (x : ℕ) → unstamped new stamp x ≡ unanswered w starts targets i x
  unfolding unstamped unanswered
  unstamped_unanswered x = rw (m.at x) (go (among starts targets i (stands_at w x)))
    where
      go : (b : Bool) → not (eqb (cond b stamp (get_or old x 0)) stamp) ≡ not b
      go true = ap not (eq-eqb stamp stamp refl)
      go false = ap not (ne_eqb (get_or old x 0) stamp (λ e. omega (arith, before x, e)))

pub among_ext : (starts targets : List ℕ) (v : ℕ) (q r : ℕ → Bool) → ((x : ℕ) → q x ≡ r x) → among starts targets v q ≡ among starts targets v r
among_ext starts targets v q r f = ap (among starts targets v) (fun_ext f)
