-- "a class of the reduced game, which compares as its lowest member": the plan carried from a class is that carried on the game itself
-- where each position stands at its class's lowest member.
use Rattle.std.specs.Prelude.{◌≡◌, Bool, length, get_or}
use Rattle.std.proofs.Math.Path.{refl, ap, fun_ext}
use Rattle.std.proofs.Common.{◌∙◌, arith}
use Prim.Native.Nat.{ℕ, zero, suc, ◌<◌}
use Rattle.theory.specs.Logic.Range.{count}
use Rattle.theory.specs.Games.Game.{Player, Game, own}
use Rattle.theory.specs.Order.Order.{order}
use Rattle.theory.specs.Plans.Plan.{Plan}
use Rattle.theory.specs.Classes.Reduction.{lowest, class_number, representative, no_better, class_game, reduced}
use Rattle.theory.proofs.Classes.ClassLaws.{same_class_refl, lowest_le, representative_class}
use Rattle.theory.proofs.Classes.QuotientLaws.{order_preorder}
use Rattle.theory.specs.Carry.Carry.{answer, answer_to, moves_below, moves_of, found_from, carried, class_no_better, carried_class_plan}

-- the lowest member of class 0 is vertex 0
pub representative_zero : (g : Game) → 0 < g.n → representative g.n (order g) 0 ≡ 0
unfolding class_number count
representative_zero g h =
    let pre = order_preorder g in
    let l : lowest g.n (order g) 0 ≡ 0 = omega (arith, lowest_le g.n (order g) pre 0 0 (same_class_refl g.n (order g) pre 0 h)) in
    let c : class_number g.n (order g) 0 ≡ 0 = rw l refl in
    rw c at (representative_class g.n (order g) pre 0 h) ∙ l

module _ (a : Player) (g : Game) (P Q : Plan) (links : Q.links ≡ P.links) (size : length Q.vertices ≡ length P.vertices)
    (at : (i : ℕ) → get_or Q.vertices i 0 ≡ representative g.n (order g) (get_or P.vertices i 0)) where
  answer_at : (i u : ℕ) → answer_to a g g (no_better a (order g)) Q i u ≡ answer_to a (reduced g) g (class_no_better a g) P i u
  unfolding answer_to class_no_better reduced class_game
  answer_at i u =
      rw (links, at i)
      (ap (λ (keeps : ℕ → Bool). answer P.links (own g a (representative g.n (order g) (get_or P.vertices i 0))) keeps i) (fun_ext (λ j. ap (λ (x : ℕ). no_better a (order g) x u) (at j))))

  below_at : (i u b : ℕ) → moves_below a g g (no_better a (order g)) Q i u b ≡ moves_below a (reduced g) g (class_no_better a g) P i u b
  unfolding moves_below
  below_at i u zero = refl
  below_at i u (suc b) = rw (below_at i u b, answer_at i b, links) refl

  moves_at : (x : ℕ × ℕ) → moves_of a g g (no_better a (order g)) Q x ≡ moves_of a (reduced g) g (class_no_better a g) P x
  unfolding moves_of
  moves_at x = rw (below_at x.0 x.1 g.n) refl

  pub carried_at_lowest : (y : ℕ) → carried a g g (no_better a (order g)) Q y ≡ carried_class_plan a g P y
  unfolding carried found_from carried_class_plan
  carried_at_lowest y = rw (size, fun_ext moves_at) refl
