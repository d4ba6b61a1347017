-- Document 01: a class with both owners always has one quotient edge. v is Even's and below w, Odd's: so every successor of v is below
-- every successor of w, and the classes that both reach are below each other.
use Rattle.std.specs.Prelude.{◌≡◌, ℕ, ◌<◌}
use Rattle.std.proofs.Math.Bool.{So}
use Rattle.theory.proofs.Logic.BoolsLaws.{and_in}
use Rattle.theory.specs.Games.Game.{even, odd, same, Game, Succ, Total}
use Rattle.theory.specs.Order.Simulation.{Moves, PassesTest}
use Rattle.theory.specs.Order.Order.{order, Holds}
use Rattle.theory.proofs.Order.OrderLaws.{order_trans, order_simulation}
use Rattle.theory.specs.Classes.Reduction.{same_class, class_number, representative, class_game, quotient, class_of}
use Rattle.theory.proofs.Classes.ClassLaws.{same_class_le, same_class_ge, same_class_sym, same_class_refl, same_class_trans, class_number_lt, representative_same, representatives_apart}
use Rattle.theory.proofs.Classes.QuotientLaws.{order_preorder, rep_lt, quotient_edge_out}
use Rattle.theory.proofs.Classes.ReductionLaws.{quotient_total, class_of_quotient}

module _ (g : Game) (v w : ℕ) (hv : v < g.n) (hw : w < g.n) (together : So (same_class (order g) v w))
    (ev : g.owner v ≡ even) (ow : g.owner w ≡ odd) where
  crossed : (v' w' : ℕ) → Succ g v v' → Succ g w w' → So (order g v' w')
  unfolding Moves same
  crossed =
      let p : PassesTest even g g (Holds (order g)) v w = order_simulation g v w hv hw (same_class_le (order g) v w together) in
      rw (ev, ow) at p.moves

  abbrev rep : ℕ → ℕ
  rep = representative g.n (order g)

  -- a member of the class has a successor in each class that the class reaches
  reach : (u d : ℕ) → u < g.n → So (same_class (order g) u v) → Succ (quotient g) (class_of g v) d → (u' : ℕ) × Succ g u u' × So (same_class (order g) u' (rep d))
  unfolding quotient class_game class_of
  reach u d hu t s =
      let c = rep (class_number g.n (order g) v) in
      quotient_edge_out g c (rep d) s.along u hu
      (same_class_trans g.n (order g) (order_preorder g) u v c hu hv
      (rep_lt g (class_number g.n (order g) v) (class_number_lt g.n (order g) (order_preorder g) v hv))
      t (same_class_sym (order g) c v (representative_same g.n (order g) (order_preorder g) v hv)))

  ordered : (d e : ℕ) → Succ (quotient g) (class_of g v) d → Succ (quotient g) (class_of g v) e → So (order g (rep d) (rep e))
  unfolding quotient class_game
  ordered d e s t =
      let hd = rep_lt g d s.inside in
      let he = rep_lt g e t.inside in
      let (v', sv, p) = reach v d hv (same_class_refl g.n (order g) (order_preorder g) v hv) s in
      let (w', sw, q) = reach w e hw (same_class_sym (order g) v w together) t in
      order_trans g (rep d) v' (rep e) hd sv.inside he (same_class_ge (order g) v' (rep d) p)
      (order_trans g v' w' (rep e) sv.inside sw.inside he (crossed v' w' sv sw) (same_class_le (order g) w' (rep e) q))

  pub mixed_single : Total g → (d : ℕ) × Succ (quotient g) (class_of g v) d × ((e : ℕ) → Succ (quotient g) (class_of g v) e → e ≡ d)
  unfolding quotient class_game same_class
  mixed_single total =
      let (d, s) = quotient_total g total (class_of g v) (class_of_quotient g v hv) in
      (d, s, λ e t. representatives_apart g.n (order g) (order_preorder g) e d t.inside s.inside (and_in (ordered e d t s) (ordered d e s t)))
