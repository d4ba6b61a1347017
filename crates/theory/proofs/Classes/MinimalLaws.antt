-- The reduced game is the smallest of the games that represent g. It has no two equivalent vertices, and no edge beside one that is at
-- least as good for the owner. So in a game H that represents it no vertex stands for two classes, which counts the vertices; and at a
-- vertex equivalent to class c, an edge from c to d has an edge to a vertex equivalent to d, which counts the edges.
use Rattle.std.specs.Prelude.{◌≡◌, refl, Bool, true, false, ℕ, ◌+◌, ◌*◌, ◌/◌, ◌%◌, ◌≤◌, ◌<◌}
use Rattle.std.proofs.Common.{sym, subst}
use Rattle.std.proofs.Math.Bool.{So}
use Rattle.std.proofs.lemmas.Bool.{false≢true}
use Rattle.std.proofs.Math.Decide.{ℕ_discrete}
use Rattle.std.proofs.Math.Arith.{digits_lt, digits_div, digits_mod}
use Rattle.theory.proofs.Logic.BoolsLaws.{clash, and_in, and_out, not_out}
use Rattle.theory.proofs.Logic.RangeLaws.{all_in, all_out, any_in, any_out}
use Rattle.theory.proofs.Logic.CountLaws.{count_all, count_inject, row_lt, col_lt, pair_ext}
use Rattle.theory.specs.Order.Passes.{Rel}
use Rattle.theory.specs.Games.Game.{Player, even, odd, other, Game, own, Succ, edge_count}
use Rattle.theory.proofs.Games.GameLaws.{same_refl}
use Rattle.theory.specs.Order.Simulation.{Moves, Below}
use Rattle.theory.proofs.Order.SimulationLaws.{below_dual, below_trans, below_moves}
use Rattle.theory.specs.Order.Order.{order}
use Rattle.theory.proofs.Order.OrderLaws.{below_in, below_out, order_in, order_refl}
use Rattle.theory.specs.Classes.Reduction.{same_class, representative, reduced_edge, class_game, reduced, class_of}
use Rattle.theory.specs.Classes.ClassEdges.{Better, Enough}
use Rattle.theory.proofs.Classes.ClassLaws.{representative_at, representative_one, representatives_apart}
use Rattle.theory.proofs.Classes.QuotientLaws.{order_preorder, rep_lt, no_better_in, dropped_in, reduced_edge_quotient}
use Rattle.theory.proofs.Classes.ReductionLaws.{class_into, class_from, class_above, class_below, reduced_enough, class_of_reduced}
use Rattle.theory.specs.Games.Agreement.{Agree}
use Rattle.theory.proofs.Games.AgreementLaws.{agree_sym, agree_simulation}
use Rattle.theory.specs.Classes.Minimal.{Equivalent, Represents, represents, AtLeast, Smallest}

-- ---- equivalence between games, for either player

equivalent_up : (a : Player) {G H : Game} {v x : ℕ} → Equivalent G H v x → Below a G H v x
unfolding other
equivalent_up even t = t.up
equivalent_up odd t = below_dual even t.down

equivalent_sym : {G H : Game} {v x : ℕ} → Equivalent G H v x → Equivalent H G x v
equivalent_sym t = record { up = t.down; down = t.up }

equivalent_down : (a : Player) {G H : Game} {v x : ℕ} → Equivalent G H v x → Below a H G x v
equivalent_down a t = equivalent_up a (equivalent_sym t)

equivalent_of : (a : Player) {G H : Game} {v x : ℕ} → Below a G H v x → Below a H G x v → Equivalent G H v x
unfolding other
equivalent_of even b c = record { up = b; down = c }
equivalent_of odd b c = record { up = below_dual odd c; down = below_dual odd b }

equivalent_trans : {G₁ G₂ G₃ : Game} {v u w : ℕ} → u < G₂.n → Equivalent G₁ G₂ v u → Equivalent G₂ G₃ u w → Equivalent G₁ G₃ v w
equivalent_trans h s t = record { up = below_trans even h s.up t.up; down = below_trans even h t.down s.down }

-- ---- the computed test is the definition

module _ (H G : Game) where
  pub represents_in : Represents H G → So (represents H G)
  unfolding represents
  represents_in f =
      all_in G.n _ (λ v hv.
      let r = f v hv in
      any_in H.n _ r.0 r.1 (and_in (below_in hv r.1 r.2.up) (below_in r.1 hv r.2.down)))

  pub represents_out : So (represents H G) → Represents H G
  unfolding represents
  represents_out t v hv =
      let r = any_out ((all_out t).at v hv) in
      let p = and_out r.2 in
      (r.0, r.1, record { up = below_out p.0; down = below_out p.1 })

represents_trans : {G₁ G₂ G₃ : Game} → Represents G₂ G₁ → Represents G₃ G₂ → Represents G₃ G₁
represents_trans f g v h = let r = f v h in let s = g r.0 r.1 in (s.0, s.1, equivalent_trans r.1 r.2 s.2)

-- a game that agrees with one that represents G
pub represents_agree : {G K H : Game} → Agree K H → Represents K G → Represents H G
represents_agree {G} {K} {H} e f =
    represents_trans {G₁ = G} {G₂ = K} {G₃ = H} f (λ v h. (
      v,
      rw (← e.size) h,
      record {
        up = record { relation = λ v w. v ≡ w; simulation = agree_simulation even e; holds = refl };
        down = record { relation = λ v w. v ≡ w; simulation = agree_simulation even (agree_sym e); holds = refl };
      },
    ))

-- ---- a game with nothing to leave out

-- no two vertices are equivalent, and no edge stands beside one that is at least as good for the owner
pub record Lean (K : Game) : Type 1 where
  pub apart : (c d : ℕ) → c < K.n → d < K.n → Equivalent K K c d → c ≡ d
  pub kept : (c d e : ℕ) → c < K.n → Succ K c d → Succ K c e → Below (K.owner c) K K d e → d ≡ e

module _ (K H : Game) (lean : Lean K) where
  -- The edge from c to d, at a vertex x equivalent to c: a is c's owner. Some y after x is at least as good as d for a, and some e after c
  -- at least as good as y; then e is d, and y is equivalent to d.
  answer : (c d x : ℕ) → c < K.n → x < H.n → Succ K c d → Equivalent K H c x → (y : ℕ) × Succ H x y × Equivalent K H d y
  unfolding Moves
  answer c d x hc hx s t =
      go (own K a c) (own H a x) (same_refl a) (below_moves a hc hx (equivalent_up a t)) (below_moves a hx hc (equivalent_down a t))
    where
      a : Player
      a = K.owner c

      close : (y e : ℕ) → Succ H x y → Succ K c e → Below a K H d y → Below a H K y e → (y : ℕ) × Succ H x y × Equivalent K H d y
      close y e hy he b b' =
          let q : d ≡ e = lean.kept c d e hc s he (below_trans a hy.inside b b') in
          (y, hy, equivalent_of a b (subst (λ (z : ℕ). Below a H K y z) (sym q) b'))

      go : (oc ox : Bool) → So oc → Moves oc ox (Succ K c) (Succ H x) (Below a K H) → Moves ox oc (Succ H x) (Succ K c) (Below a H K)
          → (y : ℕ) × Succ H x y × Equivalent K H d y
      go true true o up down =
          let r = up d s in
          let r' = down r.0 r.1 in
          close r.0 r'.0 r.1 r'.1 r.2 r'.2
      go true false o up down = close down.0 down.1 down.2 down.3 (up d down.0 s down.2) down.4
      go false ox o up down = absurd (false≢true o)

  -- a vertex of H is equivalent to one vertex at most
  one : (c d x : ℕ) → c < K.n → d < K.n → x < H.n → Equivalent K H c x → Equivalent K H d x → c ≡ d
  one c d x hc hd hx s t = lean.apart c d hc hd (equivalent_trans hx s (equivalent_sym t))

  module _ (represented : Represents H K) where
    fewest_vertices : K.n ≤ H.n
    fewest_vertices =
        rw (count_all K.n, count_all H.n) at
        (count_inject K.n H.n (λ i. true) (λ i. true) (Equivalent K H)
        (λ i h t. let r = represented i h in (r.0, r.1, refl, r.2))
        (λ i i' j h h' l s t. one i i' j h h' l s t))

    fewest_edges : edge_count K ≤ edge_count H
    unfolding edge_count
    fewest_edges =
        let k = K.n in
        let n = H.n in
        count_inject (k * k) (n * n) _ _
        (λ i j. Equivalent K H (i / k) (j / n) × Equivalent K H (i % k) (j % n))
        (λ i h t.
        let hc = row_lt k k i h in
        let (x, hx, u) = represented (i / k) hc in
        let (y, s, w) = answer (i / k) (i % k) x hc hx (record { inside = col_lt k k i h; along = t }) u in
        let row = digits_div x s.inside in
        let column = digits_mod x s.inside in
        (x * n + y, digits_lt hx s.inside, rw (row, column) s.along, (rw row u, rw column w)))
        (λ i i' j h h' l s t.
        pair_ext k i i'
        (one (i / k) (i' / k) (j / n) (row_lt k k i h) (row_lt k k i' h') (row_lt n n j l) s.0 t.0)
        (one (i % k) (i' % k) (j % n) (col_lt k k i h) (col_lt k k i' h') (col_lt n n j l) s.1 t.1))

    lean_least : AtLeast K.n (edge_count K) H
    lean_least = record { vertices = fewest_vertices; edges = fewest_edges }

-- ---- the games of classes

module _ (g : Game) where
  abbrev rep : ℕ → ℕ
  rep = representative g.n (order g)

  -- a class and its representative are equivalent, and so no two classes are
  module _ (E : Rel) (enough : Enough g E) where
    abbrev K : Game
    K = class_game g (order g) E

    pub class_equivalent : (c : ℕ) → c < K.n → Equivalent K g c (rep c)
    unfolding class_game
    class_equivalent c h =
        let r = order_refl g (rep c) (rep_lt g c h) in record {
          up = record { relation = λ c w. So (order g (rep c) w); simulation = class_from g E enough; holds = r };
          down = record { relation = λ v c. So (order g v (rep c)); simulation = class_into g E enough; holds = r };
        }

    pub class_apart : (c d : ℕ) → c < K.n → d < K.n → Equivalent K K c d → c ≡ d
    unfolding class_game same_class
    class_apart c d hc hd t =
        let rc = rep_lt g c hc in
        let rd = rep_lt g d hd in
        let s = equivalent_trans hc (equivalent_sym (class_equivalent c hc)) (equivalent_trans hd t (class_equivalent d hd)) in
        representatives_apart g.n (order g) (order_preorder g) c d hc hd (and_in (order_in g rc rd s.up) (order_in g rd rc s.down))

  -- ---- the reduced game

  equivalent : (c : ℕ) → c < (reduced g).n → Equivalent (reduced g) g c (rep c)
  unfolding reduced
  equivalent = class_equivalent (reduced_edge g (order g)) (reduced_enough g)

  -- an edge beside a better one would have been dropped
  reduced_kept : (c d e : ℕ) → c < (reduced g).n → Succ (reduced g) c d → Succ (reduced g) c e
      → Below ((reduced g).owner c) (reduced g) (reduced g) d e → d ≡ e
  unfolding reduced class_game reduced_edge
  reduced_kept c d e hc s t b = elim (ℕ_discrete d e) [ yes q ↦ q | no f ↦ clash (dropped_in g (rep c) (rep d) (better f)) (not_out (and_out s.along).1) ]
    where
      a : Player
      a = g.owner (rep c)

      higher : Below a g g (rep d) (rep e)
      higher =
          below_trans a s.inside (equivalent_down a (equivalent d s.inside))
          (below_trans a t.inside b (equivalent_up a (equivalent e t.inside)))

      better : (d ≡ e → ⊥) → Better g (rep c) (rep d)
      better f =
          let r = representative_at g.n (order g) (order_preorder g) e t.inside in record {
            to = rep e;
            inside = r.inside;
            is_lowest_lem = r.passes;
            apart = λ q. f (sym (representative_one g.n (order g) (order_preorder g) e d t.inside s.inside q));
            edge = reduced_edge_quotient g (rep c) (rep e) t.along;
            above = no_better_in g a (rep_lt g d s.inside) r.inside higher;
          }

  pub reduced_lean : Lean (reduced g)
  unfolding reduced
  reduced_lean = record { apart = class_apart (reduced_edge g (order g)) (reduced_enough g); kept = reduced_kept }

  pub reduced_represents : Represents (reduced g) g
  unfolding reduced
  reduced_represents v h = (
    class_of g v,
    class_of_reduced g v h,
    record {
      up = class_above g (reduced_edge g (order g)) (reduced_enough g) v h;
      down = class_below g (reduced_edge g (order g)) (reduced_enough g) v h;
    },
  )

  reduced_represented : Represents g (reduced g)
  unfolding reduced class_game
  reduced_represented c h = (rep c, rep_lt g c h, equivalent c h)

  -- as small as can be
  pub reduced_smallest : Smallest g (reduced g)
  reduced_smallest = record {
    itself = reduced_represents;
    least = λ H f.
        lean_least (reduced g) H reduced_lean
        (represents_trans {G₁ = reduced g} {G₂ = g} {G₃ = H} reduced_represented f);
  }
