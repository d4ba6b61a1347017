-- The order is document 004's: marked exactly when some direct simulation holds the pair. It is itself one, reflexive and transitive.
use Rattle.std.specs.Prelude.{◌≡◌, Bool, true, false, ℕ, suc, ◌+◌, ◌*◌, ◌≤◌, ◌<◌, length}
use Rattle.std.proofs.Common.{sym, ◌∙◌}
use Rattle.std.proofs.Math.Bool.{So}
use borrow.Author.Tests.{eqb-true, eq-eqb}
use Rattle.theory.proofs.Logic.BoolsLaws.{So_ext, and_in, and_out, imp_in, imp_out}
use Rattle.theory.proofs.Logic.RangeLaws.{all_in, all_out, any_in, any_out}
use Rattle.theory.specs.Order.Passes.{Rel, pair_start, pair_test, largest}
use Rattle.theory.proofs.Order.PassesLaws.{length_final_marks, largest_start, largest_fixed, largest_contains, passes_le}
use Rattle.theory.specs.Games.Game.{Player, even, Game, own, Succ}
use Rattle.theory.specs.Order.Simulation.{Moves, PassesTest, Simulation, DirectSimulation, Below}
use Rattle.theory.proofs.Order.SimulationLaws.{moves_mono, below_refl, below_trans}
use Rattle.theory.specs.Order.Order.{all_next, any_next, moves, equal_priority, test, marks_between, below, order_marks, order, order_passes, Holds}

-- ---- the computed test is the test

module _ (g : Game) (v : ℕ) (p : ℕ → Bool) where
  pub all_next_in : ((x : ℕ) → Succ g v x → So (p x)) → So (all_next g v p)
  unfolding all_next
  all_next_in f = all_in g.n _ (λ x h. imp_in (λ e. f x (record { inside = h; along = e })))

  pub all_next_out : So (all_next g v p) → (x : ℕ) → Succ g v x → So (p x)
  unfolding all_next
  all_next_out t x s = imp_out ((all_out t).at x s.inside) s.along

  pub any_next_in : (x : ℕ) → Succ g v x → So (p x) → So (any_next g v p)
  unfolding any_next
  any_next_in x s t = any_in g.n _ x s.inside (and_in s.along t)

  pub any_next_out : So (any_next g v p) → (x : ℕ) × Succ g v x × So (p x)
  unfolding any_next
  any_next_out t = let r = any_out t in let s = and_out r.2 in (r.0, record { inside = r.1; along = s.0 }, s.1)

pub moves_in : (ov ow : Bool) (g h : Game) (H : Rel) (v w : ℕ) → Moves ov ow (Succ g v) (Succ h w) (Holds H) → So (moves ov ow g h H v w)
unfolding moves Moves
moves_in true true g h H v w m = all_next_in g v _ (λ v' s. let r = m v' s in any_next_in h w _ r.0 r.1 r.2)
moves_in true false g h H v w m = all_next_in g v _ (λ v' s. all_next_in h w _ (λ w' t. m v' w' s t))
moves_in false true g h H v w m = any_next_in g v _ m.0 m.2 (any_next_in h w _ m.1 m.3 m.4)
moves_in false false g h H v w m = all_next_in h w _ (λ w' t. let r = m w' t in any_next_in g v _ r.0 r.1 r.2)

pub moves_out : (ov ow : Bool) (g h : Game) (H : Rel) (v w : ℕ) → So (moves ov ow g h H v w) → Moves ov ow (Succ g v) (Succ h w) (Holds H)
unfolding moves Moves
moves_out true true g h H v w t = λ v' s. any_next_out h w _ (all_next_out g v _ t v' s)
moves_out true false g h H v w t = λ v' w' s u. all_next_out h w _ (all_next_out g v _ t v' s) w' u
moves_out false true g h H v w t = let r = any_next_out g v _ t in let q = any_next_out h w _ r.2 in (r.0, q.0, r.1, q.1, q.2)
moves_out false false g h H v w t = λ w' u. any_next_out g v _ (all_next_out h w _ t w' u)

module _ (a : Player) (g h : Game) where
  -- a Bool-valued relation passes at (v, w), computed and in types
  pub passes_out : (H : Rel) (v w : ℕ) → So (equal_priority g h v w) → So (test a g h H v w) → PassesTest a g h (Holds H) v w
  unfolding equal_priority test
  passes_out H v w e t = record { equal = eqb-true _ _ e; moves = moves_out _ _ g h H v w t }

  pub passes_in : (H : Rel) (v w : ℕ) → PassesTest a g h (Holds H) v w → So (equal_priority g h v w) × So (test a g h H v w)
  unfolding equal_priority test
  passes_in H v w p = (eq-eqb _ _ p.equal, moves_in _ _ g h H v w p.moves)

  -- where H passes, a computed relation that holds H does
  pub test_holds : (H : ℕ → ℕ → Type 0) (m : Rel) → ((x y : ℕ) → x < g.n → y < h.n → H x y → So (m x y))
      → (v w : ℕ) → PassesTest a g h H v w → So (test a g h m v w)
  unfolding test
  test_holds H m c v w p =
      moves_in _ _ g h m v w
      (moves_mono (own g a v) (own h a w) (Succ g v) (Succ h w) H (Holds m) (λ x y s t q. c x y s.inside t.inside q) p.moves)

  -- ---- the order between two games, for a player

  -- the marks are a simulation
  pub below_simulation : Simulation a g h (Holds (below a g h))
  unfolding below marks_between largest
  below_simulation v w hv hw t =
      passes_out (below a g h) v w
      (largest_start g.n h.n (test a g h) (equal_priority g h) v w hv hw t)
      (largest_fixed g.n h.n (test a g h) (equal_priority g h) v w hv hw t)

  -- they hold every simulation
  pub below_largest : (H : ℕ → ℕ → Type 0) → Simulation a g h H → (v w : ℕ) → v < g.n → w < h.n → H v w → So (below a g h v w)
  unfolding below marks_between largest equal_priority
  below_largest H sim =
      largest_contains g.n h.n (test a g h) (equal_priority g h) H
      (λ v w hv hw r. eq-eqb _ _ (sim v w hv hw r).equal)
      (λ m c v w hv hw r. test_holds H m c v w (sim v w hv hw r))

-- so: marked exactly when some simulation holds the pair
pub below_in : {a : Player} {g h : Game} {v w : ℕ} → v < g.n → w < h.n → Below a g h v w → So (below a g h v w)
below_in {a} {g} {h} {v} {w} hv hw b = below_largest a g h b.relation b.simulation v w hv hw b.holds

pub below_out : {a : Player} {g h : Game} {v w : ℕ} → So (below a g h v w) → Below a g h v w
below_out {a} {g} {h} t = record { relation = Holds (below a g h); simulation = below_simulation a g h; holds = t }

-- ---- the test as the relation grows

module _ (g : Game) where
  -- a smaller relation passes less
  pub test_mono : (H K : Rel) (v w : ℕ) → ((x y : ℕ) → x < g.n → y < g.n → So (H x y) → So (K x y)) → So (test even g g H v w) → So (test even g g K v w)
  unfolding test
  test_mono H K v w f t =
      moves_in (own g even v) (own g even w) g g K v w
      (moves_mono (own g even v) (own g even w) (Succ g v) (Succ g w) (Holds H) (Holds K) (λ x y s u q. f x y s.inside u.inside q)
      (moves_out (own g even v) (own g even w) g g H v w t))

  -- the test goes by the pairs of vertices alone
  pub test_same : (H K : Rel) (v w : ℕ) → ((x y : ℕ) → x < g.n → y < g.n → H x y ≡ K x y) → test even g g H v w ≡ test even g g K v w
  test_same H K v w e =
      So_ext (test_mono H K v w (λ x y hx hy t. sym (e x y hx hy) ∙ t)) (test_mono K H v w (λ x y hx hy t. e x y hx hy ∙ t))

-- ---- the order of one game

module _ (g : Game) where
  pub order_in : {v w : ℕ} → v < g.n → w < g.n → Below even g g v w → So (order g v w)
  unfolding order order_marks below
  order_in hv hw b = below_in hv hw b

  pub order_out : {v w : ℕ} → So (order g v w) → Below even g g v w
  unfolding order order_marks below
  order_out t = below_out t

  pub length_order_marks : length (order_marks g) ≡ g.n * g.n
  unfolding order_marks marks_between
  length_order_marks = length_final_marks (g.n * g.n) (pair_test g.n (test even g g)) (pair_start g.n (equal_priority g g))

  pub order_simulation : DirectSimulation g g (Holds (order g))
  unfolding order order_marks below
  order_simulation = below_simulation even g g

  pub order_largest : (H : ℕ → ℕ → Type 0) → DirectSimulation g g H → (v w : ℕ) → v < g.n → w < g.n → H v w → So (order g v w)
  unfolding order order_marks below
  order_largest = below_largest even g g

  pub order_refl : (v : ℕ) → v < g.n → So (order g v v)
  order_refl v h = order_in h h (below_refl even g v)

  pub order_trans : (v u w : ℕ) → v < g.n → u < g.n → w < g.n → So (order g v u) → So (order g u w) → So (order g v w)
  order_trans v u w hv hu hw p q = order_in hv hw (below_trans even hu (order_out p) (order_out q))

  -- at most n × n - n + 1 passes
  pub order_passes_le : order_passes g + g.n ≤ suc (g.n * g.n)
  unfolding order_passes order order_marks marks_between
  order_passes_le = passes_le g.n (test even g g) (equal_priority g g) (unfold largest in order_refl)
