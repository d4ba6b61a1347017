-- Demand 3 about games: what a merge keeps. Plans are of any length.
use Rattle.std.specs.Prelude.{◌↔◌, ℕ, ◌<◌}
use Rattle.std.proofs.Math.Bool.{So}
use Rattle.theory.specs.Games.Game.{Player, even, odd, other, Game}
use Rattle.theory.specs.Order.Simulation.{DirectSimulation, Below}
use Rattle.theory.proofs.Order.SimulationLaws.{below_dual}
use Rattle.theory.specs.Order.Order.{order}
use Rattle.theory.proofs.Order.OrderLaws.{order_out, order_largest}
use Rattle.theory.specs.Plans.Plan.{Won}
use Rattle.theory.specs.Classes.Reduction.{quotient_edge, reduced_edge, quotient, reduced, class_of}
use Rattle.theory.proofs.Classes.ReductionLaws.{class_above, class_below, quotient_enough, reduced_enough, class_of_quotient, class_of_reduced}
use Rattle.theory.proofs.Carry.CarryLaws.{transfer}

-- the order contains every direct simulation
pub order_contains : (g : Game) (H : ℕ → ℕ → Type 0) → DirectSimulation g g H → (v w : ℕ) → v < g.n → w < g.n → H v w → So (order g v w)
order_contains = order_largest

-- where v is below w, a winning plan for Even from v gives one from w
pub even_up : (g : Game) (v w : ℕ) → v < g.n → w < g.n → So (order g v w) → Won even g v → Won even g w
even_up g v w hv hw t = transfer even g g v w hv hw (order_out g t)

-- and a winning plan for Odd from w gives one from v
pub odd_down : (g : Game) (v w : ℕ) → v < g.n → w < g.n → So (order g v w) → Won odd g w → Won odd g v
unfolding other
odd_down g v w hv hw t = transfer odd g g w v hw hv (below_dual even (order_out g t))

-- two vertices of two games that are below each other have the same winners
unfoldable pub mutual_winner : (a : Player) (G K : Game) (v c : ℕ) → v < G.n → c < K.n → Below even G K v c → Below even K G c v → Won a G v ↔ Won a K c
unfolding other
mutual_winner even G K v c hv hc up down = (transfer even G K v c hv hc up, transfer even K G c v hc hv down)
mutual_winner odd G K v c hv hc up down = (transfer odd G K v c hv hc (below_dual even down), transfer odd K G c v hc hv (below_dual even up))

-- each player has a winning plan from a vertex exactly when that player has one from its class in the quotient
pub quotient_winner : (g : Game) (a : Player) (v : ℕ) → v < g.n → Won a g v ↔ Won a (quotient g) (class_of g v)
unfolding quotient
quotient_winner g a v h =
    mutual_winner a g (quotient g) v (class_of g v) h (class_of_quotient g v h)
    (class_above g (quotient_edge g (order g)) (quotient_enough g) v h) (class_below g (quotient_edge g (order g)) (quotient_enough g) v h)

-- and in the reduced game
unfoldable pub reduced_winner : (g : Game) (a : Player) (v : ℕ) → v < g.n → Won a g v ↔ Won a (reduced g) (class_of g v)
unfolding reduced
reduced_winner g a v h =
    mutual_winner a g (reduced g) v (class_of g v) h (class_of_reduced g v h)
    (class_above g (reduced_edge g (order g)) (reduced_enough g) v h) (class_below g (reduced_edge g (order g)) (reduced_enough g) v h)
