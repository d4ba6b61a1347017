-- What the parts of the calls that carry a plan assume and promise of each other. No public promise cites these.
use Rattle.std.specs.Prelude.{◌≡◌, Bool, true, false, List, ℕ, ◌≤◌, ◌<◌, get_or}
use Rattle.theory.specs.Logic.Range.{tabulate}
use Rattle.theory.specs.Order.Passes.{Rel}
use Rattle.theory.specs.Games.Game.{Game}
use Rattle.theory.specs.Order.Order.{order}
use Rattle.theory.specs.Plans.Plan.{Plan}
use Rattle.theory.specs.Classes.Reduction.{class_count, representative, no_better}
use Rattle.theory.specs.Carry.Carry.{carried, carried_plan, class_no_better, carried_class_plan}
use Rattle.table.specs.Table.{vertex_count, player_of, game_of}
use Rattle.table.specs.Answers.{Row, Answer, judge, after}
use Rattle.table.specs.WellFormed.{WellFormed}
use Rattle.classes.specs.Numbering.{Classed, classes_in}
use Rattle.plan_links.specs.PlanTable.{position_count, vertex_at, plan_of}
use Rattle.plan_links.specs.PlanFormed.{PlanFormed}
use Rattle.carry_replies.specs.Replies.{seated, needed}
use Rattle.carry_search.specs.Chains.{pairs_in}
use Rattle.carry_search.specs.Work.{pair_room, link_room, vertices_at, sources_at, targets_at, part}
use Rattle.carry_output.specs.PlanWords.{plan_words, plan_counts, size_rows, carried_rows}

-- ---- whether the plan is on the game itself or, by class, on the reduced game

-- the vertex as which a vertex of the plan's game compares
unfoldable pub seat_of : Bool → Game → ℕ → ℕ
seat_of false g x = x
seat_of true g c = representative g.n (order g) c

-- each position has its seat
pub record Seats (byClass : Bool) (game plan seats : List ℕ) : Type 0 where
  pub at : (i : ℕ) → i < position_count plan → get_or seats i 0 ≡ seat_of byClass (game_of game) (vertex_at plan i)

-- the classes whose lowest member is v or above have it
pub record LowestFrom (n : ℕ) (le : Rel) (v : ℕ) (reps : List ℕ) : Type 0 where
  pub at : (c : ℕ) → c < class_count n le → v ≤ representative n le c → get_or reps c 0 ≡ representative n le c

-- the needed order, and the carried plan
unfoldable pub needed_by : Bool → List ℕ → ℕ → Rel
needed_by false game player = no_better (player_of player) (order (game_of game))
needed_by true game player = class_no_better (player_of player) (game_of game)

unfoldable pub carried_by : Bool → List ℕ → ℕ → List ℕ → ℕ → Plan
carried_by false game player plan y = carried_plan (player_of player) (game_of game) (plan_of plan) y
carried_by true game player plan y = carried_class_plan (player_of player) (game_of game) (plan_of plan) y

abbrev pub arrival_rows : Bool → List ℕ → ℕ → List ℕ → ℕ → List ℕ → List Row
arrival_rows byClass game player plan y output =
    carried_rows (vertex_count game) (needed_by byClass game player) (vertex_at plan 0) y (carried_by byClass game player plan y) output

-- ---- what is written

-- the first words of a list
abbrev pub first_words : ℕ → List ℕ → List ℕ
first_words count xs = tabulate count (λ i. get_or xs i 0)

-- a plan by the first p vertices and the first l sources and targets
unfoldable pub plan_by : List ℕ → List ℕ → List ℕ → ℕ → ℕ → Plan
plan_by vertices sources targets p l = record {
  vertices = first_words p vertices;
  links = pairs_in sources targets l;
}

-- the same in the work memory of the search
abbrev pub plan_in : List ℕ → ℕ → ℕ → Plan
plan_in work p l = plan_by (part work vertices_at pair_room) (part work sources_at link_room) (part work targets_at link_room) p l

-- the plan that the search finds
abbrev pub carried_seated : List ℕ → ℕ → List ℕ → List ℕ → ℕ → Plan
carried_seated game player plan seats y =
    carried (player_of player) (game_of game) (game_of game) (needed game player) (seated plan seats) y

-- the answer by these rows, and the output after them: the plan's words where all are passed
pub record Arrived (rows : List Row) (counts words output : List ℕ) (answer : Answer) (output' : List ℕ) : Type 0 where
  pub verdict : answer ≡ judge rows counts
  pub output_after : output' ≡ after rows words output

-- 34 and 35 of a plan, and its words
abbrev pub PlanArrived : Plan → List ℕ → Answer → List ℕ → Type 0
PlanArrived P output answer output' = Arrived (size_rows P output) (plan_counts P) (plan_words P) output answer output'

-- ---- what is known once 11 to 16 are passed

-- how many vertices the plan's game has
unfoldable pub plan_vertices : Bool → List ℕ → ℕ
plan_vertices false game = vertex_count game
plan_vertices true game = classes_in (game_of game)

-- the class of each vertex, for a plan on the reduced game
unfoldable pub ClassesFor : Bool → List ℕ → List ℕ → Type 0
ClassesFor false game classes = Unit {0}
ClassesFor true game classes = Classed (game_of game).n (order (game_of game)) classes

-- a plan to carry, and class words that are the game's
pub record Carriable (byClass : Bool) (game plan classes : List ℕ) : Type 0 where
  pub well : WellFormed game
  pub formed : PlanFormed (plan_vertices byClass game) plan
  pub classed : ClassesFor byClass game classes
