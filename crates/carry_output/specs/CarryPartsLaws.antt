-- The plan that the search finds is the carried plan, on the game itself or on the reduced game; rows 33 to 35 at each way out.
use Rattle.std.specs.Prelude.{◌≡◌, Bool, true, List, [], ◌∷◌, ℕ, ◌+◌, ◌-◌, ◌≤◌, ◌<◌, ltb, take, drop}
use Rattle.std.proofs.Math.Path.{refl, sym}
use Rattle.std.proofs.Common.{ap, ◌∙◌, zero-add, arith, length-drop, length-take-le, get_or-take, get_or-drop, lt-ltb, le-ltb}
use Rattle.std.proofs.Math.Bool.{false, not, So}
use Rattle.std.proofs.Math.Decide.{dec_lt}
use Rattle.std.proofs.Math.ListN.{length, get_or, get_or-eq_default}
use Rattle.theory.specs.Logic.Bools.{◌&◌}
use Rattle.theory.specs.Logic.Range.{tabulate}
use Rattle.theory.proofs.Logic.ListLaws.{length_tabulate, get_d_tabulate, tabulate_ext}
use Rattle.theory.specs.Order.Order.{order}
use Rattle.theory.specs.Plans.Plan.{Plan}
use Rattle.theory.specs.Classes.Reduction.{representative}
use Rattle.theory.proofs.Classes.QuotientLaws.{order_preorder, rep_lt}
use Rattle.theory.proofs.Classes.ClassLaws.{class_count_le}
use Rattle.theory.specs.Carry.Carry.{carried_plan, class_no_better}
use Rattle.theory.proofs.Carry.CarryClassLaws.{representative_zero, carried_at_lowest}
use Rattle.table.specs.Table.{vertex_count, player_of, game_of}
use Rattle.table.specs.Placing.{placed}
use Rattle.table.specs.PlacingLaws.{placed_written}
use Rattle.table.specs.Answers.{row, Answer, refused}
use Rattle.table.specs.AnswersLaws.{judge_hit, judge_next, get_d_written, after_refused, after_past}
use Rattle.table.specs.WellFormed.{WellFormed}
use Rattle.classes.specs.Numbering.{Ordered}
use Rattle.plan_links.specs.PlanTable.{position_count, vertex_at, plan_of}
use Rattle.carry_replies.specs.Replies.{seated, Seated, needed}
use Rattle.carry_output.specs.PlanWords.{plan_words, plan_counts, size_rows, carried_rows}
use Rattle.carry_output.specs.CarryParts.{seat_of, Seats, needed_by, carried_by, arrival_rows, carried_seated, Arrived, plan_vertices, Carriable}

-- ---- seats

-- a seat is a vertex of the game
seat_lt : (byClass : Bool) (game : List ℕ) (x : ℕ) → x < plan_vertices byClass game → seat_of byClass (game_of game) x < vertex_count game
unfolding plan_vertices seat_of game_of
seat_lt false game x h = h
seat_lt true game x h = rep_lt (game_of game) x h

-- the plan's game has no more vertices
plan_few : (byClass : Bool) (game : List ℕ) → plan_vertices byClass game ≤ vertex_count game
unfolding plan_vertices game_of
plan_few false game = omega arith
plan_few true game = class_count_le (vertex_count game) (order (game_of game)) (order_preorder (game_of game))

module _ {byClass : Bool} {game plan classes : List ℕ} (can : Carriable byClass game plan classes) {marks : List ℕ} (ordered : Ordered (game_of game) marks)
    {player : ℕ} (number : player ≤ 1) where
  pub seats_seated : (seats : List ℕ) → Seats byClass game plan seats → position_count plan ≤ length seats → Seated game player plan seats marks
  seats_seated seats s long = record {
    well = can.well;
    number = number;
    formed = record {
      sized = can.formed.sized;
      vertices = λ i h. omega (arith, can.formed.vertices i h, plan_few byClass game);
      sources = can.formed.sources;
      targets = can.formed.targets;
    };
    long = long;
    inside = λ i h. rw (s.at i h) (seat_lt byClass game (vertex_at plan i) (can.formed.vertices i h));
    ordered = ordered;
  }

-- a position's vertex, by the plan's words from word 2 on
pub part_vertex : (plan : List ℕ) (p i : ℕ) → i < p → get_or (take (2 + p - 2) (drop 2 plan)) i 0 ≡ vertex_at plan i
part_vertex plan p i h = get_or-take (2 + p - 2) (drop 2 plan) i 0 (omega arith) ∙ get_or-drop 2 plan i 0

pub length_part : (plan : List ℕ) (p : ℕ) → 2 + p ≤ length plan → length (take (2 + p - 2) (drop 2 plan)) ≡ p
length_part plan p h = length-take-le (2 + p - 2) (drop 2 plan) (omega (arith, length-drop 2 plan)) ∙ omega arith

-- seats put into memory
seats_placed : (byClass : Bool) (game plan : List ℕ) (f : ℕ → ℕ)
    → ((i : ℕ) → i < position_count plan → f i ≡ seat_of byClass (game_of game) (vertex_at plan i))
    → (old new : List ℕ) → new ≡ placed 0 (tabulate (position_count plan) f) old → Seats byClass game plan new
seats_placed byClass game plan f is old new e = record {
  at = λ i h.
      let w = tabulate (position_count plan) f in
      rw (e, placed_written w old)
      (get_d_written w old i 0 (rw (length_tabulate (position_count plan) f) h) ∙ get_d_tabulate (position_count plan) f 0 i h ∙ is i h);
}

module _ (game plan : List ℕ) where
  abbrev p : ℕ
  p = position_count plan

  pub seats_copied : (old new : List ℕ) → new ≡ placed 0 (tabulate p (λ i. get_or (take (2 + p - 2) (drop 2 plan)) i 0)) old → Seats false game plan new
  unfolding seat_of
  seats_copied = seats_placed false game plan _ (part_vertex plan (position_count plan))

  -- the lowest members of the classes, by the class of each position
  pub seats_gathered : (reps : List ℕ) → ((i : ℕ) → i < p → get_or reps (vertex_at plan i) 0 ≡ seat_of true (game_of game) (vertex_at plan i))
      → (old new : List ℕ) → new ≡ placed 0 (tabulate p (λ i. get_or reps (0 + get_or (take (2 + p - 2) (drop 2 plan)) i 0) 0)) old
      → Seats true game plan new
  seats_gathered reps is =
      seats_placed true game plan (λ i. get_or reps (0 + get_or (take (2 + position_count plan - 2) (drop 2 plan)) i 0) 0)
      (λ i h. ap (λ (x : ℕ). get_or reps x 0) (zero-add _ ∙ part_vertex plan (position_count plan) i h) ∙ is i h)

-- the needed order compares seats
pub needed_seat : (byClass : Bool) (game : List ℕ) (player x y : ℕ)
    → needed_by byClass game player x y ≡ needed game player (seat_of byClass (game_of game) x) y
unfolding needed_by seat_of class_no_better
needed_seat false game player x y = refl
needed_seat true game player x y = refl

-- ---- the plan that is found

module _ (game : List ℕ) (player : ℕ) (plan seats : List ℕ) (y : ℕ) where
  own_seats : Seats false game plan seats → carried_seated game player plan seats y ≡ carried_by false game player plan y
  unfolding seated plan_of carried_by carried_plan seat_of
  own_seats s = rw (tabulate_ext (position_count plan) (λ i. get_or seats i 0) (vertex_at plan) s.at) refl

  class_seats : WellFormed game → Seats true game plan seats → carried_seated game player plan seats y ≡ carried_by true game player plan y
  unfolding carried_by seated plan_of seat_of game_of
  class_seats well s = carried_at_lowest (player_of player) (game_of game) (plan_of plan) (seated plan seats) refl size at y
    where
      size : length (seated plan seats).vertices ≡ length (plan_of plan).vertices
      size = length_tabulate (position_count plan) (λ i. get_or seats i 0) ∙ sym (length_tabulate (position_count plan) (vertex_at plan))

      beyond : (f : ℕ → ℕ) (i : ℕ) → (i < position_count plan → ⊥) → get_or (tabulate (position_count plan) f) i 0 ≡ 0
      beyond f i h = get_or-eq_default (tabulate (position_count plan) f) 0 (omega (arith, length_tabulate (position_count plan) f))

      at : (i : ℕ) → get_or (seated plan seats).vertices i 0 ≡ representative (game_of game).n (order (game_of game)) (get_or (plan_of plan).vertices i 0)
      at i = elim (dec_lt i (position_count plan)) [
        | yes h ↦ get_d_tabulate (position_count plan) (λ i. get_or seats i 0) 0 i h ∙ s.at i h
            ∙ ap (representative (game_of game).n (order (game_of game))) (sym (get_d_tabulate (position_count plan) (vertex_at plan) 0 i h))
        | no h ↦ beyond (λ i. get_or seats i 0) i h ∙ sym (representative_zero (game_of game) well.some)
            ∙ ap (representative (game_of game).n (order (game_of game))) (sym (beyond (vertex_at plan) i h))
      ]

  pub seats_carried : (byClass : Bool) → WellFormed game → Seats byClass game plan seats
      → carried_seated game player plan seats y ≡ carried_by byClass game player plan y
  seats_carried false well s = own_seats s
  seats_carried true well s = class_seats well s

-- ---- 33

module _ (byClass : Bool) (game : List ℕ) (player : ℕ) (plan : List ℕ) (y : ℕ) (output : List ℕ) where
  abbrev C : Plan
  C = carried_by byClass game player plan y

  -- the vertex is in the needed order
  abbrev fit : Bool
  fit = ltb y (vertex_count game) & needed_by byClass game player (vertex_at plan 0) y

  abbrev Arrives : Answer → List ℕ → Type 0
  Arrives = Arrived (arrival_rows byClass game player plan y output) (plan_counts C) (plan_words C) output

  unfit : fit ≡ false → Arrives (refused 33 y) output
  unfolding carried_rows
  unfit e =
      let q = judge_hit (row 33 (not fit) y) (size_rows C output) (plan_counts C) (ap not e) in
      record { verdict = sym q; output_after = sym (after_refused (arrival_rows byClass game player plan y output) (plan_counts C) (plan_words C) output q) }

  pub arrives_beyond : vertex_count game ≤ y → Arrives (refused 33 y) output
  unfolding ◌&◌
  arrives_beyond h = unfit (rw (le-ltb y (vertex_count game) h))

  pub arrives_not : (x : ℕ) → x ≡ seat_of byClass (game_of game) (vertex_at plan 0) → y < vertex_count game → needed game player x y ≡ false
      → Arrives (refused 33 y) output
  unfolding ◌&◌
  arrives_not x e h f =
      unfit (rw (lt-ltb y (vertex_count game) h) (needed_seat byClass game player (vertex_at plan 0) y ∙ rw (← e) f))

  -- 34 and 35 of the plan that was found
  pub arrives : (seats : List ℕ) → WellFormed game → Seats byClass game plan seats → y < vertex_count game
      → So (needed game player (seat_of byClass (game_of game) (vertex_at plan 0)) y)
      → (answer : Answer) (output' : List ℕ)
      → let F = carried_seated game player plan seats y in Arrived (size_rows F output) (plan_counts F) (plan_words F) output answer output' → Arrives answer output'
  unfolding carried_rows ◌&◌
  arrives seats well s h t answer output' a =
      let c = seats_carried game player plan seats y byClass well s in
      let e : not fit ≡ false = rw (lt-ltb y (vertex_count game) h, needed_seat byClass game player (vertex_at plan 0) y, t) refl in
      record {
        verdict = rw c at a.verdict ∙ sym (judge_next (row 33 (not fit) y) (size_rows C output) (plan_counts C) e);
        output_after = rw c at a.output_after ∙ sym (after_past (row 33 (not fit) y ∷ []) (size_rows C output) (plan_words C) output (e, tt));
      }
