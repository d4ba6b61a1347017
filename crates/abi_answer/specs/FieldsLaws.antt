-- What the library accepts is small, so its counts fit the answer's fields.
use Rattle.std.specs.Prelude.{◌≡◌, refl, List, ◌∷◌, ℕ, ◌≤◌, ◌<◌, get_or, length, Result, Ok, Err}
use Rattle.std.proofs.Common.{sym, ap, arith, ltb-false}
use Rattle.theory.proofs.Logic.BoolsLaws.{or_fails}
use Rattle.theory.specs.Games.Game.{Game, edge_count}
use Rattle.theory.specs.Order.Order.{order}
use Rattle.theory.specs.Order.Passes.{Marks, Rel}
use Rattle.theory.specs.Order.Governed.{governed_marks, governed}
use Rattle.theory.proofs.Order.GovernedLaws.{governed_equivalence}
use Rattle.theory.specs.Plans.Plan.{Plan}
use Rattle.theory.specs.Classes.Reduction.{reduced}
use Rattle.theory.proofs.Classes.SizeLaws.{reduced_size, reduced_edges}
use Rattle.theory.proofs.Classes.ClassLaws.{class_count_le}
use Rattle.theory.proofs.Classes.QuotientLaws.{order_preorder}
use Rattle.table.specs.Table.{vertex_count, table_in, game_of}
use Rattle.table.specs.Limits.{vertex_limit, edge_limit, position_limit, link_limit}
use Rattle.table.specs.Answers.{Clean}
use Rattle.table.specs.AnswersLaws.{judge_accepted, clean_split}
use Rattle.table.specs.WellFormed.{WellFormed}
use Rattle.table.specs.Reading.{game_rows, read_answer, reading_answer}
use Rattle.table.specs.ReadingLaws.{read_accepted, clean_well}
use Rattle.table.specs.TableLaws.{edges_listed}
use Rattle.table.specs.Filling.{filling_answer}
use Rattle.classes.specs.ClassesCall.{class_rows, class_total, total_of, words_of, total_answer, classification_answer, NumberedCall, ClassesCall}
use Rattle.reduction.specs.TableCall.{table_rows, class_table, tabulation_answer, TableCall}
use Rattle.edit_rules.specs.Edges.{edited}
use Rattle.edit_rules.specs.declared.Edit.{Edit}
use Rattle.edit.specs.EditCall.{call_counts, EditCall}
use Rattle.edit.proofs.EditRulesLaws.{call_passed}
use Rattle.edit.proofs.NewTableLaws.{new_well}
use Rattle.edit_preview.specs.PreviewCall.{PreviewCall}
use Rattle.edit_preview.proofs.PreviewEditLaws.{preview_edit}
use Rattle.edit_replay.specs.ReplayCall.{replayed, ReplayCall}
use Rattle.edit_replay.proofs.ReplayRulesLaws.{replay_few, replay_accepted}
use Rattle.edit_replay.proofs.FinalTableLaws.{final_well}
use Rattle.table_seed.specs.SeedCall.{SeedCall}
use Rattle.table_seed.specs.SeedRulesLaws.{seed_accepted}
use Rattle.table_convert.specs.ConvertCall.{ConvertCall}
use Rattle.table_convert.specs.ConvertRulesLaws.{convert_accepted}
use Rattle.plan.specs.Acceptance.{plan_rows}
use Rattle.carry_output.specs.PlanWords.{size_rows, carried_rows, carrying_answer}
use Rattle.carry.specs.CarryCall.{judged_rows, carry_rows, carry_class_rows, class_carrying_answer, CarryCall, CarryClassCall}
use Rattle.abi_answer.specs.Fields.{SmallSizes, SmallFilling, SmallCount, SmallCounts, SmallCarrying, SmallClassCarrying}
use Rattle.table.specs.declared.Refusal.{Refusal}
use Rattle.table.specs.declared.Sizes.{Sizes}
use Rattle.table.specs.declared.FilledSizes.{FilledSizes}
use Rattle.classes.specs.declared.ClassCount.{ClassCount}
use Rattle.reduction.specs.declared.TableCounts.{TableCounts}
use Rattle.carry_output.specs.declared.PlanCounts.{PlanCounts}
use Rattle.carry.specs.declared.ClassPlanCounts.{ClassPlanCounts}

first_count : {x y : ℕ} {xs ys : List ℕ} → x ∷ xs ≡ y ∷ ys → x ≡ y
first_count {x} e = ap (λ (l : List ℕ). get_or l 0 x) e

second_count : {x y z w : ℕ} {xs ys : List ℕ} → x ∷ y ∷ xs ≡ z ∷ w ∷ ys → y ≡ w
second_count {y} e = ap (λ (l : List ℕ). get_or l 1 y) e

third_count : {x y z u v w : ℕ} {xs ys : List ℕ} → x ∷ y ∷ z ∷ xs ≡ u ∷ v ∷ w ∷ ys → z ≡ w
third_count {z} e = ap (λ (l : List ℕ). get_or l 2 z) e

fourth_count : {x y z w x' y' z' w' : ℕ} {xs ys : List ℕ} → x ∷ y ∷ z ∷ w ∷ xs ≡ x' ∷ y' ∷ z' ∷ w' ∷ ys → w ≡ w'
fourth_count {w} e = ap (λ (l : List ℕ). get_or l 3 w) e

fifth_count : {x y z w v x' y' z' w' v' : ℕ} {xs ys : List ℕ} → x ∷ y ∷ z ∷ w ∷ v ∷ xs ≡ x' ∷ y' ∷ z' ∷ w' ∷ v' ∷ ys → v ≡ v'
fifth_count {v} e = ap (λ (l : List ℕ). get_or l 4 v) e

pub reading_small : (g : List ℕ) (r : Result Sizes Refusal) → reading_answer r ≡ read_answer g → SmallSizes r
reading_small g (Ok sizes) e =
    let (w, c) = read_accepted g _ (sym e) in (
      omega (arith, first_count c, w.vertices),
      omega (arith, second_count c, w.edges),
      omega (arith, third_count c, edges_listed g, w.edges),
    )
reading_small g (Err refusal) e = tt

-- a seeded table is within the limits
pub seeding_small : (s n d c : ℕ) (output : List ℕ) (t : Result FilledSizes Refusal) (output' : List ℕ) → SeedCall s n d c output (filling_answer t) output' → SmallFilling t
seeding_small s n d c output (Ok counts) output' call =
    let a = seed_accepted n d c output _ (sym call.verdict) in
    (omega (arith, first_count a.1, a.0.numbers.vertices.few), omega (arith, second_count a.1, a.0.numbers.edges))
seeding_small s n d c output (Err refusal) output' call = tt

-- a converted table is as large as the game
pub converting_small : (game output : List ℕ) (t : Result FilledSizes Refusal) (output' : List ℕ) → ConvertCall game output (filling_answer t) output' → SmallFilling t
converting_small game output (Ok counts) output' call =
    let a = convert_accepted call _ refl in
    (omega (arith, first_count a.1, a.0.well.vertices), omega (arith, second_count a.1, a.0.well.edges))
converting_small game output (Err refusal) output' call = tt

-- ---- class counts

classes_well : (game marks spare classes : List ℕ) → Clean (class_rows game marks spare classes) → WellFormed game
unfolding class_rows
classes_well game marks spare classes c = clean_well game (clean_split (game_rows game) _ c).0

total_le : (game : List ℕ) → class_total game ≤ vertex_count game
unfolding class_total game_of
total_le game = class_count_le (vertex_count game) (order (game_of game)) (order_preorder (game_of game))

-- whatever relation has the classes
count_small : {relation : Game → Marks} {total : List ℕ → ℕ} {words : List ℕ → List ℕ} → ((game : List ℕ) → total game ≤ vertex_count game)
    → (game marks spare classes : List ℕ) (c : Result ClassCount Refusal) (marks' spare' classes' : List ℕ)
    → NumberedCall relation total words game marks spare classes (classification_answer c) marks' spare' classes' → SmallCount c
unfolding total_answer
count_small few game marks spare classes (Ok count) marks' spare' classes' call =
    let a = judge_accepted (class_rows game marks spare classes) _ _ (sym call.verdict) in
    omega (arith, first_count a.1, few game, (classes_well game marks spare classes a.0).vertices)
count_small few game marks spare classes (Err refusal) marks' spare' classes' call = tt

pub classification_small : (game marks spare classes : List ℕ) (c : Result ClassCount Refusal) (marks' spare' classes' : List ℕ)
    → ClassesCall game marks spare classes (classification_answer c) marks' spare' classes' → SmallCount c
classification_small = count_small total_le

governed_le : (game : List ℕ) → total_of governed game ≤ vertex_count game
unfolding total_of game_of
governed_le game = class_count_le (vertex_count game) (governed (game_of game)) (governed_equivalence (game_of game)).preorder

pub governed_small : (game marks spare classes : List ℕ) (c : Result ClassCount Refusal) (marks' spare' classes' : List ℕ)
    → NumberedCall governed_marks (total_of governed) (words_of governed) game marks spare classes (classification_answer c) marks' spare' classes' → SmallCount c
governed_small = count_small governed_le

-- ---- a table's counts, for a game K of classes that is no larger

record Within (K : Game → Game) (game : List ℕ) : Type 0 where
  total : class_total game ≤ vertex_limit
  vertices : (K (game_of game)).n ≤ vertex_limit
  edges : edge_count (K (game_of game)) ≤ edge_limit

table_within : (K : Game → Game) → ((g : Game) → (K g).n ≤ g.n) → ((g : Game) → edge_count (K g) ≤ edge_count g)
    → (game marks spare classes output : List ℕ) → Clean (table_rows game marks spare classes output) → Within K game
unfolding table_rows game_of
table_within K size edges game marks spare classes output c =
    let well = classes_well game marks spare classes (clean_split (class_rows game marks spare classes) _ c).0 in
    record {
      total = omega (arith, total_le game, well.vertices);
      vertices = omega (arith, size (game_of game), well.vertices);
      edges = omega (arith, edges (game_of game), edges_listed game, well.edges);
    }

pub tabulation_small : (K : Game → Game) → ((g : Game) → (K g).n ≤ g.n) → ((g : Game) → edge_count (K g) ≤ edge_count g)
    → (game marks spare classes output : List ℕ) (t : Result TableCounts Refusal) (marks' spare' classes' output' : List ℕ)
    → TableCall K game marks spare classes output (tabulation_answer t) marks' spare' classes' output' → SmallCounts t
tabulation_small K size edges game marks spare classes output (Ok counts) marks' spare' classes' output' call =
    let a = judge_accepted (table_rows game marks spare classes output) _ _ (sym call.verdict) in
    let w = table_within K size edges game marks spare classes output a.0 in (
      omega (arith, first_count a.1, w.total),
      omega (arith, second_count a.1, w.vertices),
      omega (arith, third_count a.1, w.edges),
    )
tabulation_small K size edges game marks spare classes output (Err refusal) marks' spare' classes' output' call = tt

-- ---- a replay's counts: its table is well formed, and a trace has few entries

pub replaying_small : (buffer trace marks spare classes : List ℕ) (r : Result TableCounts Refusal) (entries : ℕ) (buffer' marks' spare' classes' : List ℕ)
    → ReplayCall buffer trace marks spare classes (tabulation_answer r) entries buffer' marks' spare' classes' → SmallCounts r × (entries < 4294967296)
unfolding call_counts
replaying_small buffer trace marks spare classes (Ok counts) entries buffer' marks' spare' classes' call =
    let p = replay_accepted call _ refl in
    let w = final_well call p.0 in
    let c = p.2 in (
      (
        omega (arith, first_count c, total_le (replayed buffer trace).table, w.vertices),
        omega (arith, second_count c, w.vertices),
        omega (arith, third_count c, w.edges),
      ),
      omega (arith, replay_few call),
    )
replaying_small buffer trace marks spare classes (Err refusal) entries buffer' marks' spare' classes' call =
    (tt, omega (arith, replay_few call))

-- ---- an edited table's counts: it is well formed

pub editing_small : (e : Edit) (buffer : List ℕ) (s t : ℕ) (marks spare classes : List ℕ) (r : Result TableCounts Refusal) (buffer' marks' spare' classes' : List ℕ)
    → EditCall e buffer s t marks spare classes (tabulation_answer r) buffer' marks' spare' classes' → SmallCounts r
unfolding call_counts
editing_small e buffer s t marks spare classes (Ok counts) buffer' marks' spare' classes' call =
    let c = (call_passed call _ refl).1 in
    let w = new_well call in (
      omega (arith, first_count c, total_le (edited e (table_in buffer) s t), w.vertices),
      omega (arith, second_count c, w.vertices),
      omega (arith, third_count c, w.edges),
    )
editing_small e buffer s t marks spare classes (Err refusal) buffer' marks' spare' classes' call = tt

-- accepted, a preview is an edit of the copy
pub previewing_small : (e : Edit) (game : List ℕ) (s t : ℕ) (table marks spare classes : List ℕ) (r : Result TableCounts Refusal) (table' marks' spare' classes' : List ℕ)
    → PreviewCall e game s t table marks spare classes (tabulation_answer r) table' marks' spare' classes' → SmallCounts r
previewing_small e game s t table marks spare classes (Ok counts) table' marks' spare' classes' call =
    editing_small e _ s t marks spare classes (Ok counts) table' marks' spare' classes' (preview_edit game call _ refl)
previewing_small e game s t table marks spare classes (Err refusal) table' marks' spare' classes' call = tt

-- ---- a carried plan's counts: 34 didn't hold

carried_within : (n : ℕ) (K : Rel) (x y : ℕ) (C : Plan) (output : List ℕ) → Clean (carried_rows n K x y C output)
    → (length C.vertices ≤ position_limit) × (length C.links ≤ link_limit)
unfolding carried_rows size_rows
carried_within n K x y C output c =
    let f = (or_fails _ _).0 c.1.0 in
    (ltb-false position_limit (length C.vertices) f.0, ltb-false link_limit (length C.links) f.1)

pub carrying_small : (game : List ℕ) (player : ℕ) (plan : List ℕ) (vertex : ℕ) (marks spare output : List ℕ) (c : Result PlanCounts Refusal) (marks' spare' output' : List ℕ)
    → CarryCall game player plan vertex marks spare output (carrying_answer c) marks' spare' output' → SmallCarrying c
unfolding carry_rows
carrying_small game player plan vertex marks spare output (Ok counts) marks' spare' output' call =
    let a = judge_accepted (carry_rows game player plan vertex marks spare output) _ _ (sym call.verdict) in
    let w = carried_within _ _ _ _ _ _ (clean_split (judged_rows game player plan marks spare) _ a.0).1 in
    (omega (arith, first_count a.1, w.0), omega (arith, second_count a.1, w.1))
carrying_small game player plan vertex marks spare output (Err refusal) marks' spare' output' call = tt

pub class_carrying_small : (game : List ℕ) (player : ℕ) (plan : List ℕ) (vertex : ℕ) (marks spare classes reduction output : List ℕ) (c : Result ClassPlanCounts Refusal)
    (marks' spare' classes' reduction' output' : List ℕ)
    → CarryClassCall game player plan vertex marks spare classes reduction output (class_carrying_answer c) marks' spare' classes' reduction' output'
    → SmallClassCarrying c
unfolding carry_class_rows
class_carrying_small game player plan vertex marks spare classes reduction output (Ok found) marks' spare' classes' reduction' output' call =
    let a = judge_accepted (carry_class_rows game player plan vertex marks spare classes reduction output) _ _ (sym call.verdict) in
    let s = clean_split (table_rows game marks spare classes reduction) _ a.0 in
    let w = table_within reduced reduced_size reduced_edges game marks spare classes reduction s.0 in
    let v = carried_within _ _ _ _ _ _ (clean_split (plan_rows (class_table reduced game) player plan) _ s.1).1 in (
      omega (arith, first_count a.1, w.total),
      omega (arith, second_count a.1, w.vertices),
      omega (arith, third_count a.1, w.edges),
      omega (arith, fourth_count a.1, v.0),
      omega (arith, fifth_count a.1, v.1),
    )
class_carrying_small game player plan vertex marks spare classes reduction output (Err refusal) marks' spare' classes' reduction' output' call = tt
