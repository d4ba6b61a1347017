-- The theorems of `Demands` applied to game D, whose vertices 0 and 5 are class 0, and to a game of Odd's: games that a reader can follow.
use Rattle.std.specs.Prelude.{refl, List, [], ◌∷◌, ℕ, replicate}
use Rattle.std.proofs.Common.{sym, arith}
use Rattle.std.proofs.Math.Bool.{So}
use Rattle.theory.specs.Games.Game.{even, odd, Game}
use Rattle.theory.specs.Plans.Plan.{Plan, Wins, Won}
use Rattle.theory.proofs.Plans.PlanTestLaws.{surely_wins_lem}
use Rattle.theory.specs.Classes.Reduction.{reduced}
use Rattle.theory.proofs.Examples.Compute.{compute}
use Rattle.theory.proofs.Examples.Examples.{class_plan, game_c}
use Rattle.theory.specs.Classes.Minimal.{represents, AtLeast}
use Rattle.theory.proofs.Classes.MinimalLaws.{represents_out}
use Rattle.theory.proofs.Examples.MinimalExamples.{turned}
use Rattle.table.specs.Table.{game_of, player_of, is_edge}
use Rattle.table.specs.Answers.{Answer, accepted, judge, Clean, written, after}
use Rattle.table.specs.AnswersLaws.{judge_accepted}
use Rattle.table.specs.Reading.{lacks_edge, first_owner, first_end, first_lacking, game_rows_by}
use Rattle.words.specs.Word.{digit, number}
use Rattle.marks.specs.Marks.{is_mark, byte_of, bytes}
use Rattle.table.specs.TableWords.{owner_word, table_words}
use Rattle.order.specs.OrderCall.{order_rows}
use Rattle.classes.specs.ClassesCall.{class_rows, class_total, class_words}
use Rattle.reduction.specs.TableCall.{table_rows, TableCall}
use Rattle.claims.specs.WrittenMemory.{LeavesOrder}
use Rattle.claims.specs.Demands.{table_leaves_marks, even_up, odd_down, reduced_faithful, table_winner}
use Rattle.claims.proofs.SmallestLaws.{table_least}

-- D: C with vertex 5, priority 2, Even's, edge to 2
abbrev pub game_d : List ℕ
game_d =
    6 ∷ 8 ∷ 2 ∷ 0 ∷ 0 ∷ 1 ∷ 4 ∷ 2 ∷ 0 ∷ 0 ∷ 0 ∷ 0 ∷ 0 ∷ 0
    ∷ 0 ∷ 0 ∷ 1 ∷ 2 ∷ 2 ∷ 3 ∷ 4 ∷ 5
    ∷ 1 ∷ 2 ∷ 3 ∷ 3 ∷ 4 ∷ 3 ∷ 4 ∷ 2 ∷ []

-- mark rows 100001, 011000, 001000, 000100, 000010, 100001
abbrev marks_d : List ℕ
marks_d = 161 ∷ 65 ∷ 32 ∷ 80 ∷ 8 ∷ []

abbrev classes_d : List ℕ
classes_d = 0 ∷ 1 ∷ 2 ∷ 3 ∷ 4 ∷ 0 ∷ []

-- the reduced game: 5 vertices, 6 edges; six words of the output stay old
abbrev output_d : List ℕ
output_d =
    5 ∷ 6 ∷ 2 ∷ 0 ∷ 0 ∷ 1 ∷ 4 ∷ 0 ∷ 0 ∷ 0 ∷ 0 ∷ 0
    ∷ 0 ∷ 1 ∷ 2 ∷ 2 ∷ 3 ∷ 4
    ∷ 2 ∷ 3 ∷ 3 ∷ 4 ∷ 3 ∷ 4
    ∷ 9 ∷ 9 ∷ 9 ∷ 9 ∷ 9 ∷ 9 ∷ []

abbrev answer_d : Answer
answer_d = accepted (5 ∷ 5 ∷ 6 ∷ [])

-- what the reduced-game call does with D, computed
pub call_d : TableCall reduced game_d (replicate 5 9) (replicate 5 9) (replicate 6 9) (replicate 30 9) answer_d marks_d marks_d classes_d output_d
unfolding compute game_of player_of is_edge judge written after game_rows_by first_owner first_end first_lacking lacks_edge number byte_of bytes owner_word table_words class_rows table_rows class_total class_words
call_d = record {
  verdict = refl;
  marks_after = refl;
  spare_after = refl;
  classes_after = refl;
  output_after = refl;
}

-- ---- from class 0 of the written table to vertex 5

class_plan_wins : Wins even (game_of (5 ∷ 6 ∷ 2 ∷ 0 ∷ 0 ∷ 1 ∷ 4 ∷ 0 ∷ 0 ∷ 0 ∷ 0 ∷ 0 ∷ 0 ∷ 1 ∷ 2 ∷ 2 ∷ 3 ∷ 4 ∷ 2 ∷ 3 ∷ 3 ∷ 4 ∷ 3 ∷ 4 ∷ [])) class_plan 0
unfolding compute game_of player_of is_edge class_plan
class_plan_wins = surely_wins_lem even _ class_plan 0 refl

pub won_5 : Won even (game_of game_d) 5
won_5 =
    (table_winner reduced_faithful call_d 5 5 6 refl even 5 (omega arith)).1 (class_plan, class_plan_wins)

-- ---- from vertex 0 up to vertex 5, along mark 5

passed_d : Clean (table_rows game_d (replicate 5 9) (replicate 5 9) (replicate 6 9) (replicate 30 9))
passed_d = (judge_accepted _ _ _ (sym call_d.verdict)).0

plan_0 : Wins even (game_of game_d) class_plan 0
unfolding compute game_of player_of is_edge class_plan
plan_0 = surely_wins_lem even _ class_plan 0 refl

pub up_5 : Won even (game_of game_d) 5
unfolding digit is_mark
up_5 = even_up (table_leaves_marks call_d) passed_d 0 5 (omega arith) (omega arith) refl (class_plan, plan_0)

-- ---- a game of Odd's: 0 has the edge of 1 and one more, so 0 is below 1; from vertex 1 down to vertex 0, along mark 1

-- 4 5 / 2 2 1 4 / 1 1 0 0 / 0 0 1 2 3 / 2 3 2 2 3
abbrev pub game_o : List ℕ
game_o = 4 ∷ 5 ∷ 2 ∷ 2 ∷ 1 ∷ 4 ∷ 1 ∷ 1 ∷ 0 ∷ 0 ∷ 0 ∷ 0 ∷ 1 ∷ 2 ∷ 3 ∷ 2 ∷ 3 ∷ 2 ∷ 2 ∷ 3 ∷ []

-- mark rows 1100, 0100, 0010, 0001
abbrev marks_o : List ℕ
marks_o = 35 ∷ 132 ∷ []

-- what the order call leaves of it, computed
pub left_o : LeavesOrder game_o (order_rows game_o (replicate 2 9) (replicate 2 9)) (replicate 2 9) marks_o
unfolding compute game_of player_of is_edge written after game_rows_by first_owner first_end first_lacking lacks_edge number byte_of bytes order_rows
left_o = record { buffer = refl }

passed_o : Clean (order_rows game_o (replicate 2 9) (replicate 2 9))
unfolding compute game_of player_of is_edge game_rows_by first_owner first_end first_lacking lacks_edge order_rows
passed_o = (refl, (refl, (refl, (refl, (refl, (refl, (refl, (refl, (refl, tt)))))))))

abbrev pub odd_plan : Plan
odd_plan = record { vertices = 1 ∷ 2 ∷ []; links = (0, 1) ∷ (1, 1) ∷ [] }

plan_1 : Wins odd (game_of game_o) odd_plan 1
unfolding compute game_of player_of is_edge
plan_1 = surely_wins_lem odd _ odd_plan 1 refl

pub down_0 : Won odd (game_of game_o) 0
unfolding digit is_mark
down_0 = odd_down left_o passed_o 0 1 (omega arith) (omega arith) refl (odd_plan, plan_1)

-- ---- CR 11: the 5 vertices and 6 edges of D's verdict are at most those of D itself, of C, which has an edge more, and of a game with a
-- vertex more that has no edge

pub D_least : (H : Game) → So (represents H (game_of game_d)) → AtLeast 5 6 H
D_least H t = table_least call_d 5 5 6 refl H (represents_out H (game_of game_d) t)

pub least_itself : AtLeast 5 6 (game_of game_d)
unfolding compute game_of player_of is_edge
least_itself = D_least (game_of game_d) refl

pub least_C : AtLeast 5 6 (game_c even)
unfolding compute game_of player_of is_edge game_c
least_C = D_least (game_c even) refl

pub least_turned : AtLeast 5 6 turned
unfolding compute game_of player_of is_edge turned
least_turned = D_least turned refl
