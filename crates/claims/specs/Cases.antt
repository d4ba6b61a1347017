-- Document 01, "Games to hold it against": the proved cases, in one table, and what the library promises of their calls.
use Rattle.std.specs.Prelude.{◌≡◌, ◌↔◌, List, [], ◌∷◌, ℕ, replicate}
use Rattle.theory.specs.Games.Game.{Game}
use Rattle.theory.specs.Classes.Reduction.{quotient, reduced}
use Rattle.table.specs.Table.{vertex_count, table_edges, table_length}
use Rattle.table.specs.Answers.{Row, Answer, accepted, refused, judge, after}
use Rattle.table.specs.Reading.{read_answer}
use Rattle.marks.specs.Marks.{marks_length}
use Rattle.order.specs.OrderCall.{order_rows, order_answer, order_bytes, OrderCall}
use Rattle.order_acceptor.specs.RelationCall.{relation_answer}
use Rattle.plan.specs.Acceptance.{plan_answer}
use Rattle.classes.specs.ClassesCall.{class_rows, class_words, classes_answer, ClassesCall}
use Rattle.reduction.specs.TableCall.{table_rows, table_counts, class_table, TableCall}

-- a call of the host, with its input; what it writes into is as long as needed, and old words are 7
pub data Call : Type 0 where
  read : List ℕ → Call
  write_order : List ℕ → Call
  accept_relation : List ℕ → List ℕ → Call
  write_classes : List ℕ → Call
  write_table : (Game → Game) → List ℕ → Call
  accept_plan : List ℕ → ℕ → List ℕ → Call

-- the calls that write the table of a game of classes
abbrev write_quotient : List ℕ → Call
write_quotient = write_table quotient

abbrev write_reduced : List ℕ → Call
write_reduced = write_table reduced

-- the answer, and each lent list that the call may write into, as it is afterwards
pub record Outcome : Type 0 where
  pub answer : Answer
  pub words : List (List ℕ)

abbrev pub answered : Answer → List (List ℕ) → Outcome
answered a ws = record { answer = a; words = ws }

-- ---- what is lent: marks or spare, class words, output

abbrev pub lent_marks : List ℕ → List ℕ
lent_marks game = replicate (marks_length (vertex_count game)) 7

abbrev pub lent_classes : List ℕ → List ℕ
lent_classes game = replicate (vertex_count game) 7

abbrev pub lent_output : List ℕ → List ℕ
lent_output game = replicate (table_length (vertex_count game) (table_edges game)) 7

-- ---- what the calls promise, by the records of their contracts

pub data Promised : Call → Outcome → Type 0 where
  reads : {game : List ℕ} {a : Answer} → a ≡ read_answer game → Promised (read game) (answered a [])
  orders : {game marks spare : List ℕ} {a : Answer} → OrderCall game (lent_marks game) (lent_marks game) a marks spare
      → Promised (write_order game) (answered a (marks ∷ spare ∷ []))
  judges_relation : {game relation : List ℕ} {a : Answer} → a ≡ relation_answer game relation
      → Promised (accept_relation game relation) (answered a [])
  classifies : {game marks spare classes : List ℕ} {a : Answer}
      → ClassesCall game (lent_marks game) (lent_marks game) (lent_classes game) a marks spare classes
      → Promised (write_classes game) (answered a (marks ∷ spare ∷ classes ∷ []))
  tabulates : {K : Game → Game} {game marks spare classes output : List ℕ} {a : Answer}
      → TableCall K game (lent_marks game) (lent_marks game) (lent_classes game) (lent_output game) a marks spare classes output
      → Promised (write_table K game) (answered a (marks ∷ spare ∷ classes ∷ output ∷ []))
  judges_plan : {game plan : List ℕ} {player : ℕ} {a : Answer} → a ≡ plan_answer game player plan
      → Promised (accept_plan game player plan) (answered a [])

-- ---- the same, computed

-- marks or spare after a call that writes the order once these rows are passed
abbrev ordered : List Row → List ℕ → List ℕ
ordered rows game = after rows (order_bytes game) (lent_marks game)

abbrev pub outcome : Call → Outcome
outcome (read game) = answered (read_answer game) []
outcome (write_order game) =
    let rows = order_rows game (lent_marks game) (lent_marks game) in
    answered (order_answer game (lent_marks game) (lent_marks game)) (ordered rows game ∷ ordered rows game ∷ [])
outcome (accept_relation game relation) = answered (relation_answer game relation) []
outcome (write_classes game) =
    let rows = class_rows game (lent_marks game) (lent_marks game) (lent_classes game) in
    answered (classes_answer game (lent_marks game) (lent_marks game) (lent_classes game))
    (ordered rows game ∷ ordered rows game ∷ after rows (class_words game) (lent_classes game) ∷ [])
outcome (write_table K game) =
    let rows = table_rows game (lent_marks game) (lent_marks game) (lent_classes game) (lent_output game) in
    answered (judge rows (table_counts K game))
    (ordered rows game ∷ ordered rows game ∷ after rows (class_words game) (lent_classes game)
    ∷ after rows (class_table K game) (lent_output game) ∷ [])
outcome (accept_plan game player plan) = answered (plan_answer game player plan) []

pub record Case : Type 0 where
  pub call : Call
  pub expected : Outcome

-- a call that writes nothing
abbrev judged : Call → Answer → Case
judged c a = record { call = c; expected = answered a [] }

-- a call that writes
abbrev wrote : Call → Answer → List (List ℕ) → Case
wrote c a ws = record { call = c; expected = answered a ws }

-- ---- the games

abbrev p1 : List ℕ
p1 = 1 ∷ 1 ∷ 1 ∷ 1 ∷ 0 ∷ 0 ∷ []

-- B = 3 3 / 0 1 0 / 0 0 1 / 0 1 2 / 1 1 1
abbrev game_b : List ℕ
game_b = 3 ∷ 3 ∷ 0 ∷ 1 ∷ 0 ∷ 0 ∷ 0 ∷ 1 ∷ 0 ∷ 1 ∷ 2 ∷ 1 ∷ 1 ∷ 1 ∷ []

abbrev marks_b : List ℕ
marks_b = 85 ∷ 1 ∷ []

-- C, with the owner of vertex 0
abbrev game_c : ℕ → List ℕ
game_c owner =
    5 ∷ 7 ∷ 2 ∷ 0 ∷ 0 ∷ 1 ∷ 4 ∷ owner ∷ 0 ∷ 0 ∷ 0 ∷ 0
    ∷ 0 ∷ 0 ∷ 1 ∷ 2 ∷ 2 ∷ 3 ∷ 4
    ∷ 1 ∷ 2 ∷ 3 ∷ 3 ∷ 4 ∷ 3 ∷ 4 ∷ []

abbrev marks_c : List ℕ
marks_c = 193 ∷ 16 ∷ 4 ∷ 1 ∷ []

abbrev classes_c : List ℕ
classes_c = 0 ∷ 1 ∷ 2 ∷ 3 ∷ 4 ∷ []

-- C without one of the edges of vertex 0: the one that is left leads to `target`; two words of the output stay old
abbrev reduced_c : ℕ → ℕ → List ℕ
reduced_c owner target =
    5 ∷ 6 ∷ 2 ∷ 0 ∷ 0 ∷ 1 ∷ 4 ∷ owner ∷ 0 ∷ 0 ∷ 0 ∷ 0
    ∷ 0 ∷ 1 ∷ 2 ∷ 2 ∷ 3 ∷ 4
    ∷ target ∷ 3 ∷ 3 ∷ 4 ∷ 3 ∷ 4
    ∷ 7 ∷ 7 ∷ []

-- the plan of P12: 3 3 / 0 2 4 / 0 1 2 / 1 2 2
abbrev plan_c : List ℕ
plan_c = 3 ∷ 3 ∷ 0 ∷ 2 ∷ 4 ∷ 0 ∷ 1 ∷ 2 ∷ 1 ∷ 2 ∷ 2 ∷ []

abbrev pub cases : List Case
cases =
    -- P1: 1 1 1 1 0 0: marks 1, passes 1, one class
    judged (read p1) (accepted (1 ∷ 1 ∷ 1 ∷ []))
    ∷ wrote (write_order p1) (accepted (1 ∷ [])) ((1 ∷ []) ∷ (1 ∷ []) ∷ [])
    ∷ wrote (write_classes p1) (accepted (1 ∷ [])) ((1 ∷ []) ∷ (1 ∷ []) ∷ (0 ∷ []) ∷ [])
    -- P2: no words: 1 at 0
    ∷ judged (read []) (refused 1 0)
    -- P3: 0 0: 2 at 0
    ∷ judged (read (0 ∷ 0 ∷ [])) (refused 2 0)
    -- P4: 1 0 0 0: 8 at 0
    ∷ judged (read (1 ∷ 0 ∷ 0 ∷ 0 ∷ [])) (refused 8 0)
    -- P5: 1 1 0 2 0 0: 5 at 3
    ∷ judged (read (1 ∷ 1 ∷ 0 ∷ 2 ∷ 0 ∷ 0 ∷ [])) (refused 5 3)
    -- P6: 1 1 0 0 0 1: 6 at 5
    ∷ judged (read (1 ∷ 1 ∷ 0 ∷ 0 ∷ 0 ∷ 1 ∷ [])) (refused 6 5)
    -- P7: 1 2 0 0 0 0 0 0: one different edge
    ∷ judged (read (1 ∷ 2 ∷ 0 ∷ 0 ∷ 0 ∷ 0 ∷ 0 ∷ 0 ∷ [])) (accepted (1 ∷ 2 ∷ 1 ∷ []))
    -- P8: B: mark rows 101, 010, 101, the bytes 85 1; reduced 2 2 / 0 1 / 0 0, edges 0 to 1, 1 to 1
    ∷ wrote (write_order game_b) (accepted (1 ∷ [])) (marks_b ∷ marks_b ∷ [])
    ∷ wrote (write_reduced game_b) (accepted (2 ∷ 2 ∷ 2 ∷ []))
    (marks_b ∷ marks_b ∷ (0 ∷ 1 ∷ 0 ∷ []) ∷ (2 ∷ 2 ∷ 0 ∷ 1 ∷ 0 ∷ 0 ∷ 0 ∷ 1 ∷ 1 ∷ 1 ∷ 7 ∷ 7 ∷ 7 ∷ 7 ∷ []) ∷ [])
    -- P9: C: 1 is below 2, not the reverse; passes 2; five classes, 7 quotient edges; the reduced game drops 0 to 1
    ∷ wrote (write_order (game_c 0)) (accepted (2 ∷ [])) (marks_c ∷ marks_c ∷ [])
    ∷ wrote (write_quotient (game_c 0)) (accepted (5 ∷ 5 ∷ 7 ∷ [])) (marks_c ∷ marks_c ∷ classes_c ∷ game_c 0 ∷ [])
    ∷ wrote (write_reduced (game_c 0)) (accepted (5 ∷ 5 ∷ 6 ∷ [])) (marks_c ∷ marks_c ∷ classes_c ∷ reduced_c 0 2 ∷ [])
    -- P10: with vertex 0 Odd's it drops 0 to 2
    ∷ wrote (write_reduced (game_c 1)) (accepted (5 ∷ 5 ∷ 6 ∷ [])) (marks_c ∷ marks_c ∷ classes_c ∷ reduced_c 1 1 ∷ [])
    -- P11: C, only (2, 1) marked: 10 at 11
    ∷ judged (accept_relation (game_c 0) (0 ∷ 8 ∷ 0 ∷ 0 ∷ [])) (refused 10 11)
    -- CR 13: B's order with bit 9 set, the first unused one: 41 at 1
    ∷ judged (accept_relation game_b (85 ∷ 3 ∷ [])) (refused 41 1)
    -- P12: C, plan 3 3 / 0 2 4 / 0 1 2 / 1 2 2: passes for Even
    ∷ judged (accept_plan (game_c 0) 0 plan_c) (accepted [])
    -- P13: for Odd 15 at 0
    ∷ judged (accept_plan (game_c 0) 1 plan_c) (refused 15 0)
    -- P14: game of P1, plan 1 1 0 0 0, Even: 16 at 0
    ∷ judged (accept_plan p1 0 (1 ∷ 1 ∷ 0 ∷ 0 ∷ 0 ∷ [])) (refused 16 0)
    ∷ []

-- ---- what the table claims: in each case the outcomes that the library promises are one, the expected

abbrev pub Holds : Case → Type 0
Holds c = (o : Outcome) → Promised c.call o ↔ (o ≡ c.expected)

abbrev pub AllHold : List Case → Type 0
AllHold [] = Unit
AllHold (c ∷ cs) = Holds c × AllHold cs
