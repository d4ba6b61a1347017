-- What the report prints: document 01, "The report program", and document 02, CR 10.
use Rattle.std.specs.Prelude.{◌≡◌, List, ℕ}
use Rattle.theory.specs.Games.Game.{edge_count}
use Rattle.theory.specs.Order.Order.{order_passes}
use Rattle.theory.specs.Classes.Reduction.{reduced}
use Rattle.table.specs.Table.{game_of}
use Rattle.table.specs.Answers.{Answer, accepted, refused, after}
use Rattle.table.specs.Reading.{game_rows, read_answer, reading_answer}
use Rattle.classes.specs.ClassesCall.{class_total, class_words}
use Rattle.reduction_totals.specs.Totals.{member_words, edge_words, member_total, edge_total}
use Rattle.report_findings.specs.declared.Report.{Report}

-- a number of an accepted game; 0 after a refusal
unfoldable pub number : Answer → ℕ → ℕ
number (accepted counts) x = x
number (refused k p) x = 0

-- the reader's verdict, which holds n and the number of different edges; the pass count, the class count, both sums, the reduced game's
-- counts; the class of each vertex, and the members and edges of each class
pub record Reported (game classes members edges : List ℕ) (r : Report) (classes' members' edges' : List ℕ) : Type 0 where
  pub verdict : reading_answer r.verdict ≡ read_answer game
  pub passes : r.passes ≡ number (read_answer game) (order_passes (game_of game))
  pub class_count_lem : r.classes ≡ number (read_answer game) (class_total game)
  pub member_total_lem : r.totals.members ≡ number (read_answer game) (member_total game)
  pub edge_total_lem : r.totals.edges ≡ number (read_answer game) (edge_total game)
  pub vertex_count_lem : r.vertices ≡ number (read_answer game) (reduced (game_of game)).n
  pub edge_count_lem : r.edges ≡ number (read_answer game) (edge_count (reduced (game_of game)))
  pub classes_after : classes' ≡ after (game_rows game) (class_words game) classes
  pub members_after : members' ≡ after (game_rows game) (member_words game) members
  pub edges_after_lem : edges' ≡ after (game_rows game) (edge_words game) edges
