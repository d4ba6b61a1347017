-- Members and edges of each class, and their sums: document 02, CR 10.
use Rattle.std.specs.Prelude.{List, ℕ}
use Rattle.theory.specs.Logic.Range.{sum, tabulate}
use Rattle.theory.specs.Classes.Reduction.{reduced}
use Rattle.theory.specs.Classes.Totals.{member_count, out_degree}
use Rattle.table.specs.Table.{game_of}
use Rattle.classes.specs.ClassesCall.{class_total}

-- "one line for each class": how many members it has, and how many edges in the reduced game
unfoldable pub member_words : List ℕ → List ℕ
member_words game = tabulate (class_total game) (member_count (game_of game))

unfoldable pub edge_words : List ℕ → List ℕ
edge_words game = tabulate (class_total game) (out_degree (reduced (game_of game)))

-- "The totals are the sums of the lines above"
unfoldable pub member_total : List ℕ → ℕ
member_total game = sum (class_total game) (member_count (game_of game))

unfoldable pub edge_total : List ℕ → ℕ
edge_total game = sum (class_total game) (out_degree (reduced (game_of game)))
