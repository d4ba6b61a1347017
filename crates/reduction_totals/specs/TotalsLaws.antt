-- For every game table: the members' sum is n, and the edges' sum the number of edges of the reduced game.
use Rattle.std.specs.Prelude.{◌≡◌, List, ℕ}
use Rattle.theory.specs.Games.Game.{edge_count}
use Rattle.theory.specs.Classes.Reduction.{class_game, reduced}
use Rattle.theory.proofs.Classes.TotalsLaws.{sum_member_count, sum_out_degree}
use Rattle.table.specs.Table.{vertex_count, game_of}
use Rattle.classes.specs.ClassesCall.{class_total}
use Rattle.reduction_totals.specs.Totals.{member_total, edge_total}

pub member_total_all : (game : List ℕ) → member_total game ≡ vertex_count game
unfolding member_total class_total game_of
member_total_all game = sum_member_count (game_of game)

pub edge_total_all : (game : List ℕ) → edge_total game ≡ edge_count (reduced (game_of game))
unfolding edge_total class_total game_of reduced class_game
edge_total_all game = sum_out_degree (reduced (game_of game))
