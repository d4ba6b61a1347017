use Rattle.reduction_edges.specs.Rows.{game_by, Listed}
use Rattle.table.specs.Table.{game_of}
use Rattle.reduction_edges.proofs.listing.Source.list_classes.Given as goal

abbrev pub invariant-loop-c : goal.invariant-loop-c
invariant-loop-c l = Listed l.k (game_by l.self.drop (game_of l.self.game.now)).edge l.at l.c l.initial.ends l.ends l.stops l.e
