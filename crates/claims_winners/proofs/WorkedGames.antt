-- The sentences applied to game D of `claims`: Even wins at vertex 5, and so at its class.
use Rattle.std.specs.Prelude.{◌≡◌, refl, List, [], ◌∷◌, ℕ}
use Rattle.std.proofs.Common.{sym, ◌∙◌, arith}
use Rattle.theory.specs.Games.Game.{even}
use Rattle.theory.proofs.Winners.DeterminacyLaws.{winner, winner_is}
use Rattle.table.specs.Table.{game_of}
use Rattle.table.specs.TableLaws.{game_total}
use Rattle.table.specs.WellFormed.{WellFormed}
use Rattle.reduction.proofs.TableRulesLaws.{table_accepted}
use Rattle.claims.specs.Demands.{reduced_faithful}
use Rattle.claims.proofs.WorkedGames.{game_d, call_d, won_5}
use Rattle.claims_winners.specs.Winners.{Decided}
use Rattle.claims_winners.proofs.WinnersLaws.{decided, table_winners}

well_d : WellFormed game_d
well_d = (table_accepted call_d _ refl).0.classes_fit.order_fits.game

-- at vertex 5 exactly one player has a plan that passes
pub decided_5 : Decided game_d 5
decided_5 = decided game_d well_d 5 (omega arith)

pub winner_5 : winner (game_of game_d) 5 ≡ even
unfolding game_of
winner_5 = (winner_is (game_of game_d) (game_total game_d well_d) 5 (omega arith) even).0 won_5

-- the written table: 5 vertices and 6 edges; the class of 5 is 0
abbrev table_d : List ℕ
table_d = 5 ∷ 6 ∷ 2 ∷ 0 ∷ 0 ∷ 1 ∷ 4 ∷ 0 ∷ 0 ∷ 0 ∷ 0 ∷ 0 ∷ 0 ∷ 1 ∷ 2 ∷ 2 ∷ 3 ∷ 4 ∷ 2 ∷ 3 ∷ 3 ∷ 4 ∷ 3 ∷ 4 ∷ []

pub winner_class : winner (game_of table_d) 0 ≡ even
winner_class = sym ((table_winners reduced_faithful call_d 5 5 6 refl).same 5 (omega arith)) ∙ winner_5
