-- The class of the vertex is decided in the written table, for the same player, and the verdict call says "wins" exactly where such a plan is
-- handed in. It never says so for both players.
use Rattle.std.specs.Prelude.{◌≡◌, List, [], ℕ, ◌<◌}
use Rattle.std.proofs.Common.{sym, ap, ◌∙◌, arith}
use Rattle.theory.specs.Games.Game.{even, other, Game}
use Rattle.theory.specs.Classes.Reduction.{reduced, class_of}
use Rattle.theory.proofs.Classes.ReductionLaws.{reduced_total, class_of_reduced}
use Rattle.theory.proofs.Winners.WinnerLaws.{one_winner}
use Rattle.theory.proofs.Winners.SameWinner.{same_winner, winner_reduced}
use Rattle.theory.specs.Games.Agreement.{Agree}
use Rattle.theory.proofs.Games.AgreementLaws.{agree_sym, agree_winner}
use Rattle.table.specs.Table.{vertex_count, player_of, game_of}
use Rattle.table.specs.TableLaws.{game_n, game_total}
use Rattle.table.specs.TableWords.{owner_word, edges_of}
use Rattle.table.specs.TableWordsLaws.{table_words_agree, edges_of_lists}
use Rattle.table.specs.Answers.{Answer}
use Rattle.table.specs.WellFormed.{WellFormed}
use Rattle.reduction.specs.TableCall.{class_table}
use Rattle.reduction.specs.TableRules.{TableFits}
use Rattle.plan.specs.WinningLaws.{plan_accepted, plan_accepts}
use Rattle.carry.proofs.CarryCallLaws.{reduced_well}
use Rattle.verdict.specs.VerdictCall.{VerdictCall}
use Rattle.verdict.specs.VerdictAnswers.{Wins}
use Rattle.verdict.proofs.ConfirmedLaws.{wins_exactly, confirmed}
use Rattle.claims_winners.specs.Winners.{winner_of, Decided}
use Rattle.claims_winners.proofs.WinnersLaws.{decided}
use Rattle.claims_winners.specs.VerdictWinners.{WinnerShown}

module _ {game marks spare classes reduction : List ℕ} (fits : TableFits game marks spare classes reduction) (vertex : ℕ) (h : vertex < vertex_count game) where
  abbrev G : Game
  G = game_of game

  abbrev T : List ℕ
  T = class_table reduced game

  abbrev class : ℕ
  class = class_of G vertex

  well : WellFormed game
  well = fits.classes_fit.order_fits.game

  inside : vertex < G.n
  unfolding game_of
  inside = h

  agree : Agree (game_of T) (reduced G)
  agree = table_words_agree (reduced G) (edges_of (reduced G)) (edges_of_lists (reduced G))

  class_inside : class < (game_of T).n
  class_inside = rw agree.size (class_of_reduced G vertex inside)

  -- the winner at the vertex is the winner at its class in the written table
  same : winner_of game vertex ≡ winner_of T class
  same =
      ap owner_word
      (winner_reduced G (game_total game well) vertex inside
      ∙ same_winner (reduced_total G (game_total game well)) (game_total T (reduced_well game well)) (class_of_reduced G vertex inside) class_inside
      (λ a. agree_winner a (reduced G) (game_of T) (agree_sym agree) class))

  there : Decided T class
  there = decided T (reduced_well game well) class (omega (arith, class_inside, game_n T))

  pub winner_shown : WinnerShown game vertex marks spare classes reduction
  winner_shown = record {
    plan = there.plan;
    shows = λ call.
        (wins_exactly call).1 (
          record { table_fits = fits; vertex_in = h; accepts = rw same (plan_accepted T (winner_of T class) there.plan [] there.passes.accepted).0 },
          there.passes.start,
        );
    only = λ player words call e.
        let (f, s) = (wins_exactly call).0 e in
        there.only player words (record { accepted = plan_accepts T player words f.accepts; start = s }) ∙ sym same;
  }

-- it never says "wins" for both players at one vertex, whatever plans it is given, and whatever memory
module _ {game : List ℕ} {vertex : ℕ}
    {plan marks spare classes reduction : List ℕ} {answer : Answer} {marks' spare' classes' reduction' : List ℕ}
    (call : VerdictCall game vertex 0 plan marks spare classes reduction answer marks' spare' classes' reduction')
    {plan₂ marks₂ spare₂ classes₂ reduction₂ : List ℕ} {answer₂ : Answer} {marks₂' spare₂' classes₂' reduction₂' : List ℕ}
    (call₂ : VerdictCall game vertex 1 plan₂ marks₂ spare₂ classes₂ reduction₂ answer₂ marks₂' spare₂' classes₂' reduction₂') where
  pub one_verdict : Wins game answer → Wins game answer₂ → ⊥
  unfolding player_of other
  one_verdict e o = one_winner even (game_of game) vertex (confirmed call e) (confirmed call₂ o)
