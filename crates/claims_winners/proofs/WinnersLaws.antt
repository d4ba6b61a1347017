-- The sentences follow from determinacy and from what the calls promise.
use Rattle.std.specs.Prelude.{◌≡◌, refl, List, [], ◌∷◌, ℕ, zero, suc, ◌≤◌, ◌<◌}
use Rattle.std.proofs.Common.{sym, ap, ◌∙◌, subst, arith}
use Rattle.std.proofs.Math.ListN.{get_or}
use Rattle.theory.specs.Games.Game.{Player, even, odd, Game, Total}
use Rattle.theory.specs.Plans.Plan.{Wins, Won, WonSmall}
use Rattle.theory.proofs.Winners.DeterminacyLaws.{winner, winner_wins, winner_is}
use Rattle.theory.proofs.Winners.SameWinner.{same_winner, winner_moves}
use Rattle.table.specs.Table.{vertex_count, player_of, game_of}
use Rattle.table.specs.TableLaws.{game_n, edges_listed, game_total}
use Rattle.table.specs.TableWords.{owner_word}
use Rattle.table.specs.TableWordsLaws.{owner_le, player_owner}
use Rattle.table.specs.Answers.{Answer, accepted}
use Rattle.table.specs.ReadingLaws.{read_accepted}
use Rattle.table.specs.WellFormed.{WellFormed}
use Rattle.plan_links.specs.PlanTable.{plan_of}
use Rattle.plan.specs.WinningLaws.{plan_accepted}
use Rattle.order.specs.OrderCall.{OrderCall}
use Rattle.order.specs.OrderRulesLaws.{order_accepted}
use Rattle.reduction.specs.TableCall.{TableCall}
use Rattle.reduction.proofs.TableRulesLaws.{table_accepted}
use Rattle.carry_output.specs.PlanWords.{plan_words}
use Rattle.carry.specs.CarryCall.{CarryClassCall}
use Rattle.carry.proofs.WrittenPlanLaws.{plan_from}
use Rattle.claims.specs.WrittenMemory.{written_table, Faithful}
use Rattle.claims.specs.Demands.{reduced_faithful, counts}
use Rattle.claims.specs.Sentences.{OnAcceptance, OrderSentences}
use Rattle.claims.proofs.SentencesLaws.{once_map, orders, tabulates, table_passed, reduced_call}
use Rattle.verdict.specs.VerdictCall.{VerdictCall}
use Rattle.verdict.proofs.VerdictRulesLaws.{verdict_table}
use Rattle.verdict.proofs.VerdictsLaws.{front_passed}
use Rattle.claims_winners.specs.Winners.{AllDecided, OrderWinners, TableWinners, OrderDecides, TableDecides, CarryDecides, VerdictDecides}

-- ---- exactly one player

-- a number that passes row 11 is that of its player
player_number : (player : ℕ) → player ≤ 1 → owner_word (player_of player) ≡ player
unfolding owner_word player_of
player_number zero h = refl
player_number (suc zero) h = refl
player_number (suc (suc k)) h = absurd (omega arith)

module _ (game : List ℕ) (well : WellFormed game) where
  abbrev G : Game
  G = game_of game

  total : Total G
  total = game_total game well

  vertex : (v : ℕ) → v < vertex_count game → v < G.n
  unfolding game_of
  vertex v h = h

  -- the winner's plan has at most n positions and m links, which is within the limits
  pub decided : AllDecided game
  decided v h = record {
    plan = plan_words small.plan;
    passes = plan_from small.plan well (owner_le a) (omega (arith, small.positions, well.vertices, game_n game)) (omega (arith, small.links, edges_listed game, well.edges))
        (subst (λ (b : Player). Wins b G small.plan v) (sym (player_owner a)) small.wins);
    only = λ player words from.
        let accepts = (plan_accepted game player words [] from.accepted).0 in
        let won : Won (player_of player) G v = (plan_of words, subst (λ (x : ℕ). Wins (player_of player) G (plan_of words) x) from.start accepts.wins) in
        sym (player_number player accepts.number) ∙ ap owner_word (sym ((winner_is G total v (vertex v h) (player_of player)).0 won));
  }
    where
      a : Player
      a = winner G v

      small : WonSmall a G v
      small = winner_wins G total v (vertex v h)

  -- along the order the winner changes in Even's favour only
  pub order_winners : {buffer : List ℕ} → OrderSentences game buffer → OrderWinners game buffer
  order_winners s = record {
    even_up = λ v w hv hw m. winner_moves total even (vertex v hv) (vertex w hw) (s.even_up v w hv hw m);
    odd_down = λ v w hv hw m. winner_moves total odd (vertex w hw) (vertex v hv) (s.odd_down v w hv hw m);
  }

-- ---- the calls

pub order_decides : {game marks spare : List ℕ} {answer : Answer} {marks' spare' : List ℕ} → OrderCall game marks spare answer marks' spare'
    → OrderDecides game marks spare answer marks' spare'
order_decides {game} {marks} {spare} {answer} call =
    let s = orders call in
    let well : OnAcceptance answer (WellFormed game) = λ counts e. (order_accepted game marks spare counts (sym call.verdict ∙ e)).0.game in record {
      call = call;
      decided = λ counts e. decided game (well counts e);
      marks_winners = λ counts e. order_winners game (well counts e) (s.marks_order counts e);
      spare_winners = λ counts e. order_winners game (well counts e) (s.spare_order counts e);
    }

module _ {K : Game → Game} (faithful : Faithful K) {game marks spare classes output : List ℕ} {answer : Answer} {marks' spare' classes' output' : List ℕ}
    (call : TableCall K game marks spare classes output answer marks' spare' classes' output') where
  -- the winner is the same at a vertex and at its class
  pub table_winners : (k n e : ℕ) → answer ≡ accepted (k ∷ n ∷ e ∷ []) → TableWinners game marks' spare' classes' output' n e
  unfolding game_of
  table_winners k n e accepts =
      let well = (table_accepted call _ accepts).0.classes_fit.order_fits.game in
      let s = tabulates faithful call in
      let t = s.output_table k n e accepts in
      let read = read_accepted (written_table n e output') _ t.read in record {
        decided = decided game well;
        marks_winners = order_winners game well (s.marks_order _ accepts);
        spare_winners = order_winners game well (s.spare_order _ accepts);
        same = λ v h.
            let size : (K (game_of game)).n ≡ vertex_count (written_table n e output') = (counts faithful call k n e accepts).vertices ∙ cc read.1 in
            let inside : get_or classes' v 0 < vertex_count (written_table n e output') =
            omega (arith, faithful.class (game_of game) v h, s.classes_words _ accepts v h, size) in
            same_winner (game_total game well) (game_total (written_table n e output') read.0) h inside (λ a. t.winner a v h);
        table_decided = decided (written_table n e output') read.0;
      }

  pub table_decides : TableDecides K game marks spare classes output answer marks' spare' classes' output'
  table_decides = record { call = call; winners = table_winners }

pub carry_decides : {game : List ℕ} {player : ℕ} {plan : List ℕ} {vertex : ℕ} {marks spare classes reduction output : List ℕ} {answer : Answer}
    {marks' spare' classes' reduction' output' : List ℕ}
    → CarryClassCall game player plan vertex marks spare classes reduction output answer marks' spare' classes' reduction' output'
    → CarryDecides game player plan vertex marks spare classes reduction output answer marks' spare' classes' reduction' output'
carry_decides call = record {
  call = call;
  winners = once_map (table_passed call) (λ c. table_winners reduced_faithful (reduced_call call c) _ _ _ refl);
}

pub verdict_decides : {game : List ℕ} {vertex player : ℕ} {plan marks spare classes reduction : List ℕ} {answer : Answer}
    {marks' spare' classes' reduction' : List ℕ}
    → VerdictCall game vertex player plan marks spare classes reduction answer marks' spare' classes' reduction'
    → VerdictDecides game vertex player plan marks spare classes reduction answer marks' spare' classes' reduction'
verdict_decides call = record {
  call = call;
  winners = once_map (front_passed call) (λ c. table_winners reduced_faithful (verdict_table call c) _ _ _ refl);
}
