-- CR 11's sentences follow from what the reduced-game call promises.
use Rattle.std.specs.Prelude.{◌≡◌, List, [], ◌∷◌, ℕ}
use Rattle.std.proofs.Common.{arith}
use Rattle.theory.specs.Games.Game.{Game}
use Rattle.theory.specs.Classes.Reduction.{reduced}
use Rattle.theory.proofs.Games.AgreementLaws.{agree_sym}
use Rattle.theory.specs.Classes.Minimal.{Represents, AtLeast}
use Rattle.theory.proofs.Classes.MinimalLaws.{represents_in, represents_out, represents_agree, reduced_represents, reduced_smallest}
use Rattle.table.specs.Table.{game_of}
use Rattle.table.specs.Answers.{Answer, accepted}
use Rattle.table.specs.TableWords.{edges_of}
use Rattle.table.specs.TableWordsLaws.{table_words_agree, edges_of_lists}
use Rattle.reduction.specs.TableCall.{TableCall}
use Rattle.claims.specs.WrittenMemory.{written_table}
use Rattle.claims.specs.Demands.{reduced_faithful, counts, table_is, table_read}
use Rattle.claims.specs.Smallest.{Minimizes}

module _ {game marks spare classes output : List ℕ} {answer : Answer} {marks' spare' classes' output' : List ℕ}
    (call : TableCall reduced game marks spare classes output answer marks' spare' classes' output') where
  module _ (k n e : ℕ) (accepts : answer ≡ accepted (k ∷ n ∷ e ∷ [])) where
    abbrev G : Game
    G = game_of game

    -- "at least as many vertices as the reduced game, and at least as many different edges": the counts of the verdict
    pub table_least : (H : Game) → Represents H G → AtLeast n e H
    table_least H f =
        let c = counts reduced_faithful call k n e accepts in
        let r = (reduced_smallest G).least H f in
        record { vertices = omega (arith, c.vertices, r.vertices); edges = omega (arith, c.edges, r.edges) }

    -- "The reduced game is itself such a game": the written one
    pub table_represents : Represents (game_of (written_table n e output')) G
    table_represents =
        rw (table_is reduced_faithful call k n e accepts)
        (represents_agree {G = G} (agree_sym (table_words_agree (reduced G) (edges_of (reduced G)) (edges_of_lists (reduced G)))) (reduced_represents G))

  pub minimizes : Minimizes game marks spare classes output answer marks' spare' classes' output'
  minimizes = record {
    call = call;
    smallest = λ k n e accepts. record {
      least = λ H t. table_least k n e accepts H (represents_out H (game_of game) t);
      read = table_read reduced_faithful call k n e accepts;
      itself = represents_in (game_of (written_table n e output')) (game_of game) (table_represents k n e accepts);
    };
  }
