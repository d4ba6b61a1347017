-- Tables of one game: the relation acceptor gives the same verdict.
use Rattle.std.specs.Prelude.{◌≡◌, List, ℕ, ◌/◌, ◌%◌, ◌<◌}
use Rattle.std.proofs.Common.{sym, ◌∙◌}
use Rattle.std.proofs.Math.Path.{ap, ap₂}
use Rattle.std.proofs.Math.Bool.{not}
use Rattle.theory.specs.Logic.Bools.{◌&◌}
use Rattle.theory.proofs.Logic.RangeLaws.{first_ext}
use Rattle.theory.proofs.Logic.CountLaws.{row_lt, col_lt}
use Rattle.theory.specs.Order.Passes.{Rel}
use Rattle.theory.specs.Games.Game.{even, Game}
use Rattle.theory.proofs.Games.AgreementLaws.{equal_priority_agree, test_agree}
use Rattle.table.specs.Table.{vertex_count, pair_count, game_of}
use Rattle.table.specs.TableLaws.{game_n}
use Rattle.table.specs.AnswersLaws.{judge_past}
use Rattle.table.specs.Reading.{game_rows}
use Rattle.table.specs.ReadingLaws.{well_clean}
use Rattle.table.specs.WellFormed.{WellFormed}
use Rattle.table.specs.SameGame.{SameGame}
use Rattle.table.specs.SameGameLaws.{same_agree}
use Rattle.marks.specs.Marks.{relation}
use Rattle.order_acceptor.specs.RelationCall.{direct_pair, fails, first_failing, acceptor_rows, acceptor_answer, relation_answer}

module _ {g h : List ℕ} (same : SameGame g h) (marks : List ℕ) where
  -- whatever is asked of a pair, as long as it goes by the game
  module _ (asked : Game → Rel → Rel)
      (agree : (H : Rel) (v w : ℕ) → v < (game_of g).n → w < (game_of g).n → asked (game_of g) H v w ≡ asked (game_of h) H v w) where
    same_fails : (v w : ℕ) → v < vertex_count g → w < vertex_count g → fails asked g marks v w ≡ fails asked h marks v w
    unfolding fails
    same_fails v w hv hw =
        ap (λ b. relation (vertex_count g) marks v w & not b) (agree (relation (vertex_count g) marks) v w (rw (game_n g) hv) (rw (game_n g) hw))
        ∙ rw same.vertices

    same_first_failing : first_failing asked g marks ≡ first_failing asked h marks
    unfolding first_failing
    same_first_failing =
        let n = vertex_count g in
        first_ext _ _ 0 (pair_count g) (λ i a l. same_fails (i / n) (i % n) (row_lt n n i l) (col_lt n n i l))
        ∙ rw same.vertices

    pub same_acceptor : WellFormed g → WellFormed h → acceptor_answer asked g marks ≡ acceptor_answer asked h marks
    unfolding acceptor_answer acceptor_rows
    same_acceptor wg wh =
        judge_past (game_rows g) _ _ (well_clean g wg)
        ∙ rw (same.vertices, same_first_failing) (sym (judge_past (game_rows h) _ _ (well_clean h wh)))

  pub same_direct : (H : Rel) (v w : ℕ) → v < (game_of g).n → w < (game_of g).n → direct_pair (game_of g) H v w ≡ direct_pair (game_of h) H v w
  unfolding direct_pair
  same_direct H v w hv hw =
      let e = same_agree same in ap₂ ◌&◌ (equal_priority_agree e v w hv hw) (test_agree e even H v w hv hw)

  pub same_relation : WellFormed g → WellFormed h → relation_answer g marks ≡ relation_answer h marks
  same_relation = same_acceptor direct_pair same_direct
