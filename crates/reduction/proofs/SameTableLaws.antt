-- Tables of one game: the tables of the quotient and of the reduced game are the same, and the calls that write them answer and write the
-- same. Refusal 24 goes by a table's own number of edges, so the output has to be long enough for both; after acceptance it is.
use Rattle.std.specs.Prelude.{◌≡◌, refl, false, cond, List, [], ◌∷◌, ◌++◌, ℕ, ◌≤◌, length}
use Rattle.std.proofs.Common.{sym, ap, ◌∙◌, le-ltb}
use Rattle.theory.specs.Games.Game.{Game}
use Rattle.theory.specs.Classes.Reduction.{quotient, reduced}
use Rattle.theory.specs.Games.Agreement.{Agree}
use Rattle.theory.proofs.Games.AgreementLaws.{agree_edges, agree_edge_count, agree_quotient, agree_reduced}
use Rattle.table.specs.Table.{vertex_count, table_edges, table_length, game_of}
use Rattle.table.specs.TableWords.{edges_of, table_words}
use Rattle.table.specs.TableWordsLaws.{table_words_one}
use Rattle.table.specs.Answers.{Row, Answer, accepted, refused, judge, after}
use Rattle.table.specs.AnswersLaws.{accepted_inj, judge_next}
use Rattle.table.specs.WellFormed.{WellFormed}
use Rattle.table.specs.SameGame.{SameGame}
use Rattle.table.specs.SameGameLaws.{same_agree}
use Rattle.order.specs.SameOrderLaws.{same_order_bytes}
use Rattle.classes.specs.ClassesCall.{class_rows}
use Rattle.classes.specs.SameClassesLaws.{same_class_total, same_class_words, same_judge, same_after}
use Rattle.reduction.specs.TableCall.{table_rows, table_counts, class_table, TableCall}
use Rattle.reduction.proofs.TableRulesLaws.{table_accepted}

-- ---- a last row whose condition doesn't hold

judge_last : (rs : List Row) (r : Row) (counts : List ℕ) → r.condition ≡ false → judge (rs ++ (r ∷ [])) counts ≡ judge rs counts
unfolding judge
judge_last [] r counts e = judge_next r [] counts e
judge_last (s ∷ rs) r counts e = ap (cond s.condition (refused s.number s.place)) (judge_last rs r counts e)

after_last : (rs : List Row) (r : Row) (new old : List ℕ) → r.condition ≡ false → after (rs ++ (r ∷ [])) new old ≡ after rs new old
unfolding after
after_last [] r new old e = rw e
after_last (s ∷ rs) r new old e = ap (cond s.condition old) (after_last rs r new old e)

-- ---- the rows of the calls, for an output that is long enough

module _ (game marks spare classes output : List ℕ) (long : table_length (vertex_count game) (table_edges game) ≤ length output) where
  judge_long : (counts : List ℕ) → judge (table_rows game marks spare classes output) counts ≡ judge (class_rows game marks spare classes) counts
  unfolding table_rows
  judge_long counts = judge_last (class_rows game marks spare classes) _ counts (le-ltb (length output) _ long)

  after_long : (new old : List ℕ) → after (table_rows game marks spare classes output) new old ≡ after (class_rows game marks spare classes) new old
  unfolding table_rows
  after_long new old = after_last (class_rows game marks spare classes) _ new old (le-ltb (length output) _ long)

-- ---- any games K of classes that agree

module _ {g h : List ℕ} (same : SameGame g h) (K : Game → Game) (agree : Agree (K (game_of g)) (K (game_of h))) where
  same_class_table : class_table K g ≡ class_table K h
  same_class_table = table_words_one agree (edges_of (K (game_of g))) ∙ ap (table_words (K (game_of h))) (agree_edges agree)

  pub same_table_counts : table_counts K g ≡ table_counts K h
  same_table_counts = rw (same_class_total same, agree_edge_count agree, agree.size)

  module _ (marks spare classes output : List ℕ) where
    pub same_table : WellFormed g → WellFormed h
        → table_length (vertex_count g) (table_edges g) ≤ length output → table_length (vertex_count h) (table_edges h) ≤ length output
        → {answer : Answer} {marks' spare' classes' output' : List ℕ} → TableCall K g marks spare classes output answer marks' spare' classes' output'
        → TableCall K h marks spare classes output answer marks' spare' classes' output'
    same_table wg wh longG longH call = record {
      verdict =
          call.verdict
          ∙ judge_long g marks spare classes output longG _
          ∙ same_judge same wg wh marks spare classes same_table_counts
          ∙ sym (judge_long h marks spare classes output longH _);
      marks_after = call.marks_after ∙ buffer (same_order_bytes same) marks;
      spare_after = call.spare_after ∙ buffer (same_order_bytes same) spare;
      classes_after = call.classes_after ∙ buffer (same_class_words same) classes;
      output_after = call.output_after ∙ buffer same_class_table output;
    }
      where
        buffer : {new new' : List ℕ} → new ≡ new' → (old : List ℕ)
            → after (table_rows g marks spare classes output) new old ≡ after (table_rows h marks spare classes output) new' old
        buffer e old =
            after_long g marks spare classes output longG _ old
            ∙ same_after same wg wh marks spare classes e old
            ∙ sym (after_long h marks spare classes output longH _ old)

    -- two accepted calls: the same counts and the same words
    pub same_accepted : {counts counts₂ marks' spare' classes' output' marks₂ spare₂ classes₂ output₂ : List ℕ}
        → TableCall K g marks spare classes output (accepted counts) marks' spare' classes' output'
        → TableCall K h marks spare classes output (accepted counts₂) marks₂ spare₂ classes₂ output₂
        → (counts ≡ counts₂) × (marks' ≡ marks₂) × (spare' ≡ spare₂) × (classes' ≡ classes₂) × (output' ≡ output₂)
    same_accepted call_g callH =
        let a = (table_accepted call_g _ refl).0 in
        let b = (table_accepted callH _ refl).0 in
        let call = same_table a.classes_fit.order_fits.game b.classes_fit.order_fits.game a.output_fit b.output_fit call_g in (
          accepted_inj (call.verdict ∙ sym callH.verdict),
          call.marks_after ∙ sym callH.marks_after,
          call.spare_after ∙ sym callH.spare_after,
          call.classes_after ∙ sym callH.classes_after,
          call.output_after ∙ sym callH.output_after,
        )

-- ---- the quotient and the reduced game: by `agree_quotient` and `agree_reduced`, all this holds of both

module _ {g h : List ℕ} (same : SameGame g h) where
  pub same_quotient_table : class_table quotient g ≡ class_table quotient h
  same_quotient_table = same_class_table same quotient (agree_quotient (same_agree same))

  pub same_reduced_table : class_table reduced g ≡ class_table reduced h
  same_reduced_table = same_class_table same reduced (agree_reduced (same_agree same))
