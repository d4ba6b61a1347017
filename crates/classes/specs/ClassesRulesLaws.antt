-- Laws of the classes call: it refuses k at p exactly as document 01's table says, accepts exactly otherwise, and, refused, leaves all lent
-- memory as it was.
use Rattle.std.specs.Prelude.{◌≡◌, refl, ◌↔◌, List, [], ◌∷◌, ℕ, length}
use Rattle.std.proofs.Math.Path.{sym}
use Rattle.std.proofs.Common.{◌∙◌}
use borrow.Author.Tests.{ltb-false, le-ltb}
use Rattle.theory.specs.Order.Passes.{Marks}
use Rattle.theory.specs.Games.Game.{Game}
use Rattle.table.specs.Table.{vertex_count, game_of}
use Rattle.table.specs.Answers.{Answer, accepted, refused, Clean}
use Rattle.table.specs.AnswersLaws.{judge_clean, judge_accepted, after_clean, after_accepted, after_refused, clean_append, clean_split}
use Rattle.table.specs.Reading.{game_rows}
use Rattle.table.specs.ReadingLaws.{rows_render, well_clean, clean_well}
use Rattle.table.specs.Rules.{FirstRule, Rendered, none, next}
use Rattle.table.specs.RulesLaws.{memory_renders, refused_by, rendered_append}
use Rattle.order.specs.OrderCall.{order_rows, passes_answer, bytes_of, MarksCall}
use Rattle.order.specs.OrderRulesLaws.{passes_accepts}
use Rattle.classes.specs.ClassesCall.{memory_rows, class_rows, total_answer, NumberedCall}
use Rattle.classes.specs.ClassesRules.{memory_rules, class_rules, ClassesFit}

-- ---- the rows render the rules, and are clean exactly if the game is well formed and the memory fits

pub memory_rows_render : (n : ℕ) (marks spare classes : List ℕ)
    → Rendered (memory_rows n (length marks) (length spare) (length classes)) (memory_rules n marks spare classes)
memory_rows_render n marks spare classes =
    next (memory_renders 21 _ marks) (next (memory_renders 22 _ spare) (next (memory_renders 23 _ classes) none))

module _ (game marks spare classes : List ℕ) where
  pub class_rows_render : Rendered (class_rows game marks spare classes) (class_rules game marks spare classes)
  unfolding class_rows
  class_rows_render = rendered_append (rows_render game) (memory_rows_render (vertex_count game) marks spare classes)

  pub classes_clean : ClassesFit game marks spare classes → Clean (class_rows game marks spare classes)
  unfolding class_rows
  classes_clean f =
      clean_append (game_rows game) _ (well_clean game f.order_fits.game)
      (le-ltb (length marks) _ f.order_fits.marks_fit, (le-ltb (length spare) _ f.order_fits.spare_fit, (le-ltb (length classes) _ f.words_fit, tt)))

  pub clean_classes : Clean (class_rows game marks spare classes) → ClassesFit game marks spare classes
  unfolding class_rows
  clean_classes c =
      let (well, (m, (s, (w, _)))) = clean_split (game_rows game) _ c in record {
        order_fits = record { game = clean_well game well; marks_fit = ltb-false (length marks) _ m; spare_fit = ltb-false (length spare) _ s };
        words_fit = ltb-false (length classes) _ w;
      }

-- ---- the call, whatever relation is written

module _ {relation : Game → Marks} {total : List ℕ → ℕ} {words : List ℕ → List ℕ} {game marks spare classes : List ℕ} {answer : Answer}
    {marks' spare' classes' : List ℕ} (call : NumberedCall relation total words game marks spare classes answer marks' spare' classes') where
  pub classes_refused : (k p : ℕ) → (answer ≡ refused k p) ↔ FirstRule (class_rules game marks spare classes) k p
  unfolding total_answer
  classes_refused = refused_by _ (class_rows_render game marks spare classes) call.verdict

  pub classes_accepted : (counts : List ℕ) → answer ≡ accepted counts → ClassesFit game marks spare classes × (counts ≡ total game ∷ [])
  unfolding total_answer
  classes_accepted counts e =
      let a = judge_accepted (class_rows game marks spare classes) _ counts (sym call.verdict ∙ e) in
      (clean_classes game marks spare classes a.0, sym a.1)

  pub classes_accepts : ClassesFit game marks spare classes → answer ≡ accepted (total game ∷ [])
  unfolding total_answer
  classes_accepts f = call.verdict ∙ judge_clean _ _ (classes_clean game marks spare classes f)

  pub classes_refused_old : (k p : ℕ) → answer ≡ refused k p → (marks' ≡ marks) × (spare' ≡ spare) × (classes' ≡ classes)
  unfolding total_answer
  classes_refused_old k p e =
      let v = sym call.verdict ∙ e in (
        call.marks_after ∙ after_refused (class_rows game marks spare classes) _ (bytes_of relation game) marks v,
        call.spare_after ∙ after_refused (class_rows game marks spare classes) _ (bytes_of relation game) spare v,
        call.classes_after ∙ after_refused (class_rows game marks spare classes) _ (words game) classes v,
      )

-- an accepted call left marks and spare as the call that writes the relation alone
pub classes_marks : {relation : Game → Marks} {total : List ℕ → ℕ} {words : List ℕ → List ℕ} (passes : Game → ℕ)
    {game marks spare classes counts marks' spare' classes' : List ℕ}
    → NumberedCall relation total words game marks spare classes (accepted counts) marks' spare' classes'
    → MarksCall relation passes game marks spare (accepted (passes (game_of game) ∷ [])) marks' spare'
unfolding passes_answer
classes_marks {relation} passes {game} {marks} {spare} {classes} call =
    let f = (classes_accepted call _ refl).0 in
    let e = passes_accepts passes game marks spare f.order_fits in
    let c = classes_clean game marks spare classes f in record {
      verdict = sym e;
      marks_after = call.marks_after ∙ after_clean (class_rows game marks spare classes) (bytes_of relation game) marks c
          ∙ sym (after_accepted (order_rows game marks spare) _ (bytes_of relation game) marks e);
      spare_after = call.spare_after ∙ after_clean (class_rows game marks spare classes) (bytes_of relation game) spare c
          ∙ sym (after_accepted (order_rows game marks spare) _ (bytes_of relation game) spare e);
    }
