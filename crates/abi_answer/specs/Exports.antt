-- The promises of the exports that write: the library's answer, its fields, and the library's promise.
use Rattle.std.specs.Prelude.{◌≡◌, List, ℕ}
use Rattle.theory.specs.Order.Passes.{Marks}
use Rattle.theory.specs.Games.Game.{Game}
use Rattle.theory.specs.Order.Order.{order_marks, order_passes}
use Rattle.theory.specs.Order.Governed.{governed_marks, governed, governed_passes}
use Rattle.table.specs.Answers.{Answer}
use Rattle.order.specs.OrderCall.{MarksCall}
use Rattle.classes.specs.ClassesCall.{class_total, class_words, total_of, NumberedCall}
use Rattle.governed.specs.GovernedCall.{governed_words}
use Rattle.reduction.specs.TableCall.{TableCall}
use Rattle.table_seed.specs.SeedCall.{SeedCall}
use Rattle.table_convert.specs.ConvertCall.{ConvertCall}
use Rattle.carry.specs.CarryCall.{CarryCall, CarryClassCall}
use Rattle.abi_answer.specs.Fields.{order_fields, classes_fields, table_fields, fill_fields, carry_fields, class_carry_fields}
use Rattle.abi_answer.specs.declared.RaskjomiAnswer.{RaskjomiAnswer}

-- the order, or another relation by passes
pub record MarksExport (relation : Game → Marks) (passes : Game → ℕ) (game marks spare : List ℕ) (r : RaskjomiAnswer) (marks' spare' : List ℕ) : Type 0 where
  pub answer : Answer
  pub fields : r ≡ order_fields answer
  pub call : MarksCall relation passes game marks spare answer marks' spare'

abbrev pub OrderExport : List ℕ → List ℕ → List ℕ → RaskjomiAnswer → List ℕ → List ℕ → Type 0
OrderExport = MarksExport order_marks order_passes

abbrev pub GovernedExport : List ℕ → List ℕ → List ℕ → RaskjomiAnswer → List ℕ → List ℕ → Type 0
GovernedExport = MarksExport governed_marks governed_passes

-- the classes of either
pub record NumberedExport (relation : Game → Marks) (total : List ℕ → ℕ) (words : List ℕ → List ℕ) (game marks spare classes : List ℕ) (r : RaskjomiAnswer)
    (marks' spare' classes' : List ℕ) : Type 0 where
  pub answer : Answer
  pub fields : r ≡ classes_fields answer
  pub call : NumberedCall relation total words game marks spare classes answer marks' spare' classes'

abbrev pub ClassesExport : List ℕ → List ℕ → List ℕ → List ℕ → RaskjomiAnswer → List ℕ → List ℕ → List ℕ → Type 0
ClassesExport = NumberedExport order_marks class_total class_words

abbrev pub GovernedClassesExport : List ℕ → List ℕ → List ℕ → List ℕ → RaskjomiAnswer → List ℕ → List ℕ → List ℕ → Type 0
GovernedClassesExport = NumberedExport governed_marks (total_of governed) governed_words

pub record TableExport (K : Game → Game) (game marks spare classes output : List ℕ) (r : RaskjomiAnswer) (marks' spare' classes' output' : List ℕ) : Type 0 where
  pub answer : Answer
  pub fields : r ≡ table_fields answer
  pub call : TableCall K game marks spare classes output answer marks' spare' classes' output'

pub record SeedExport (seed n d c : ℕ) (output : List ℕ) (r : RaskjomiAnswer) (output' : List ℕ) : Type 0 where
  pub answer : Answer
  pub fields : r ≡ fill_fields answer
  pub call : SeedCall seed n d c output answer output'

pub record ConvertExport (game output : List ℕ) (r : RaskjomiAnswer) (output' : List ℕ) : Type 0 where
  pub answer : Answer
  pub fields : r ≡ fill_fields answer
  pub call : ConvertCall game output answer output'

pub record CarryExport (game : List ℕ) (player : ℕ) (plan : List ℕ) (vertex : ℕ) (marks spare output : List ℕ) (r : RaskjomiAnswer)
    (marks' spare' output' : List ℕ) : Type 0 where
  pub answer : Answer
  pub fields : r ≡ carry_fields answer
  pub call : CarryCall game player plan vertex marks spare output answer marks' spare' output'

pub record CarryClassExport (game : List ℕ) (player : ℕ) (plan : List ℕ) (vertex : ℕ) (marks spare classes reduction output : List ℕ)
    (r : RaskjomiAnswer) (marks' spare' classes' reduction' output' : List ℕ) : Type 0 where
  pub answer : Answer
  pub fields : r ≡ class_carry_fields answer
  pub call : CarryClassCall game player plan vertex marks spare classes reduction output answer marks' spare' classes' reduction' output'
