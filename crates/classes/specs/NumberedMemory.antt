-- What is left once the game and the memory are judged: a relation, and k classes. No public promise cites this.
use Rattle.std.specs.Prelude.{◌≡◌, List, ℕ}
use Rattle.theory.specs.Order.Passes.{Marks}
use Rattle.theory.specs.Games.Game.{Game}
use Rattle.theory.specs.Order.Order.{order_marks}
use Rattle.table.specs.Answers.{written}
use Rattle.order.specs.OrderCall.{bytes_of}
use Rattle.classes.specs.ClassesCall.{class_total, class_words}

pub record NumberedDone (relation : Game → Marks) (total : List ℕ → ℕ) (words : List ℕ → List ℕ) (game marks spare classes : List ℕ) (k : ℕ)
    (marks' spare' classes' : List ℕ) : Type 0 where
  pub count : k ≡ total game
  pub marks_after : marks' ≡ written (bytes_of relation game) marks
  pub spare_after : spare' ≡ written (bytes_of relation game) spare
  pub classes_after : classes' ≡ written (words game) classes

-- the order, and its classes
abbrev pub ClassesDone : List ℕ → List ℕ → List ℕ → List ℕ → ℕ → List ℕ → List ℕ → List ℕ → Type 0
ClassesDone = NumberedDone order_marks class_total class_words
