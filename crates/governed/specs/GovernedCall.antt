-- The calls of governed bisimulations: CR 12, "checks, lengths, counts and lent memory otherwise follow the order's calls, this relation standing
-- for the order". The promises are those of the order's calls, over this relation.
use Rattle.std.specs.Prelude.{List, ℕ}
use Rattle.theory.specs.Order.Governed.{governed_marks, governed, governed_passes}
use Rattle.table.specs.Answers.{Answer}
use Rattle.order.specs.OrderCall.{MarksCall}
use Rattle.order_acceptor.specs.RelationCall.{governed_pair, acceptor_answer}
use Rattle.classes.specs.ClassesCall.{total_of, words_of, NumberedCall}

-- 1 to 8, 21, 22; the pass count; marks and spare hold the largest governed bisimulation
abbrev pub GovernedCall : List ℕ → List ℕ → List ℕ → Answer → List ℕ → List ℕ → Type 0
GovernedCall = MarksCall governed_marks governed_passes

-- 1 to 8, 21, 41, 10: the acceptor "also gives 10 for a marked pair whose reverse is unmarked"
abbrev pub governed_answer : List ℕ → List ℕ → Answer
governed_answer = acceptor_answer governed_pair

-- 1 to 8, 21 to 23; the class count; marks, spare and class words
abbrev pub governed_words : List ℕ → List ℕ
governed_words = words_of governed

abbrev pub GovernedClassesCall : List ℕ → List ℕ → List ℕ → List ℕ → Answer → List ℕ → List ℕ → List ℕ → Type 0
GovernedClassesCall = NumberedCall governed_marks (total_of governed) governed_words
