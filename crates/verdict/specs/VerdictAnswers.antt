-- The two answers of the verdict call that accepts.
use Rattle.std.specs.Prelude.{◌≡◌, List, [], ◌∷◌, ◌++◌, ℕ}
use Rattle.theory.specs.Classes.Reduction.{reduced}
use Rattle.table.specs.Answers.{Answer, accepted}
use Rattle.reduction.specs.TableCall.{table_counts}

-- the answers: with the counts of the classes and of the reduction, 1 for "wins" and 0 for "not shown"
abbrev pub Wins : List ℕ → Answer → Type 0
Wins game answer = answer ≡ accepted (table_counts reduced game ++ (1 ∷ []))

abbrev pub NotShown : List ℕ → Answer → Type 0
NotShown game answer = answer ≡ accepted (table_counts reduced game ++ (0 ∷ []))
