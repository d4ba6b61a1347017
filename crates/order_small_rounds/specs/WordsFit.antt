-- Words for the relation, what it lost, the falls of its rows, and what it loses next.
use Rattle.std.specs.Prelude.{List, ℕ, ◌≤◌, length}
use Rattle.words.specs.Word.{word_bits}

abbrev pub WordsFit : List ℕ → List ℕ → List ℕ → List ℕ → Type 0
WordsFit related lost falls next =
    (word_bits ≤ length related) × (word_bits ≤ length lost) × (word_bits ≤ length falls) × (word_bits ≤ length next)
