-- Losses that gain pairs: the reverses of what a round takes out are taken out too.
use Rattle.std.specs.Prelude.{Bool, List, ℕ}
use Rattle.theory.specs.Order.Passes.{Rel}
use Rattle.words.specs.Words.{has}
use Rattle.order_sets.specs.Reverses as sets
use Rattle.order_sets.specs.Reverses.{MoreIn, CompletedIn}
use Rattle.order_rows.specs.Bits.{row_bits, cell}

-- the pairs of p are losses too, and no row leaves those that lose something
abbrev pub LosesToo : Rel → List ℕ → List ℕ → List ℕ → List ℕ → Type 0
LosesToo p next losing next' losing' = MoreIn row_bits p (cell next) (has losing) (cell next') (has losing')

-- the pairs of all in `which` with v
abbrev pub column_pairs : List ℕ → ℕ → Rel
column_pairs which = sets.column_pairs (has which)

-- the losses are those before and, with `mirror`, their reverses
abbrev pub Completed : Bool → List ℕ → List ℕ → List ℕ → List ℕ → Type 0
Completed mirror next losing next' losing' = CompletedIn row_bits mirror (cell next) (has losing) (cell next') (has losing')
