-- Losses are taken out of a relation in rows.
use Rattle.std.specs.Prelude.{Bool, List, ℕ}
use Rattle.theory.specs.Games.Game.{Game}
use Rattle.words.specs.Words.{has}
use Rattle.order_sets.specs.Removal.{AskedFall, TakenRow, TakenIn}
use Rattle.order_rows.specs.Bits.{row_bits, cell}

-- `fallen` is what leaves the controllable predecessors when l is taken out of row a and x is left, as far as a predecessor of Even's asks
abbrev pub FallAsked : Game → List ℕ → ℕ → List ℕ → List ℕ → List ℕ → Type 0
FallAsked G related a l x fallen = AskedFall row_bits G (cell related) a (has l) (has x) (has fallen)

-- `out`, c pairs, is taken out of row a of `related`; it is the row's loss, and its fall is there, as far as a predecessor of Even's asks
abbrev pub RowTaken : List ℕ → (ℕ → Bool) → ℕ → List ℕ → List ℕ → List ℕ → ℕ → List ℕ → List ℕ → List ℕ → Type 0
RowTaken edges out a related lost falls c related' lost' falls' =
    TakenRow row_bits (cell edges) out a (cell related) (cell lost) (cell falls) c (cell related') (cell lost') (cell falls')

-- the rows of `losing` in `next` that are before k, c pairs, are taken out of `old`
abbrev pub TakenTo : List ℕ → List ℕ → List ℕ → ℕ → List ℕ → ℕ → List ℕ → List ℕ → List ℕ → Type 0
TakenTo edges next losing k old c related lost falls =
    TakenIn row_bits (cell edges) (cell next) (has losing) k (cell old) c (cell related) (cell lost) (cell falls)
