-- Rounds over rows: the first, each later one, and the last.
use Rattle.std.specs.Prelude.{Bool, List, ℕ, ◌≤◌, length}
use Rattle.theory.specs.Games.Game.{Game}
use Rattle.words.specs.Words.{has}
use Rattle.order_sets.specs.Rounds.{AllIn, PartedIn, StartedIn, BegunIn, RoundIn, RoundDoneIn, SettledIn}
use Rattle.order_rows.specs.Bits.{row_bits, cell}
use Rattle.order_losses.specs.Losses.{relation_words}

-- rows for the relation, what it lost, the falls of its rows, and what it loses next
abbrev pub RowsFit : List ℕ → List ℕ → List ℕ → List ℕ → Type 0
RowsFit related lost falls next =
    (relation_words ≤ length related) × (relation_words ≤ length lost) × (relation_words ≤ length falls) × (relation_words ≤ length next)

-- pass 0 as far as row k: what is left of all pairs, what is taken out, and its fall
abbrev pub Parted : Game → ℕ → List ℕ → List ℕ → List ℕ → Type 0
Parted G k related lost falls = PartedIn row_bits G k (cell related) (cell lost) (cell falls)

-- a row of all vertices
abbrev pub AllVertices : Game → List ℕ → Type 0
AllVertices G all = AllIn row_bits G (has all)

-- the vertices before k that pass 0 takes something out for
abbrev pub Started : Game → ℕ → List ℕ → Type 0
Started G k changed = StartedIn row_bits G k (has changed)

-- pass 0 is done
abbrev pub Begun : Game → List ℕ → List ℕ → List ℕ → List ℕ → Type 0
Begun G related lost falls changed = BegunIn row_bits G (cell related) (cell lost) (cell falls) (has changed)

-- what a round does to the rows of a game, and how many pairs it takes out, no more than there are
abbrev pub RoundOf : Bool → Game → List ℕ → List ℕ → List ℕ → ℕ → List ℕ → List ℕ → List ℕ → List ℕ → Type 0
RoundOf mirror G related lost changed c related' lost' falls' changed' =
    RoundIn row_bits mirror G (cell related) (cell lost) (has changed) c (cell related') (cell lost') (cell falls') (has changed')

abbrev pub RoundDone : Bool → List ℕ → List ℕ → List ℕ → List ℕ → List ℕ → ℕ → List ℕ → List ℕ → List ℕ → List ℕ → Type 0
RoundDone mirror edges related lost falls changed c related' lost' falls' changed' =
    RoundDoneIn row_bits mirror (cell edges) (cell related) (cell lost) (cell falls) (has changed) c (cell related') (cell lost') (cell falls') (has changed')

-- the rounds are over: c passes were made, and the relation is the order or, with `mirror`, the governed bisimulation
abbrev pub Settled : Bool → Game → ℕ → List ℕ → Type 0
Settled mirror G c related = SettledIn mirror G c (cell related)
