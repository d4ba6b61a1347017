-- Rounds: the first, each later one, and the last.
use Rattle.std.specs.Prelude.{◌≡◌, Bool, not, ℕ, ◌+◌, ◌*◌, ◌≤◌, ◌<◌, ltb}
use Rattle.std.proofs.Math.Bool.{So}
use Rattle.theory.specs.Logic.Bools.{◌&◌}
use Rattle.theory.specs.Logic.Range.{any_below}
use Rattle.theory.specs.Order.Passes.{Rel, marked}
use Rattle.theory.specs.Order.Rounds.{cleared}
use Rattle.theory.specs.Games.Game.{Game}
use Rattle.theory.specs.Order.Order.{equal_priority}
use Rattle.theory.specs.Order.Governed.{marks_by, passes_by}
use Rattle.theory.specs.Order.Rows.{fall, Round, Mirrored, AfterRound}
use Rattle.order_sets.specs.Sets.{Is, struck}
use Rattle.order_sets.specs.Losses.{EdgeSets, FellIn}

-- the pairs of vertices of unequal priorities
unfoldable pub unequal : Game → Rel
unequal G u x = ltb x G.n & not (equal_priority G G u x)

-- the others
unfoldable pub equal : Game → Rel
equal G u x = ltb x G.n & not (unequal G u x)

-- pass 0 as far as row k: what is left of all pairs, what is taken out, and its fall
pub record PartedIn (B : ℕ) (G : Game) (k : ℕ) (related lost falls : Rel) : Type 0 where
  pub left : (u x : ℕ) → u < k → x < B → related u x ≡ equal G u x
  pub loss : (u x : ℕ) → u < k → x < B → lost u x ≡ unequal G u x
  pub fallen : (u w : ℕ) → u < k → w < B → falls u w ≡ fall G (unequal G u) (equal G u) w

-- a set of all vertices
abbrev pub AllIn : ℕ → Game → (ℕ → Bool) → Type 0
AllIn B G all = Is B all (λ x. ltb x G.n)

-- the vertices before k that pass 0 takes something out for
abbrev pub StartedIn : ℕ → Game → ℕ → (ℕ → Bool) → Type 0
StartedIn B G k changed = (u : ℕ) → u < B → changed u ≡ ltb u k & any_below B (unequal G u)

-- pass 0 is done
pub record BegunIn (B : ℕ) (G : Game) (related lost falls : Rel) (changed : ℕ → Bool) : Type 0 where
  pub fell : FellIn B G related lost falls changed
  pub after : (mirror : Bool) → AfterRound mirror G 0 related (struck changed lost)

-- what a round does to the rows of a game, and how many pairs it takes out, no more than there are
pub record RoundIn (B : ℕ) (mirror : Bool) (G : Game) (related lost : Rel) (changed : ℕ → Bool) (c : ℕ) (related' lost' falls' : Rel) (changed' : ℕ → Bool) : Type 0 where
  pub fell : FellIn B G related' lost' falls' changed'
  pub round : Round mirror G related (struck changed lost) related' (struck changed' lost')
  pub count : c ≡ cleared G.n related related'
  pub few : c ≤ G.n * G.n

abbrev pub RoundDoneIn : ℕ → Bool → Rel → Rel → Rel → Rel → (ℕ → Bool) → ℕ → Rel → Rel → Rel → (ℕ → Bool) → Type 0
RoundDoneIn B mirror edges related lost falls changed c related' lost' falls' changed' =
    (G : Game) → EdgeSets B G edges → FellIn B G related lost falls changed → (So mirror → Mirrored G related)
    → RoundIn B mirror G related lost changed c related' lost' falls' changed'

-- the rounds are over: c passes were made, and the relation is the order or, with `mirror`, the governed bisimulation
pub record SettledIn (mirror : Bool) (G : Game) (c : ℕ) (related : Rel) : Type 0 where
  pub count : c ≡ passes_by mirror G
  pub marks : (v w : ℕ) → v < G.n → w < G.n → related v w ≡ marked (marks_by mirror G) (v * G.n + w)
