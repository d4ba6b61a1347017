-- The rows of a game's edges, and what the rows of a relation lose.
use Rattle.std.specs.Prelude.{◌≡◌, Bool, not, List, ℕ, ◌+◌, ◌*◌, ◌≤◌, ◌<◌, eqb, ltb, get_or}
use Rattle.std.proofs.Math.Bool.{So}
use Rattle.theory.specs.Logic.Bools.{◌&◌, ◌or◌}
use Rattle.theory.specs.Logic.Range.{any_below}
use Rattle.theory.specs.Order.Passes.{Rel}
use Rattle.theory.specs.Games.Game.{even, Game, own}
use Rattle.theory.specs.Order.Rows.{united, fall, loses}
use Rattle.table.specs.Table.{is_edge}
use Rattle.order_sets.specs.Sets.{apart_in, struck}
use Rattle.order_sets.specs.MembersLaws.{kept, Members}

-- vertex w is below n, and its word from `from` on isn't the value
unfoldable pub differs : List ℕ → ℕ → ℕ → ℕ → ℕ → Bool
differs words from n value w = ltb w n & not (eqb (get_or words (from + w) 0) value)

-- ---- edges

-- row v holds the successors of v, row B + v its predecessors, and row 2 * B Odd's vertices
pub record EdgeSets (B : ℕ) (G : Game) (edges : Rel) : Type 0 where
  pub small : G.n ≤ B
  pub inside : (v x : ℕ) → So (G.edge v x) → (v < G.n) × (x < G.n)
  pub next : (v x : ℕ) → v < B → x < B → edges v x ≡ G.edge v x
  pub back : (x v : ℕ) → x < B → v < B → edges (B + x) v ≡ G.edge v x
  pub odd : (v : ℕ) → v < G.n → edges (2 * B) v ≡ not (own G even v)

-- the first j edges of the table are in the rows
pub record EdgesIn (B : ℕ) (g : List ℕ) (j : ℕ) (edges : Rel) : Type 0 where
  pub next : (v x : ℕ) → v < B → x < B → edges v x ≡ any_below j (is_edge g v x)
  pub back : (x v : ℕ) → x < B → v < B → edges (B + x) v ≡ any_below j (is_edge g v x)

-- of `near` those of a player's, and those of the other's without a successor in x
abbrev pub falling_in : ℕ → Rel → (ℕ → Bool) → (ℕ → Bool) → (ℕ → Bool) → ℕ → Bool
falling_in B edges near player x w = (near w & player w) or ((near w & not (player w)) & apart_in B edges w x)

-- l and x together are all vertices
abbrev pub Whole : ℕ → Game → (ℕ → Bool) → (ℕ → Bool) → Type 0
Whole B G l x = (w : ℕ) → w < B → (l w or x w) ≡ ltb w G.n

-- ---- a relation, and what it lost

-- each row of `falls` that changed holds what leaves the controllable predecessors of that row, as far as a predecessor of Even's asks: for what
-- is in the predecessor's own row
abbrev pub FellIn : ℕ → Game → Rel → Rel → Rel → (ℕ → Bool) → Type 0
FellIn B G related lost falls changed =
    (v a w : ℕ) → v < G.n → a < G.n → w < B → So (changed a) → So (G.edge v a) → So (own G even v) → So (related v w)
    → falls a w ≡ fall G (lost a) (related a) w

-- what a vertex of Odd's loses, if the rows of its successors lost `gone`
unfoldable pub odd_loss : Game → Rel → (ℕ → Bool) → Rel
odd_loss G H gone v w = H v w & fall G (λ x. gone x & not (united G H v x)) (united G H v) w

-- what the vertices of `near` before k lose is in their rows, and those that lose something are in `losing`
pub record LossesIn (B : ℕ) (p : Rel) (near : ℕ → Bool) (k : ℕ) (next : Rel) (losing : ℕ → Bool) : Type 0 where
  pub rows : Members near B (λ u. (x : ℕ) → x < B → next u x ≡ p u x) k
  pub some : (u : ℕ) → u < B → losing u ≡ kept near B (λ v. any_below B (p v)) k u

-- the same of the losses of a game's rows, of which those of `changed` lost something before
abbrev pub GameLosses : ℕ → Rel → Rel → Rel → Rel → (ℕ → Bool) → (ℕ → Bool) → ℕ → Rel → (ℕ → Bool) → Type 0
GameLosses B edges related lost falls changed near k next losing =
    (G : Game) → EdgeSets B G edges → FellIn B G related lost falls changed → ((u : ℕ) → u < B → So (near u) → u < G.n)
    → LossesIn B (loses G related (struck changed lost)) near k next losing
