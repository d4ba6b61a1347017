-- What determinacy is proved with: sets of vertices, subgames, and regions on which a player wins by a positional strategy. They serve
-- `DeterminacyLaws` and the laws of `solutions` alone; no statement of a call names them.
use Rattle.std.specs.Prelude.{◌≡◌, ◌⊎◌, Bool, false, not, cond, List, ◌∷◌, ℕ, ◌≤◌, ◌<◌, min, eqb, ltb}
use Rattle.std.proofs.Math.Bool.{So}
use Rattle.theory.specs.Logic.Bools.{◌&◌, ◌or◌, imp}
use Rattle.theory.specs.Logic.Range.{all_below, any_below, count, nth, tabulate, pairs_of}
use Rattle.theory.specs.Order.Passes.{Rel}
use Rattle.theory.specs.Games.Game.{Player, other, parity, Game, own}
use Rattle.theory.specs.Plans.Plan.{Plan, Walk, seen}
use Rattle.theory.specs.Plans.Returns.{In}

-- ---- sets of vertices

abbrev pub Set : Type 0
Set = ℕ → Bool

unfoldable pub none : Set
none v = false

unfoldable pub union : Set → Set → Set
union B D v = B v or D v

unfoldable pub minus : Set → Set → Set
minus S B v = S v & not (B v)

unfoldable pub whole : Game → Set
whole G v = ltb v G.n

-- a vertex of the lowest priority in S among those below k
pub record Lowest (G : Game) (S : Set) (k : ℕ) : Type 0 where
  pub at : ℕ
  pub inside : at < k
  pub member : So (S at)
  pub least : (v : ℕ) → v < k → So (S v) → G.priority at ≤ G.priority v

-- S is closed enough to be played in: each of its vertices has a successor in it
pub record Subgame (G : Game) (S : Set) : Type 0 where
  pub inside : (v : ℕ) → So (S v) → v < G.n
  pub total : (v : ℕ) → So (S v) → (w : ℕ) × So (S w) × So (G.edge v w)

-- ---- regions

-- A positional strategy of x's on W, in the subgame S, with which x wins or comes to the target T. A link is an edge that it allows: some
-- edge at a vertex of x's, every edge of the subgame at one of the opponent's. At T it ends. Where T is empty, x wins on all of W.
pub record Region (G : Game) (x : Player) (S T W : Set) : Type 0 where
  pub link : Rel
  pub holds : (v : ℕ) → So (T v) → So (W v)
  pub inside : (v : ℕ) → So (W v) → So (S v)
  pub source : (v w : ℕ) → So (link v w) → So (W v)
  pub target : (v w : ℕ) → So (link v w) → So (W w)
  pub leaves : (v w : ℕ) → So (link v w) → T v ≡ false
  pub follows : (v w : ℕ) → So (link v w) → So (G.edge v w)
  pub moves : (v : ℕ) → So (W v) → T v ≡ false → So (own G x v) → (w : ℕ) × So (link v w)
  pub answers : (v : ℕ) → So (W v) → T v ≡ false → own G x v ≡ false → (w : ℕ) → So (S w) → So (G.edge v w) → So (link v w)
  pub closed : (v : ℕ) (ks : List ℕ) → Walk link v ks v → So (parity x (seen min G.priority v ks))

-- What makes a set D a layer around B: a strategy whose links lead into B or stay in D, and that wins as long as it stays out of B.
pub record Layer (G : Game) (x : Player) (S B D : Set) : Type 0 where
  pub link : Rel
  pub inside : (v : ℕ) → So (D v) → So (S v)
  pub source : (v w : ℕ) → So (link v w) → So (D v)
  pub target : (v w : ℕ) → So (link v w) → So (B w) ⊎ So (D w)
  pub follows : (v w : ℕ) → So (link v w) → So (G.edge v w)
  pub moves : (v : ℕ) → So (D v) → So (own G x v) → (w : ℕ) × So (link v w)
  pub answers : (v : ℕ) → So (D v) → own G x v ≡ false → (w : ℕ) → So (S w) → So (G.edge v w) → So (link v w)
  pub closed : (v : ℕ) (ks : List ℕ) → Walk link v ks v → ((k : ℕ) → In k (v ∷ ks) → B k ≡ false)
      → So (parity x (seen min G.priority v ks))

-- the links in B, and from outside B those of the layer
unfoldable pub layered : Set → Rel → Rel → Rel
layered B σ τ v w = σ v w or (not (B v) & τ v w)

-- ---- attractors

-- x forces the next step from v into B: some edge leads there, or, at a vertex of the opponent's, every edge of the subgame does
unfoldable pub attracted : Game → Player → Set → Set → ℕ → Bool
attracted G x S B v = cond (own G x v) (any_below G.n (λ w. B w & G.edge v w)) (all_below G.n (λ w. imp (S w & G.edge v w) (B w)))

-- no vertex outside B is attracted to it
abbrev pub Saturated : Game → Player → Set → Set → Type 0
Saturated G x S B = (v : ℕ) → So (S v) → B v ≡ false → attracted G x S B v ≡ false

-- a region that holds B and attracts nothing more
pub record Attractor (G : Game) (x : Player) (S T B : Set) : Type 0 where
  pub set : Set
  pub region : Region G x S T set
  pub extends : (v : ℕ) → So (B v) → So (set v)
  pub saturated : Saturated G x S set

-- ---- solutions

-- two regions without a target, one of each player, that together cover the subgame
pub record Solution (G : Game) (a : Player) (S : Set) : Type 0 where
  pub mine : Set
  pub theirs : Set
  pub my_region : Region G a S none mine
  pub their_region : Region G (other a) S none theirs
  pub cover : (v : ℕ) → So (S v) → So (mine v) ⊎ So (theirs v)

-- ---- a region as a plan

-- number c and the first one change places
unfoldable pub swapped : ℕ → ℕ → ℕ
swapped c i = cond (eqb i 0) c (cond (eqb i c) 0 i)

-- position i is at the i-th vertex of W, but v and the lowest of them change places, so that the plan starts at v
unfoldable pub vertex_at : ℕ → Set → ℕ → ℕ → ℕ
vertex_at n W v i = nth n W (swapped (count v W) i)

-- a position for each vertex of W, and a link for each of the region's
unfoldable pub region_plan : Game → Rel → Set → ℕ → Plan
region_plan G link W v = record {
  vertices = tabulate (count G.n W) (vertex_at G.n W v);
  links = pairs_of (count G.n W) (λ i j. link (vertex_at G.n W v i) (vertex_at G.n W v j));
}
