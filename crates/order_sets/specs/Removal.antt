-- Losses are taken out of a relation, row by row.
use Rattle.std.specs.Prelude.{◌≡◌, Bool, not, ℕ, ◌<◌}
use Rattle.std.proofs.Math.Bool.{So}
use Rattle.theory.specs.Logic.Bools.{◌&◌}
use Rattle.theory.specs.Logic.Range.{count, sum}
use Rattle.theory.specs.Order.Passes.{Rel}
use Rattle.theory.specs.Games.Game.{even, Game, own}
use Rattle.theory.specs.Order.Rows.{fall}
use Rattle.order_sets.specs.Sets.{struck}
use Rattle.order_sets.specs.MembersLaws.{kept, Members}
use Rattle.order_sets.specs.Losses.{EdgeSets}

-- every row but a is as before
abbrev pub OthersIn : ℕ → ℕ → Rel → Rel → Type 0
OthersIn B a old new = (u x : ℕ) → (u ≡ a → ⊥) → x < B → new u x ≡ old u x

-- `fallen` is what leaves the controllable predecessors when l is taken out of row a and x is left, as far as a predecessor of Even's asks
abbrev pub AskedFall : ℕ → Game → Rel → ℕ → (ℕ → Bool) → (ℕ → Bool) → (ℕ → Bool) → Type 0
AskedFall B G related a l x fallen =
    (v w : ℕ) → v < G.n → w < B → So (G.edge v a) → So (own G even v) → So (related v w) → fallen w ≡ fall G l x w

-- row a of `falls` is that of `out`
abbrev pub Asked : ℕ → Game → (ℕ → Bool) → Rel → Rel → ℕ → Type 0
Asked B G out related falls a = AskedFall B G related a out (related a) (falls a)

-- `out`, c pairs, is taken out of row a of `related`; it is the row's loss, and its fall is there
pub record TakenRow (B : ℕ) (edges : Rel) (out : ℕ → Bool) (a : ℕ) (related lost falls : Rel) (c : ℕ) (related' lost' falls' : Rel) : Type 0 where
  pub size : c ≡ count B out
  pub left : (x : ℕ) → x < B → related' a x ≡ related a x & not (out x)
  pub loss : (x : ℕ) → x < B → lost' a x ≡ out x
  pub fallen : (G : Game) → EdgeSets B G edges → Asked B G out related' falls' a
  pub related_others : OthersIn B a related related'
  pub lost_others : OthersIn B a lost lost'
  pub falls_others : OthersIn B a falls falls'

-- the rows of `losing` in `next` that are before k, c pairs, are taken out of `old`
pub record TakenIn (B : ℕ) (edges next : Rel) (losing : ℕ → Bool) (k : ℕ) (old : Rel) (c : ℕ) (related lost falls : Rel) : Type 0 where
  pub size : c ≡ sum k (λ u. count B (struck losing next u))
  pub left : (u x : ℕ) → u < B → x < B → related u x ≡ old u x & not (kept losing B (λ v. next v x) k u)
  pub loss : Members losing B (λ u. (x : ℕ) → x < B → lost u x ≡ next u x) k
  pub fallen : (G : Game) → EdgeSets B G edges → Members losing B (λ u. Asked B G (next u) related falls u) k
