-- A solution of a game: a winner at each vertex, and the edges that the winners' strategies keep. It is right if no closed walk over kept
-- edges has a lowest priority of the loser's parity.
use Rattle.std.specs.Prelude.{◌≡◌, false, ℕ, ◌<◌, ltb}
use Rattle.std.proofs.Math.Bool.{So}
use Rattle.theory.specs.Logic.Bools.{◌&◌}
use Rattle.theory.specs.Order.Passes.{Rel}
use Rattle.theory.specs.Games.Game.{Player, same, Game, own, Succ}
use Rattle.theory.specs.Plans.Returns.{Return}
use Rattle.theory.specs.Winners.Region.{Set}

-- Some edge is kept at a vertex of its winner's, every edge at one of the loser's; and a kept edge leads to a vertex of the same winner.
pub record Kept (G : Game) (win : ℕ → Player) (kept : Rel) : Type 0 where
  pub source : (v w : ℕ) → So (kept v w) → v < G.n
  pub target : (v w : ℕ) → So (kept v w) → w < G.n
  pub follows : (v w : ℕ) → So (kept v w) → So (G.edge v w)
  pub stays : (v w : ℕ) → So (kept v w) → win v ≡ win w
  pub moves : (v : ℕ) → v < G.n → So (own G (win v) v) → (w : ℕ) × So (kept v w)
  pub answers : (v w : ℕ) → v < G.n → own G (win v) v ≡ false → Succ G v w → So (kept v w)

-- no closed walk over kept edges is the loser's, said of its lowest vertex
abbrev pub Good : Game → (ℕ → Player) → Rel → Type 0
Good G win kept = (v : ℕ) → v < G.n → Return (win v) G.priority kept v → ⊥

-- the vertices of a's, and the edges kept there
unfoldable pub region : Game → (ℕ → Player) → Player → Set
region G win a v = ltb v G.n & same a (win v)

unfoldable pub kept_by : (ℕ → Player) → Rel → Player → Rel
kept_by win kept a v w = kept v w & same a (win v)
