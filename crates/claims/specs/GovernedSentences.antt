-- What is claimed of the governed calls, about slices after them, as the promises of the functions of `claims_calls` state it.
use Rattle.std.specs.Prelude.{◌≡◌, ◌↔◌, List, [], ℕ, ◌<◌, get_or}
use Rattle.theory.specs.Games.Game.{Player}
use Rattle.theory.specs.Order.Governed.{governed}
use Rattle.theory.specs.Plans.Plan.{Won}
use Rattle.theory.specs.Classes.Reduction.{class_number, class_of}
use Rattle.table.specs.Table.{vertex_count, game_of}
use Rattle.table.specs.Answers.{Answer, accepted}
use Rattle.marks.specs.Marks.{Marked}
use Rattle.order_acceptor.specs.RelationCall.{relation_answer}
use Rattle.governed.specs.GovernedCall.{GovernedCall, governed_answer, GovernedClassesCall}
use Rattle.claims.specs.Sentences.{OnAcceptance}

-- of a buffer that holds the written relation
pub record GovernedSentences (game buffer : List ℕ) : Type 0 where
  -- it contains every relation that the governed acceptor passes, ..
  pub contains : (relation : List ℕ) → governed_answer game relation ≡ accepted [] → (v w : ℕ) → v < vertex_count game → w < vertex_count game
      → Marked (vertex_count game) relation v w → Marked (vertex_count game) buffer v w
  -- .. and is one itself; the order's acceptor passes it too
  pub passes : governed_answer game buffer ≡ accepted []
  pub simulates : relation_answer game buffer ≡ accepted []
  -- each player has a winning plan from v exactly when that player has one from w
  pub winner : (a : Player) (v w : ℕ) → v < vertex_count game → w < vertex_count game → Marked (vertex_count game) buffer v w
      → Won a (game_of game) v ↔ Won a (game_of game) w

-- of class words: that of each vertex is its governed class, and vertices with one word share a class of the order
pub record GovernedClasses (game classes : List ℕ) : Type 0 where
  pub number : (v : ℕ) → v < vertex_count game → get_or classes v 0 ≡ class_number (vertex_count game) (governed (game_of game)) v
  pub inside : (v w : ℕ) → v < vertex_count game → w < vertex_count game → get_or classes v 0 ≡ get_or classes w 0 → class_of (game_of game) v ≡ class_of (game_of game) w

-- ---- what holds after each call

pub record Governs (game marks spare : List ℕ) (answer : Answer) (marks' spare' : List ℕ) : Type 0 where
  pub call : GovernedCall game marks spare answer marks' spare'
  pub marks_governed : OnAcceptance answer (GovernedSentences game marks')
  pub spare_governed : OnAcceptance answer (GovernedSentences game spare')

pub record GovernsClasses (game marks spare classes : List ℕ) (answer : Answer) (marks' spare' classes' : List ℕ) : Type 0 where
  pub call : GovernedClassesCall game marks spare classes answer marks' spare' classes'
  pub marks_governed : OnAcceptance answer (GovernedSentences game marks')
  pub spare_governed : OnAcceptance answer (GovernedSentences game spare')
  pub classes_governed : OnAcceptance answer (GovernedClasses game classes')
