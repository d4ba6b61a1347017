-- The sentences of demand 3, about slices after each call that leaves the order, as the promises of the functions of `claims_calls` state them.
use Rattle.std.specs.Prelude.{◌≡◌, ◌⊎◌, ◌↔◌, List, [], ◌∷◌, ℕ, ◌≤◌, ◌<◌, get_or}
use Rattle.theory.specs.Games.Game.{Player, even, odd, Game, edge_count}
use Rattle.theory.specs.Plans.Plan.{Won}
use Rattle.theory.specs.Classes.Reduction.{reduced, class_of}
use Rattle.table.specs.Table.{vertex_count, table_edges, table_in, game_of}
use Rattle.table.specs.Answers.{Answer, accepted, refused}
use Rattle.table.specs.Reading.{read_answer}
use Rattle.table.specs.Acceptance.{acceptance_answer}
use Rattle.marks.specs.Marks.{Marked}
use Rattle.order.specs.OrderCall.{ordering_answer, OrderCall}
use Rattle.order_acceptor.specs.RelationCall.{relation_answer}
use Rattle.classes.specs.ClassesCall.{ClassesCall}
use Rattle.reduction.specs.TableCall.{TableCall}
use Rattle.carry.specs.CarryCall.{CarryCall, CarryClassCall}
use Rattle.carry.specs.WrittenPlan.{written_plan, PlanFrom}
use Rattle.edit_rules.specs.declared.Edit.{Edit}
use Rattle.edit.specs.EditCall.{EditCall}
use Rattle.edit_preview.specs.PreviewCall.{PreviewCall}
use Rattle.edit_replay.specs.ReplayCall.{replayed, ReplayCall}
use Rattle.claims.specs.WrittenMemory.{written_table}
use Rattle.claims.specs.declared.Containment.{Containment}

-- where the call accepts
abbrev pub OnAcceptance : Answer → Type 0 → Type 0
OnAcceptance answer P = (counts : List ℕ) → answer ≡ accepted counts → P

-- of a buffer that holds the written order
pub record OrderSentences (game buffer : List ℕ) : Type 0 where
  -- the written order contains every relation that the acceptor passes
  pub contains : (relation : List ℕ) → relation_answer game relation ≡ accepted [] → (v w : ℕ) → v < vertex_count game → w < vertex_count game
      → Marked (vertex_count game) relation v w → Marked (vertex_count game) buffer v w
  -- where v is below w, a winning plan for Even from v gives one from w ..
  pub even_up : (v w : ℕ) → v < vertex_count game → w < vertex_count game → Marked (vertex_count game) buffer v w
      → Won even (game_of game) v → Won even (game_of game) w
  -- .. and a winning plan for Odd from w gives one from v
  pub odd_down : (v w : ℕ) → v < vertex_count game → w < vertex_count game → Marked (vertex_count game) buffer v w
      → Won odd (game_of game) w → Won odd (game_of game) v

-- of class words: that of each vertex is its class
abbrev pub ClassSentence : List ℕ → List ℕ → Type 0
ClassSentence game classes = (v : ℕ) → v < vertex_count game → get_or classes v 0 ≡ class_of (game_of game) v

-- of class words and an output that holds the table of a game of classes, n vertices and e edges
pub record TableSentences (game classes output : List ℕ) (n e : ℕ) : Type 0 where
  pub read : read_answer (written_table n e output) ≡ accepted (n ∷ e ∷ e ∷ [])
  -- each player has a winning plan from a vertex exactly when that player has one from its class in the reduced game
  pub winner : (a : Player) (v : ℕ) → v < vertex_count game
      → Won a (game_of game) v ↔ Won a (game_of (written_table n e output)) (get_or classes v 0)

-- ---- what holds after each call

-- the order call
pub record Orders (game marks spare : List ℕ) (answer : Answer) (marks' spare' : List ℕ) : Type 0 where
  pub call : OrderCall game marks spare answer marks' spare'
  pub marks_order : OnAcceptance answer (OrderSentences game marks')
  pub spare_order : OnAcceptance answer (OrderSentences game spare')

-- the classes call
pub record Classifies (game marks spare classes : List ℕ) (answer : Answer) (marks' spare' classes' : List ℕ) : Type 0 where
  pub call : ClassesCall game marks spare classes answer marks' spare' classes'
  pub marks_order : OnAcceptance answer (OrderSentences game marks')
  pub spare_order : OnAcceptance answer (OrderSentences game spare')
  pub classes_words : OnAcceptance answer (ClassSentence game classes')

-- a call that writes the game K of classes: the quotient or the reduced game
pub record Tabulates (K : Game → Game) (game marks spare classes output : List ℕ) (answer : Answer)
    (marks' spare' classes' output' : List ℕ) : Type 0 where
  pub call : TableCall K game marks spare classes output answer marks' spare' classes' output'
  pub marks_order : OnAcceptance answer (OrderSentences game marks')
  pub spare_order : OnAcceptance answer (OrderSentences game spare')
  pub classes_words : OnAcceptance answer (ClassSentence game classes')
  pub output_table : (k n e : ℕ) → answer ≡ accepted (k ∷ n ∷ e ∷ []) → TableSentences game classes' output' n e

-- where a call accepts, or refuses with a number that comes after the working memory is written
pub record OnceWritten (After : ℕ → Type 0) (answer : Answer) (P : Type 0) : Type 0 where
  pub accepts : OnAcceptance answer P
  pub refuses : (k p : ℕ) → answer ≡ refused k p → After k → P

-- 33 to 35; in the class call 11 to 16 too
abbrev pub AfterOrder : ℕ → Type 0
AfterOrder k = 33 ≤ k

abbrev pub AfterReduction : ℕ → Type 0
AfterReduction k = ((11 ≤ k) × (k ≤ 16)) ⊎ (33 ≤ k)

-- the call that carries a plan on the game
pub record Carries (game : List ℕ) (player : ℕ) (plan : List ℕ) (vertex : ℕ) (marks spare output : List ℕ) (answer : Answer)
    (marks' spare' output' : List ℕ) : Type 0 where
  pub call : CarryCall game player plan vertex marks spare output answer marks' spare' output'
  pub marks_order : OnceWritten AfterOrder answer (OrderSentences game marks')
  pub spare_order : OnceWritten AfterOrder answer (OrderSentences game spare')
  -- the written plan passes the acceptor for the player on this game, and starts at the vertex
  pub output_plan : (p l : ℕ) → answer ≡ accepted (p ∷ l ∷ []) → PlanFrom game player vertex (written_plan p l output')

-- the call that carries a plan on the reduced game
pub record CarriesClass (game : List ℕ) (player : ℕ) (plan : List ℕ) (vertex : ℕ) (marks spare classes reduction output : List ℕ) (answer : Answer)
    (marks' spare' classes' reduction' output' : List ℕ) : Type 0 where
  pub call : CarryClassCall game player plan vertex marks spare classes reduction output answer marks' spare' classes' reduction' output'
  pub marks_order : OnceWritten AfterReduction answer (OrderSentences game marks')
  pub spare_order : OnceWritten AfterReduction answer (OrderSentences game spare')
  pub classes_words : OnceWritten AfterReduction answer (ClassSentence game classes')
  pub reduction_table : OnceWritten AfterReduction answer (TableSentences game classes' reduction' (reduced (game_of game)).n (edge_count (reduced (game_of game))))
  pub output_plan : (k n e p l : ℕ) → answer ≡ accepted (k ∷ n ∷ e ∷ p ∷ l ∷ []) → PlanFrom game player vertex (written_plan p l output')

-- of the table that begins a buffer once an edit is made there
pub record EditSentences (answer : Answer) (buffer' marks' spare' classes' : List ℕ) : Type 0 where
  -- the reader accepts it, with the n and m of the verdict
  pub read : (k n m : ℕ) → answer ≡ accepted (k ∷ n ∷ m ∷ []) → read_answer (table_in buffer') ≡ accepted (n ∷ m ∷ edge_count (game_of (table_in buffer')) ∷ [])
  pub marks_order : OnAcceptance answer (OrderSentences (table_in buffer') marks')
  pub spare_order : OnAcceptance answer (OrderSentences (table_in buffer') spare')
  pub classes_words : OnAcceptance answer (ClassSentence (table_in buffer') classes')

-- a call that edits a table
pub record Edits (e : Edit) (buffer : List ℕ) (s t : ℕ) (marks spare classes : List ℕ) (answer : Answer)
    (buffer' marks' spare' classes' : List ℕ) : Type 0 where
  pub call : EditCall e buffer s t marks spare classes answer buffer' marks' spare' classes'
  pub sentences : EditSentences answer buffer' marks' spare' classes'

-- a call that previews an edit: the sentences are about the table that begins the second one after it
pub record Previews (e : Edit) (game : List ℕ) (s t : ℕ) (table marks spare classes : List ℕ) (answer : Answer)
    (table' marks' spare' classes' : List ℕ) : Type 0 where
  pub call : PreviewCall e game s t table marks spare classes answer table' marks' spare' classes'
  pub sentences : EditSentences answer table' marks' spare' classes'

-- 37 to 39: an entry was refused, after the order and the classes were written
abbrev pub AfterEntry : ℕ → Type 0
AfterEntry k = (37 ≤ k) × (k ≤ 39)

-- the call that replays a trace: the sentences are about the table that begins the buffer after it, whether or not an entry was refused
pub record Replays (buffer trace marks spare classes : List ℕ) (answer : Answer) (entries : ℕ)
    (buffer' marks' spare' classes' : List ℕ) : Type 0 where
  pub call : ReplayCall buffer trace marks spare classes answer entries buffer' marks' spare' classes'
  -- the reader accepts it, with the n and m of the table that the entries done lead to: those of the verdict, where no entry is refused
  pub read : OnceWritten AfterEntry answer
      (let final = (replayed buffer trace).table in
      read_answer (table_in buffer') ≡ accepted (vertex_count final ∷ table_edges final ∷ edge_count (game_of (table_in buffer')) ∷ []))
  pub marks_order : OnceWritten AfterEntry answer (OrderSentences (table_in buffer') marks')
  pub spare_order : OnceWritten AfterEntry answer (OrderSentences (table_in buffer') spare')
  pub classes_words : OnceWritten AfterEntry answer (ClassSentence (table_in buffer') classes')

-- the relation acceptor and then the order call, with the verdicts of both
pub record Contains (game relation marks spare : List ℕ) (r : Containment) (marks' spare' : List ℕ) : Type 0 where
  pub judged : acceptance_answer r.relation ≡ relation_answer game relation
  pub order : Orders game marks spare (ordering_answer r.order) marks' spare'
  pub sentence : acceptance_answer r.relation ≡ accepted []
      → OnAcceptance (ordering_answer r.order)
      ((v w : ℕ) → v < vertex_count game → w < vertex_count game → Marked (vertex_count game) relation v w → Marked (vertex_count game) marks' v w)
