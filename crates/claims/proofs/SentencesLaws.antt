-- The sentences follow from what the calls promise.
use Rattle.std.specs.Prelude.{◌≡◌, ◌⊎◌, List, [], ◌∷◌, ℕ, ◌≤◌, length}
use Rattle.std.proofs.Math.Path.{refl}
use Rattle.std.proofs.Common.{sym, ◌∙◌, subst, inr, arith}
use Rattle.std.proofs.Math.Logic.{inl}
use Rattle.std.proofs.Math.Dec.{ltb}
use Rattle.theory.specs.Games.Game.{Game, edge_count}
use Rattle.theory.specs.Classes.Reduction.{reduced}
use Rattle.table.specs.Table.{vertex_count, table_edges, table_in, game_of}
use Rattle.table.specs.Answers.{Row, Answer, accepted, judge, Clean}
use Rattle.table.specs.AnswersLaws.{judge_clean, judge_accepted, clean_split}
use Rattle.table.specs.Rules.{NoRule}
use Rattle.table.specs.RulesLaws.{clean_none}
use Rattle.table.specs.Reading.{read_answer}
use Rattle.table.specs.Acceptance.{acceptance_answer}
use Rattle.order.specs.OrderCall.{order_rows, passes_answer, ordering_answer, OrderCall}
use Rattle.order_acceptor.specs.RelationCall.{relation_answer}
use Rattle.classes.specs.ClassesCall.{class_rows, total_answer, ClassesCall}
use Rattle.reduction.specs.TableCall.{table_rows, table_counts, TableCall}
use Rattle.plan.specs.NumbersLaws.{Numbers, numbers_append, game_numbers, passed_first}
use Rattle.carry.specs.CarryCall.{judged_rows, carry_rows, CarryCall, carry_class_rows, CarryClassCall}
use Rattle.carry.proofs.CarryMemoryLaws.{carry_passed, carry_class_passed}
use Rattle.carry.proofs.WrittenPlanLaws.{carry_wins, carry_class_wins}
use Rattle.edit_rules.specs.Buffer.{buffer_rows}
use Rattle.edit_rules.proofs.BufferLaws.{in_vertices}
use Rattle.edit_rules.specs.Edges.{edited, change_rows, edit_rows}
use Rattle.edit_rules.specs.declared.Edit.{Edit}
use Rattle.edit_rules.specs.declared.Edit.TheVariants.{Arrival, Leaving}
use Rattle.edit_trace.specs.Trace.{entries_in, trace_rows}
use Rattle.edit_trace.specs.Run.{toggle, Run}
use Rattle.edit_trace.proofs.RunLaws.{RunView, ends, goes, stops, run_view}
use Rattle.edit_trace.proofs.ParityLaws.{run_vertices}
use Rattle.edit.specs.EditCall.{call_rows, call_counts, EditCall}
use Rattle.edit.proofs.NewTableLaws.{call_table, call_read}
use Rattle.edit_preview.specs.PreviewCall.{PreviewCall}
use Rattle.edit_preview.proofs.PreviewEditLaws.{preview_edit}
use Rattle.edit_replay.specs.ReplayCall.{start_rows, replayed, ReplayCall}
use Rattle.edit_replay.specs.ReplayRules.{start_rules}
use Rattle.edit_replay.proofs.ReplayRulesLaws.{start_render, replay_passed}
use Rattle.edit_replay.proofs.FinalTableLaws.{replay_table, replay_reads}
use Rattle.claims.specs.WrittenMemory.{LeavesOrder, Faithful}
use Rattle.claims.specs.Demands as demands
use Rattle.claims.specs.Sentences.{OnAcceptance, OrderSentences, ClassSentence, Orders, Classifies, Tabulates, Contains, OnceWritten, AfterOrder, AfterReduction, Carries, CarriesClass, EditSentences, Edits, Previews, AfterEntry, Replays}
use Rattle.claims.specs.declared.Containment.{Containment}

-- a call that accepts has passed its rows
passed : (rows : List Row) (counts : List ℕ) {answer : Answer} → answer ≡ judge rows counts → OnAcceptance answer (Clean rows)
passed rows counts verdict given e = (judge_accepted rows counts given (sym verdict ∙ e)).0

-- wherever a call leaves the order
pub order_sentences : {game : List ℕ} {rows : List Row} {old new : List ℕ} → LeavesOrder game rows old new → Clean rows → OrderSentences game new
order_sentences left clean = record { contains = demands.contains left clean; even_up = demands.even_up left clean; odd_down = demands.odd_down left clean }

-- what follows from what holds
pub once_map : {After : ℕ → Type 0} {answer : Answer} {P Q : Type 0} → OnceWritten After answer P → (P → Q) → OnceWritten After answer Q
once_map o f = record { accepts = λ counts e. f (o.accepts counts e); refuses = λ k p e h. f (o.refuses k p e h) }

pub orders : {game marks spare : List ℕ} {answer : Answer} {marks' spare' : List ℕ} → OrderCall game marks spare answer marks' spare'
    → Orders game marks spare answer marks' spare'
unfolding passes_answer
orders {game} {marks} {spare} call =
    let clean = passed (order_rows game marks spare) _ call.verdict in record {
      call = call;
      marks_order = λ counts e. order_sentences (demands.order_leaves_marks call) (clean counts e);
      spare_order = λ counts e. order_sentences (demands.order_leaves_spare call) (clean counts e);
    }

pub classifies : {game marks spare classes : List ℕ} {answer : Answer} {marks' spare' classes' : List ℕ}
    → ClassesCall game marks spare classes answer marks' spare' classes' → Classifies game marks spare classes answer marks' spare' classes'
unfolding total_answer
classifies {game} {marks} {spare} {classes} call =
    let clean = passed (class_rows game marks spare classes) _ call.verdict in record {
      call = call;
      marks_order = λ counts e. order_sentences (demands.classes_leaves_marks call) (clean counts e);
      spare_order = λ counts e. order_sentences (demands.classes_leaves_spare call) (clean counts e);
      classes_words = λ counts e. demands.class_word (demands.classes_leaves_classes call) (clean counts e);
    }

pub tabulates : {K : Game → Game} → Faithful K
    → {game marks spare classes output : List ℕ} {answer : Answer} {marks' spare' classes' output' : List ℕ}
    → TableCall K game marks spare classes output answer marks' spare' classes' output'
    → Tabulates K game marks spare classes output answer marks' spare' classes' output'
tabulates faithful {game} {marks} {spare} {classes} {output} call =
    let clean = passed (table_rows game marks spare classes output) _ call.verdict in record {
      call = call;
      marks_order = λ counts e. order_sentences (demands.table_leaves_marks call) (clean counts e);
      spare_order = λ counts e. order_sentences (demands.table_leaves_spare call) (clean counts e);
      classes_words = λ counts e. demands.class_word (demands.table_leaves_classes call) (clean counts e);
      output_table = λ k n e a. record { read = demands.table_read faithful call k n e a; winner = demands.table_winner faithful call k n e a };
    }

-- ---- the calls that carry a plan

module _ {game : List ℕ} {player : ℕ} {plan : List ℕ} {vertex : ℕ} {marks spare output : List ℕ} {answer : Answer} {marks' spare' output' : List ℕ}
    (call : CarryCall game player plan vertex marks spare output answer marks' spare' output') where
  abbrev rows : List Row
  rows = judged_rows game player plan marks spare

  order_passed : OnceWritten AfterOrder answer (Clean rows)
  unfolding carry_rows
  order_passed = record {
    accepts = λ counts e. (clean_split rows _ (passed (carry_rows game player plan vertex marks spare output) _ call.verdict counts e)).0;
    refuses = λ k p e h. carry_passed (rw e at call) h;
  }

  pub carries : Carries game player plan vertex marks spare output answer marks' spare' output'
  carries = record {
    call = call;
    marks_order = once_map order_passed (order_sentences (record { buffer = call.marks_after }));
    spare_order = once_map order_passed (order_sentences (record { buffer = call.spare_after }));
    output_plan = λ p l e. carry_wins (rw e at call);
  }

module _ {game : List ℕ} {player : ℕ} {plan : List ℕ} {vertex : ℕ} {marks spare classes reduction output : List ℕ} {answer : Answer}
    {marks' spare' classes' reduction' output' : List ℕ}
    (call : CarryClassCall game player plan vertex marks spare classes reduction output answer marks' spare' classes' reduction' output') where
  abbrev tabled : List Row
  tabled = table_rows game marks spare classes reduction

  pub table_passed : OnceWritten AfterReduction answer (Clean tabled)
  unfolding carry_class_rows
  table_passed = record {
    accepts = λ counts e.
        (clean_split tabled _ (passed (carry_class_rows game player plan vertex marks spare classes reduction output) _ call.verdict counts e)).0;
    refuses = λ k p e h. carry_class_passed (rw e at call) h;
  }

  -- what it leaves once its rows 1 to 8 and 21 to 24 are passed is what the reduced-game call leaves
  pub reduced_call : Clean tabled → TableCall reduced game marks spare classes reduction (accepted (table_counts reduced game)) marks' spare' classes' reduction'
  reduced_call c = record {
    verdict = sym (judge_clean tabled (table_counts reduced game) c);
    marks_after = call.marks_after;
    spare_after = call.spare_after;
    classes_after = call.classes_after;
    output_after = call.reduction_after;
  }

  abbrev sentences : Clean tabled → Tabulates reduced game marks spare classes reduction (accepted (table_counts reduced game)) marks' spare' classes' reduction'
  sentences c = tabulates demands.reduced_faithful (reduced_call c)

  pub carries_class : CarriesClass game player plan vertex marks spare classes reduction output answer marks' spare' classes' reduction' output'
  carries_class = record {
    call = call;
    marks_order = once_map table_passed (λ c. (sentences c).marks_order _ refl);
    spare_order = once_map table_passed (λ c. (sentences c).spare_order _ refl);
    classes_words = once_map table_passed (λ c. (sentences c).classes_words _ refl);
    reduction_table = once_map table_passed (λ c. (sentences c).output_table _ _ _ refl);
    output_plan = λ k n e p l q. carry_class_wins (rw q at call);
  }

-- ---- the calls that edit a table

edit_sentences : {e : Edit} {buffer : List ℕ} {s t : ℕ} {marks spare classes : List ℕ} {answer : Answer} {buffer' marks' spare' classes' : List ℕ}
    → EditCall e buffer s t marks spare classes answer buffer' marks' spare' classes' → EditSentences answer buffer' marks' spare' classes'
edit_sentences {e} {buffer} {s} {t} {marks} {spare} {classes} {answer} {buffer'} {marks'} {spare'} {classes'} call =
    let clean = passed (call_rows e buffer s t marks spare classes) _ call.verdict in
    let table : OnAcceptance answer (edited e (table_in buffer) s t ≡ table_in buffer') = λ counts a. sym (call_table (rw a at call)) in record {
      read = λ k n m a. call_read (rw a at call) refl;
      marks_order = λ counts a.
          subst (λ (g : List ℕ). OrderSentences g marks') (table counts a) (order_sentences (record { buffer = call.marks_after }) (clean counts a));
      spare_order = λ counts a.
          subst (λ (g : List ℕ). OrderSentences g spare') (table counts a) (order_sentences (record { buffer = call.spare_after }) (clean counts a));
      classes_words = λ counts a.
          subst (λ (g : List ℕ). ClassSentence g classes') (table counts a) (demands.class_word (record { words = call.classes_after }) (clean counts a));
    }

pub edits : {e : Edit} {buffer : List ℕ} {s t : ℕ} {marks spare classes : List ℕ} {answer : Answer} {buffer' marks' spare' classes' : List ℕ}
    → EditCall e buffer s t marks spare classes answer buffer' marks' spare' classes'
    → Edits e buffer s t marks spare classes answer buffer' marks' spare' classes'
edits call = record { call = call; sentences = edit_sentences call }

-- accepted, a preview is an edit of the copy
pub previews : (game : List ℕ) {e : Edit} {s t : ℕ} {table marks spare classes : List ℕ} {answer : Answer} {table' marks' spare' classes' : List ℕ}
    → PreviewCall e game s t table marks spare classes answer table' marks' spare' classes'
    → Previews e game s t table marks spare classes answer table' marks' spare' classes'
previews game {answer} {table'} {marks'} {spare'} {classes'} call =
    let edit : OnAcceptance answer (EditSentences answer table' marks' spare' classes') = λ counts a. edit_sentences (preview_edit game call counts a) in
    record {
      call = call;
      sentences = record {
        read = λ k n m a. (edit _ a).read k n m a;
        marks_order = λ counts a. (edit counts a).marks_order counts a;
        spare_order = λ counts a. (edit counts a).spare_order counts a;
        classes_words = λ counts a. (edit counts a).classes_words counts a;
      };
    }

-- ---- the call that replays a trace

-- the numbers of the rows before the first entry; those of an entry are others
abbrev Early : ℕ → Type 0
Early k = (k ≤ 23) ⊎ (k ≡ 40)

late : (k : ℕ) → 37 ≤ k → k ≤ 39 → ¬ Early k
late k h l (inl e) = omega arith
late k h l (inr e) = omega arith

edit_late : (d : Edit) (g : List ℕ) (size s t : ℕ) → Numbers (λ k. ¬ Early k) (edit_rows d g size s t)
unfolding edit_rows change_rows
edit_late Arrival g size s t = (late 37 (omega arith) (omega arith), (late 39 (omega arith) (omega arith), tt))
edit_late Leaving g size s t = (late 37 (omega arith) (omega arith), (late 38 (omega arith) (omega arith), tt))

stop_late : {size : ℕ} {es : List (ℕ × ℕ)} {g : List ℕ} {longest done : ℕ} {r : Run} → RunView size es g longest done r → Numbers (λ k. ¬ Early k) r.stop
stop_late ends = tt
stop_late (goes passed view) = stop_late view
stop_late {size} (stops {e = e} {g = g} at) = edit_late (toggle g e) g size e.0 e.1

module _ {buffer trace marks spare classes : List ℕ} {answer : Answer} {entries : ℕ} {buffer' marks' spare' classes' : List ℕ}
    (call : ReplayCall buffer trace marks spare classes answer entries buffer' marks' spare' classes') where
  abbrev begin : List Row
  begin = start_rows buffer trace marks spare classes

  abbrev final : List ℕ
  final = (replayed buffer trace).table

  early : Numbers Early begin
  unfolding start_rows trace_rows
  early =
      numbers_append Early (buffer_rows buffer) _ (game_numbers Early (λ k h. inl (omega arith)) ltb buffer)
      (inl (omega arith), (inl (omega arith), (inl (omega arith), (inr refl, tt))))

  entry_late : Numbers (λ k. ¬ Early k) (replayed buffer trace).stop
  entry_late = stop_late (run_view (length buffer) (entries_in trace) (table_in buffer) (length (table_in buffer)) 0)

  begun : OnceWritten AfterEntry answer (Clean begin)
  begun = record {
    accepts = λ counts a. (replay_passed call counts a).0;
    refuses = λ k p a h.
        passed_first Early begin (replayed buffer trace).stop early entry_late (call_counts final) k p (sym call.verdict ∙ a) (late k h.0 h.1);
  }

  abbrev unruled : Clean begin → NoRule (start_rules buffer trace marks spare classes)
  unruled = clean_none (start_render buffer trace marks spare classes)

  table_is : Clean begin → final ≡ table_in buffer'
  table_is c = sym (replay_table call (unruled c))

  -- no entry changes n
  table_read : Clean begin → read_answer (table_in buffer') ≡ accepted (vertex_count final ∷ table_edges final ∷ edge_count (game_of (table_in buffer')) ∷ [])
  table_read c = rw (run_vertices (length buffer) (entries_in trace) (table_in buffer) ∙ in_vertices buffer) (replay_reads call (unruled c))

  pub replays : Replays buffer trace marks spare classes answer entries buffer' marks' spare' classes'
  replays = record {
    call = call;
    read = once_map begun table_read;
    marks_order = once_map begun (λ c. subst (λ (g : List ℕ). OrderSentences g marks') (table_is c) (order_sentences (record { buffer = call.marks_after }) c));
    spare_order = once_map begun (λ c. subst (λ (g : List ℕ). OrderSentences g spare') (table_is c) (order_sentences (record { buffer = call.spare_after }) c));
    classes_words = once_map begun (λ c. subst (λ (g : List ℕ). ClassSentence g classes') (table_is c) (demands.class_word (record { words = call.classes_after }) c));
  }

pub contains : {game relation marks spare : List ℕ} {r : Containment} {marks' spare' : List ℕ}
    → acceptance_answer r.relation ≡ relation_answer game relation
    → OrderCall game marks spare (ordering_answer r.order) marks' spare' → Contains game relation marks spare r marks' spare'
contains judged call = let o = orders call in record {
  judged = judged;
  order = o;
  sentence = λ p counts e. (o.marks_order counts e).contains _ (sym judged ∙ p);
}
