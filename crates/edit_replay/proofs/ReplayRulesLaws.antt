-- Laws of the call that replays a trace: it refuses k at p exactly where a rule before the first entry says so, or where these are passed and the
-- first refused entry is refused so; it accepts exactly otherwise. Refused before the first entry, it leaves all lent memory as it was.
use Rattle.std.specs.Prelude.{◌≡◌, ◌⊎◌, ◌↔◌, length}
use Rattle.std.proofs.Math.Path.{refl}
use Rattle.std.proofs.Common.{sym, ◌∙◌, inl, inr, arith}
use mathlib.Core.List.{List, [], ◌++◌}
use Prim.Native.Nat.{ℕ, ◌≤◌}
use Rattle.theory.proofs.Logic.ListLaws.{length_tabulate}
use Rattle.table.specs.Table.{vertex_count, table_in}
use Rattle.table.specs.Answers.{Row, Answer, accepted, refused, judge, Clean}
use Rattle.table.specs.AnswersLaws.{judge_clean, judge_accepted, judge_past, judge_stays, after_refused, clean_split, clean_append}
use Rattle.table.specs.Rules.{FirstRule, NoRule, Rendered}
use Rattle.table.specs.RulesLaws.{rendered_append, judge_refused, judge_refuses, clean_none, none_clean}
use Rattle.table.specs.DecisionsLaws.{judge_split}
use Rattle.order.specs.OrderCall.{order_bytes}
use Rattle.classes.specs.ClassesCall.{memory_rows, class_words}
use Rattle.classes.specs.ClassesRulesLaws.{memory_rows_render}
use Rattle.edit_rules.specs.Buffer.{buffer_rows}
use Rattle.edit_rules.proofs.BufferLaws.{buffer_render}
use Rattle.edit_trace.specs.Trace.{entry_limit, entry_count, entry_at, entries_in, trace_rows}
use Rattle.edit_trace.proofs.TraceLaws.{trace_few}
use Rattle.edit_trace.specs.Run.{padded}
use Rattle.edit_trace.proofs.RunLaws.{passing_clean, passing_refused, run_few}
use Rattle.edit_trace.proofs.TraceRulesLaws.{trace_render, run_accepts, accepts_run, run_refuses, refuses_run}
use Rattle.edit.specs.EditCall.{call_counts}
use Rattle.edit_replay.specs.ReplayCall.{start_rows, replayed, ReplayCall}
use Rattle.edit_replay.specs.ReplayRules.{start_rules, Runs, Stops}

pub start_render : (buffer trace marks spare classes : List ℕ)
    → Rendered (start_rows buffer trace marks spare classes) (start_rules buffer trace marks spare classes)
unfolding start_rows
start_render buffer trace marks spare classes =
    rendered_append (buffer_render buffer) (rendered_append (memory_rows_render (vertex_count buffer) marks spare classes) (trace_render trace))

module _ {buffer trace marks spare classes : List ℕ} {answer : Answer} {entries : ℕ} {buffer' marks' spare' classes' : List ℕ}
    (call : ReplayCall buffer trace marks spare classes answer entries buffer' marks' spare' classes') where
  abbrev rows : List Row
  rows = start_rows buffer trace marks spare classes

  abbrev stop : List Row
  stop = (replayed buffer trace).stop

  abbrev final : List ℕ
  final = (replayed buffer trace).table

  abbrev rendered : Rendered rows (start_rules buffer trace marks spare classes)
  rendered = start_render buffer trace marks spare classes

  -- ---- refused

  abbrev Refused : ℕ → ℕ → Type 1
  Refused k p =
      FirstRule (start_rules buffer trace marks spare classes) k p
      ⊎ (NoRule (start_rules buffer trace marks spare classes) × ((h : List ℕ) × Stops buffer trace h entries k p))

  entries_done : Clean rows → entries ≡ (replayed buffer trace).done
  entries_done c = call.done ∙ passing_clean (replayed buffer trace).done 0 rows c

  pub replay_refused : (k p : ℕ) → (answer ≡ refused k p) ↔ Refused k p
  replay_refused k p = (λ a. to (judge_split rows stop (call_counts final) k p (sym call.verdict ∙ a)), λ r. call.verdict ∙ from r)
    where
      to : (judge rows (call_counts final) ≡ refused k p) ⊎ (Clean rows × (judge stop (call_counts final) ≡ refused k p)) → Refused k p
      to (inl j) = inl (judge_refused rendered (call_counts final) k p j)
      to (inr c) =
          let r = run_refuses (length buffer) (entries_in trace) (table_in buffer) (call_counts final) k p c.1 in
          inr (clean_none rendered c.0, (final, rw (entries_done c.0) r))

      from : Refused k p → judge (rows ++ stop) (call_counts final) ≡ refused k p
      from (inl f) = judge_stays rows stop (call_counts final) (call_counts final) k p (judge_refuses rendered f (call_counts final))
      from (inr n) =
          judge_past rows stop (call_counts final) (none_clean rendered n.0)
          ∙ (refuses_run (length buffer) (entries_in trace) (table_in buffer) (call_counts final) n.1.0 entries k p n.1.1).0

  -- before the first entry: all is as it was, and no entry is done
  pub replay_old : (k p : ℕ) → FirstRule (start_rules buffer trace marks spare classes) k p
      → (entries ≡ 0) × (buffer' ≡ buffer) × (marks' ≡ marks) × (spare' ≡ spare) × (classes' ≡ classes)
  replay_old k p f =
      let j = judge_refuses rendered f (call_counts final) in (
        call.done ∙ passing_refused (replayed buffer trace).done 0 rows (call_counts final) j,
        call.buffer_after ∙ after_refused rows (call_counts final) (padded final (replayed buffer trace).longest) buffer j,
        call.marks_after ∙ after_refused rows (call_counts final) (order_bytes final) marks j,
        call.spare_after ∙ after_refused rows (call_counts final) (order_bytes final) spare j,
        call.classes_after ∙ after_refused rows (call_counts final) (class_words final) classes j,
      )

  -- no more entries are done than a trace may have
  pub replay_few : entries ≤ entry_limit
  unfolding start_rows entries_in
  replay_few = go (judge rows []) refl
    where
      go : (a : Answer) → judge rows [] ≡ a → entries ≤ entry_limit
      go (accepted counts) j =
          let c = (judge_accepted rows [] counts j).0 in
          let t = (clean_split (memory_rows (vertex_count buffer) (length marks) (length spare) (length classes)) (trace_rows trace) (clean_split (buffer_rows buffer) _ c).1).1 in
          omega (arith, entries_done c, run_few (length buffer) (entries_in trace) (table_in buffer), length_tabulate {A = ℕ × ℕ} (entry_count trace) (entry_at trace), trace_few trace t)
      go (refused k p) j = omega (arith, call.done ∙ passing_refused (replayed buffer trace).done 0 rows [] j)

  -- ---- accepted

  pub replay_passed : (counts : List ℕ) → answer ≡ accepted counts → Clean rows × Clean stop × (counts ≡ call_counts final)
  replay_passed counts a =
      let j = judge_accepted (rows ++ stop) (call_counts final) counts (sym call.verdict ∙ a) in
      let c = clean_split rows stop j.0 in
      (c.0, c.1, sym j.1)

  -- every entry is done
  pub replay_accepted : (counts : List ℕ) → answer ≡ accepted counts
      → NoRule (start_rules buffer trace marks spare classes) × Runs buffer trace final × (counts ≡ call_counts final) × (entries ≡ entry_count trace)
  unfolding entries_in
  replay_accepted counts a =
      let p = replay_passed counts a in
      let r = run_accepts (length buffer) (entries_in trace) (table_in buffer) p.1 in
      (clean_none rendered p.0, r.0, p.2, entries_done p.0 ∙ r.1 ∙ length_tabulate {A = ℕ × ℕ} (entry_count trace) (entry_at trace))

  pub replay_accepts : (h : List ℕ) → NoRule (start_rules buffer trace marks spare classes) → Runs buffer trace h → answer ≡ accepted (call_counts h)
  replay_accepts h n r =
      let a = accepts_run (length buffer) (entries_in trace) (table_in buffer) h r in
      call.verdict ∙ judge_clean (rows ++ stop) (call_counts final) (clean_append rows stop (none_clean rendered n) a.0) ∙ rw a.1
