-- What a replay leaves in memory once it has begun, whether or not an entry was refused: the table that its entries lead to begins the buffer, the
-- reader accepts it, and order and classes are its own. Where no entry is refused, an edge is in it exactly when its presence at the start, as 0 or
-- 1, plus its number of entries is odd.
use Rattle.std.specs.Prelude.{◌≡◌, refl, ◌↔◌, List, [], ◌∷◌, ℕ, ◌+◌, ◌%◌, ◌≤◌, ◌<◌, length, get_or}
use Rattle.std.proofs.Math.Path.{sym}
use Rattle.std.proofs.Common.{ap, ◌∙◌}
use Rattle.std.proofs.Math.Bool.{So}
use Rattle.theory.specs.Logic.Bools.{bit}
use Rattle.theory.specs.Games.Game.{edge_count}
use Rattle.table.specs.Table.{vertex_count, table_edges, priority_at, owner_at, table_in, game_of}
use Rattle.table.specs.Answers.{Answer, accepted, Clean, written}
use Rattle.table.specs.AnswersLaws.{clean_split, after_clean}
use Rattle.table.specs.Reading.{read_answer}
use Rattle.table.specs.ReadingLaws.{read_accepts}
use Rattle.table.specs.Rules.{NoRule}
use Rattle.table.specs.RulesLaws.{none_clean}
use Rattle.table.specs.WellFormed.{WellFormed}
use Rattle.edit_rules.specs.Buffer.{buffer_rows}
use Rattle.edit_rules.proofs.BufferLaws.{in_vertices, clean_buffer}
use Rattle.edit_trace.specs.Trace.{entries_in, entries_of}
use Rattle.edit_trace.specs.Run.{padded}
use Rattle.edit_trace.proofs.PaddedLaws.{padded_in, in_zeros, beyond}
use Rattle.edit_trace.proofs.ParityLaws.{run_parity, run_well, run_vertices, run_priority, run_owner}
use Rattle.edit.specs.EditCall.{call_counts}
use Rattle.edit_replay.specs.ReplayCall.{start_rows, replayed, ReplayCall}
use Rattle.edit_replay.specs.ReplayRules.{start_rules}
use Rattle.edit_replay.proofs.ReplayRulesLaws.{start_render, replay_passed, replay_accepted}

module _ {buffer trace marks spare classes : List ℕ} {answer : Answer} {entries : ℕ} {buffer' marks' spare' classes' : List ℕ}
    (call : ReplayCall buffer trace marks spare classes answer entries buffer' marks' spare' classes') where
  abbrev final : List ℕ
  final = (replayed buffer trace).table

  abbrev longest : ℕ
  longest = (replayed buffer trace).longest

  module _ (begun : NoRule (start_rules buffer trace marks spare classes)) where
    pub begun_clean : Clean (start_rows buffer trace marks spare classes)
    begun_clean = none_clean (start_render buffer trace marks spare classes) begun

    start_well : WellFormed (table_in buffer)
    unfolding start_rows
    start_well = clean_buffer buffer (clean_split (buffer_rows buffer) _ begun_clean).0

    pub final_well : WellFormed final
    final_well = run_well (length buffer) (entries_in trace) (table_in buffer) start_well

    final_words : buffer' ≡ written (padded final longest) buffer
    final_words = call.buffer_after ∙ after_clean (start_rows buffer trace marks spare classes) (padded final longest) buffer begun_clean

    -- ---- the final table begins the buffer; zeros follow it to the end of the longest table reached, and words beyond are untouched

    pub replay_table : table_in buffer' ≡ final
    replay_table = ap (λ (b : List ℕ). table_in b) final_words ∙ padded_in final longest buffer final_well.size

    pub replay_zeros : (i : ℕ) → length final ≤ i → i < longest → get_or buffer' i 0 ≡ 0
    replay_zeros i h l = rw final_words (in_zeros final longest buffer i h l)

    pub replay_beyond : (i : ℕ) → length final ≤ i → longest ≤ i → get_or buffer' i 0 ≡ get_or buffer i 0
    replay_beyond i h l = rw final_words (beyond final longest buffer i h l)

    -- ---- the reader accepts it, with n and its m; no priority and no owner changes

    pub replay_reads : read_answer (table_in buffer') ≡ accepted (vertex_count buffer ∷ table_edges final ∷ edge_count (game_of (table_in buffer')) ∷ [])
    replay_reads =
        let v = run_vertices (length buffer) (entries_in trace) (table_in buffer) ∙ in_vertices buffer in
        rw (replay_table, ← v) (read_accepts final final_well)

    pub replay_priority : (v : ℕ) → v < vertex_count buffer → priority_at (table_in buffer') v ≡ priority_at (table_in buffer) v
    replay_priority v h = rw replay_table (run_priority (length buffer) (entries_in trace) (table_in buffer) v (rw (in_vertices buffer) h))

    pub replay_owner : (v : ℕ) → v < vertex_count buffer → owner_at (table_in buffer') v ≡ owner_at (table_in buffer) v
    replay_owner v h = rw replay_table (run_owner (length buffer) (entries_in trace) (table_in buffer) v (rw (in_vertices buffer) h))

-- ---- no entry is refused

module _ {buffer trace marks spare classes counts : List ℕ} {entries : ℕ} {buffer' marks' spare' classes' : List ℕ}
    (call : ReplayCall buffer trace marks spare classes (accepted counts) entries buffer' marks' spare' classes') where
  abbrev begun : NoRule (start_rules buffer trace marks spare classes)
  begun = (replay_accepted call counts refl).0

  -- the reader's n and m are those of the verdict
  pub replay_read : {k n m : ℕ} → counts ≡ k ∷ n ∷ m ∷ [] → read_answer (table_in buffer') ≡ accepted (n ∷ m ∷ edge_count (game_of (table_in buffer')) ∷ [])
  unfolding call_counts
  replay_read {k} {n} {m} c =
      let d = sym c ∙ (replay_passed call counts refl).2 in
      let v : n ≡ vertex_count buffer = cc (d, run_vertices (length buffer) (entries_in trace) (table_in buffer), in_vertices buffer) in
      let w : m ≡ table_edges (replayed buffer trace).table = cc d in
      rw (v, w) (replay_reads call begun)

  -- the parity of presence and entries
  pub replay_parity : (v w : ℕ)
      → So ((game_of (table_in buffer')).edge v w) ↔ ((bit ((game_of (table_in buffer)).edge v w) + entries_of v w (entries_in trace)) % 2 ≡ 1)
  replay_parity v w =
      rw (replay_table call begun) (run_parity (length buffer) (entries_in trace) (table_in buffer) (replay_passed call counts refl).1 v w)
