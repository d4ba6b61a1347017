-- What a run leaves once all before its first entry is judged. No public promise cites this.
use Rattle.std.specs.Prelude.{◌≡◌, List, ℕ}
use Rattle.table.specs.Answers.{Answer, judge, written}
use Rattle.order.specs.OrderCall.{order_bytes}
use Rattle.classes.specs.ClassesCall.{class_words}
use Rattle.edit_trace.specs.Run.{padded}
use Rattle.edit.specs.EditCall.{call_counts}
use Rattle.edit_replay.specs.ReplayCall.{replayed}

pub record Replayed (buffer trace marks spare classes : List ℕ) (answer : Answer) (entries : ℕ) (buffer' marks' spare' classes' : List ℕ) : Type 0 where
  pub verdict : answer ≡ judge (replayed buffer trace).stop (call_counts (replayed buffer trace).table)
  pub done : entries ≡ (replayed buffer trace).done
  pub buffer_after : buffer' ≡ written (padded (replayed buffer trace).table (replayed buffer trace).longest) buffer
  pub marks_after : marks' ≡ written (order_bytes (replayed buffer trace).table) marks
  pub spare_after : spare' ≡ written (order_bytes (replayed buffer trace).table) spare
  pub classes_after : classes' ≡ written (class_words (replayed buffer trace).table) classes
