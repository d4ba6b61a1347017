-- Each way out is a row before the first entry, or what the run leaves.
use native.Mathlib.Omega.{arith}
use Rattle.edit_replay.proofs.ReplayCallLaws.{start_short, start_unfit, start_fits, trace_passed, start_done}
use Rattle.edit_replay.proofs.replay_table.Goals as goal

pub judge_memory-memory-requires : goal.judge_memory-memory-requires
judge_memory-memory-requires c = omega (arith, c.requires.vertices, c.requires.well.vertices)

pub returns-in-Err : goal.returns-in-Err
returns-in-Err c = start_short _ _ _ _ _ c.requires _ (rw c.in-Err.is at c.judge_memory-memory.ensures)

pub returns-in-Err-judged : goal.returns-in-Err-judged
returns-in-Err-judged c = start_unfit _ _ _ _ _ c.requires (rw c.in_default.is at c.judge_memory-memory.ensures) _ (rw c.in-Err-judged.is at c.judge_trace-judged.ensures)

pub apply_trace-requires : goal.apply_trace-requires
apply_trace-requires c = record {
  formed = (c.requires, start_fits c.args.buffer.now c.args.trace.now _ _ _ c.requires (rw c.in_default.is at c.judge_memory-memory.ensures));
  clean = trace_passed c.args.buffer.now c.args.trace.now c.args.marks.now c.args.spare.now c.args.classes.now c.requires (rw c.in_default.is at c.judge_memory-memory.ensures)
      (rw c.in_default-judged.is at c.judge_trace-judged.ensures);
}

pub returns : goal.returns
returns c = start_done _ _ _ _ _ c.requires (rw c.in_default.is at c.judge_memory-memory.ensures) (rw c.in_default-judged.is at c.judge_trace-judged.ensures) c.apply_trace.ensures
