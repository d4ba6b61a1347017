-- The table that the entries leave begins the buffer, and has as many vertices, so the memory fits it.
use Rattle.std.proofs.Common.{sym, length-take-le}
use native.Mathlib.Omega.{arith}
use Rattle.edit_replay.proofs.ReplayCallLaws.{ran_few, ran_room, ran_part, ran_memory, ran_refused, ran_accepted}
use Rattle.edit_replay.proofs.apply_trace.Goals as goal

pub run_entries-run-requires : goal.run_entries-run-requires
run_entries-run-requires c = (c.requires.formed.0, c.requires.clean)

pub overflow_mul-end : goal.overflow_mul-end
overflow_mul-end c = omega (arith, ran_few c.requires.formed.0 c.run_entries-run.ensures)

pub overflow_add-end : goal.overflow_add-end
overflow_add-end c = omega (arith, ran_few c.requires.formed.0 c.run_entries-run.ensures)

pub overflow_mul-end-2 : goal.overflow_mul-end-2
overflow_mul-end-2 c = omega (arith, ran_few c.requires.formed.0 c.run_entries-run.ensures)

pub overflow_add-end-2 : goal.overflow_add-end-2
overflow_add-end-2 c = omega (arith, ran_few c.requires.formed.0 c.run_entries-run.ensures)

pub slice_bounds-fill_memory-end : goal.slice_bounds-fill_memory-end
slice_bounds-fill_memory-end c = omega (arith, ran_room c.requires.formed.0 c.run_entries-run.ensures)

pub slice_bounds-fill_memory-end-2 : goal.slice_bounds-fill_memory-end-2
slice_bounds-fill_memory-end-2 c = sym (length-take-le _ _ (ran_room c.requires.formed.0 c.run_entries-run.ensures))

pub fill_memory-k-requires : goal.fill_memory-k-requires
fill_memory-k-requires c = ran_memory c.requires.formed.0 c.run_entries-run.ensures c.requires.formed.1

pub returns-in-Err : goal.returns-in-Err
returns-in-Err c = ran_refused c.requires.formed.0 c.run_entries-run.ensures (rw (ran_part c.requires.formed.0 c.run_entries-run.ensures) at c.fill_memory-k.ensures) _ c.in-Err.is

pub returns : goal.returns
returns c = ran_accepted c.requires.formed.0 c.run_entries-run.ensures (rw (ran_part c.requires.formed.0 c.run_entries-run.ensures) at c.fill_memory-k.ensures) _ c.in_default.is
