-- Whether an entry has an end outside is told apart, and the run is the same.
use mathlib.Core.Path.{sym}
use borrow.Author.Tests.{lt-ltb, le-ltb}
use native.Mathlib.Omega.{arith}
use Rattle.edit_trace.proofs.TraceLaws.{trace_length, trace_few}
use Rattle.edit_run.proofs.run_entries.Goals as goal

pub bounds-trace-0 : goal.bounds-trace-0
bounds-trace-0 c = omega (arith, trace_length c.args.trace.now c.requires.1)

pub overflow_cast-count : goal.overflow_cast-count
overflow_cast-count c = omega (arith, trace_few c.args.trace.now c.requires.1)

pub run_first-requires : goal.run_first-requires
run_first-requires c = record { formed = c.requires; k_value = (c.find_outside-k.ensures, sym (lt-ltb _ _ c.if-k-count.true)) }

pub run_first-requires-2 : goal.run_first-requires-2
run_first-requires-2 c = record { formed = c.requires; k_value = (c.find_outside-k.ensures, sym (le-ltb _ _ c.if-k-count.false)) }
