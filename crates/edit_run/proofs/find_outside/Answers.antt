-- Invariant: the first is the first from i on.
use mathlib.Core.Path.{sym, ◌∙◌}
use native.Mathlib.Omega.{arith}
use borrow.Author.Tests.{le-leb, lt-leb}
use Rattle.theory.proofs.Logic.BoolsLaws.{or_left, or_right, or_fails}
use Rattle.theory.proofs.Logic.RangeLaws.{first_step, first_hit, first_end_lem}
use Rattle.edit_trace.proofs.TraceLaws.{trace_length}
use Rattle.edit_run.proofs.find_outside.Goals as goal
use Rattle.edit_run.proofs.find_outside.Goals.{then-n-from-via-then-n-from, then-n-from-via-else-n-from+then-n-from-2}

pub bounds-trace-0 : goal.bounds-trace-0
bounds-trace-0 c = omega (arith, trace_length c.args.trace.now c.requires)

pub bounds-trace-i : goal.bounds-trace-i
bounds-trace-i c = omega (arith, trace_length c.args.trace.now c.requires)

pub bounds-trace-count : goal.bounds-trace-count
bounds-trace-count c = omega (arith, trace_length c.args.trace.now c.requires)

pub loop-i-preserved : goal.loop-i-preserved
loop-i-preserved c = c.loop-i.invariant ∙ first_step _ _ _ c.loop-i-test.true ((or_fails _ _).1 (lt-leb _ _ (omega arith), lt-leb _ _ (omega arith)))

pub returns-then-n-from : goal.returns-then-n-from
returns-then-n-from c =
    sym (c.loop-i.invariant ∙ first_hit _ _ _ c.loop-i-test.true elim c.then-n-from.branch [
      | then-n-from-via-then-n-from w ↦ or_left _ (le-leb _ _ (omega arith))
      | then-n-from-via-else-n-from+then-n-from-2 w ↦ or_right _ (le-leb _ _ (omega arith))
    ])

pub returns : goal.returns
returns c = sym (c.loop-i.invariant ∙ first_end_lem _ _ _ c.loop-i-test.false ∙ omega arith)
