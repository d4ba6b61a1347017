-- The page goes on at `end`.
use Rattle.std.proofs.Common.{length}
use Rattle.report.specs.Page.{OnPage}
use Rattle.report.proofs.print.classes.Given as goal

abbrev pub invariant-loop-c : goal.invariant-loop-c
invariant-loop-c g l = OnPage (length l.page) l.end
