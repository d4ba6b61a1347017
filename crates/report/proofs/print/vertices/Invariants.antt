-- The page goes on at `k`.
use Rattle.std.proofs.Common.{length}
use Rattle.report.specs.Page.{OnPage}
use Rattle.report.proofs.print.vertices.Given as goal

abbrev pub invariant-loop-v : goal.invariant-loop-v
invariant-loop-v g l = OnPage (length l.page) l.k
