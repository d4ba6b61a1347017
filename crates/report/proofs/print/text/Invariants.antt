-- The page goes on at `k`.
use Rattle.std.proofs.Common.{length}
use Rattle.report.specs.Page.{OnPage}
use Rattle.report.proofs.print.text.Given as goal

abbrev pub invariant-loop-byte : goal.invariant-loop-byte
invariant-loop-byte g l = OnPage (length l.page) l.k
