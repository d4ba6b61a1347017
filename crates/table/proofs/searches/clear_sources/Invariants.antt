use Rattle.table.specs.Flags.{Cleared}
use Rattle.table.proofs.searches.clear_sources.Given as goal

abbrev pub invariant-loop-j : goal.invariant-loop-j
invariant-loop-j l = Cleared l.game l.j l.lacking
