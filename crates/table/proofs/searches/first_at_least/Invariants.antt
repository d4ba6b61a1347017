use mathlib.Core.Path.{◌≡◌}
use Rattle.theory.specs.Logic.Range.{first}
use Rattle.table.specs.Flags.{at_least}
use Rattle.table.proofs.searches.first_at_least.Given as goal

-- The search from k on finds what the whole does:
-- no word before k is one.
abbrev pub invariant-loop-k : goal.invariant-loop-k
invariant-loop-k l = first (at_least l.words l.limit) l.from l.end ≡ first (at_least l.words l.limit) l.k l.end
