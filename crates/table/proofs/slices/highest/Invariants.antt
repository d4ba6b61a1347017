use mathlib.Core.Path.{◌≡◌}
use Prim.Native.Nat.{◌+◌}
use lib.ListN.{get_or}
use Rattle.table.specs.Highest.{highest_of}
use Rattle.table.proofs.slices.highest.Given as goal

abbrev pub invariant-loop-word : goal.invariant-loop-word
invariant-loop-word l = l.most ≡ highest_of l.word-index (λ j. get_or l.words (l.at + j) 0)
