use Rattle.words.specs.Word.{word_bits}
use Rattle.order_sets.specs.Losses.{EdgesIn}
use Rattle.order_small_losses.specs.Words.{bit}
use Rattle.order_small_losses.proofs.edges.add_edges.Given as goal

abbrev pub invariant-loop-j : goal.invariant-loop-j
invariant-loop-j l = EdgesIn word_bits l.game l.j (bit l.edges)
