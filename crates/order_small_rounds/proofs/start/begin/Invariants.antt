use Rattle.table.specs.Table.{game_of}
use Rattle.words.specs.Word.{word_bits, digit}
use Rattle.order_sets.specs.Rounds.{PartedIn, StartedIn}
use Rattle.order_small_losses.specs.Words.{bit}
use Rattle.order_small_rounds.proofs.start.begin.Given as goal

abbrev pub invariant-loop-v : goal.invariant-loop-v
invariant-loop-v l = PartedIn word_bits (game_of l.game) l.v (bit l.related) (bit l.lost) (bit l.falls)
    × StartedIn word_bits (game_of l.game) l.v (digit l.changed)
