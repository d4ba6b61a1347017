use mathlib.Core.Path.{◌≡◌}
use Prim.Native.Nat.{◌-◌}
use lib.ListN.{length}
use Rattle.theory.specs.Order.Rows.{AfterRound}
use Rattle.table.specs.Table.{pair_count, game_of}
use Rattle.words.specs.Word.{word_bits, digit}
use Rattle.order_sets.specs.Sets.{struck}
use Rattle.order_sets.specs.Losses.{FellIn}
use Rattle.order_small_losses.specs.Words.{bit}
use Rattle.order_small_rounds.proofs.settle.Given as goal

abbrev pub invariant-loop-taken : goal.invariant-loop-taken
invariant-loop-taken l = (length l.related ≡ length l.initial.related)
    × (length l.lost ≡ length l.initial.lost)
    × (length l.falls ≡ length l.initial.falls)
    × (length l.next ≡ length l.initial.next)
    × FellIn word_bits (game_of l.game) (bit l.related) (bit l.lost) (bit l.falls) (digit l.changed)
    × AfterRound l.mirror (game_of l.game) l.passes (bit l.related) (struck (digit l.changed) (bit l.lost))

abbrev pub decreases-loop-taken : goal.decreases-loop-taken
decreases-loop-taken l = pair_count l.game - l.passes
