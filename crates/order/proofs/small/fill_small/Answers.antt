-- The arrays hold the rows of any well-formed table of at most 64 vertices.
use mathlib.Core.Path.{◌≡◌}
use mathlib.Core.Bool.{false}
use Prim.Native.Nat.{ℕ}
use native.Mathlib.Omega.{arith}
use lib.ListN.{replicate}
use Rattle.theory.proofs.Logic.ListLaws.{zeros}
use Rattle.words.specs.WordLaws.{digit_zero}
use Rattle.order_small_losses.specs.Words.{bit, small_edges}
use Rattle.order.specs.OrderWrittenLaws.{rows_done}
use Rattle.order.proofs.small.fill_small.Goals as goal

bit_zero : (k v x : ℕ) → bit (replicate k 0) v x ≡ false
unfolding bit
bit_zero k v x = rw (zeros k v) (digit_zero x)

pub fill-requires : goal.fill-requires
fill-requires c = record { well_formed = (c.requires.0, c.requires.1); small_edges_in_bounds = omega arith; by_index = bit_zero small_edges }

pub rounds-passes-requires : goal.rounds-passes-requires
rounds-passes-requires c = let f = c.fill in
    record { well_formed = (c.requires.0, omega (arith, f.auto), f.ensures); words_fit = (omega arith, omega arith, omega arith, omega arith) }

pub returns : goal.returns
unfolding bit
returns c = rows_done c.args.mirror c.args.game.now _ _ _ _ c.rounds-passes.ensures c.write_small.ensures
