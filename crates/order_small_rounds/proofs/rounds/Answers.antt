-- The later passes go on from what pass 0 leaves.
use native.Mathlib.Omega.{arith}
use Rattle.order_small_rounds.proofs.rounds.Goals as goal

pub settle-requires : goal.settle-requires
settle-requires c = let fit = c.requires.words_fit in
    let b = c.begin-first in
    let k = b.auto in record { well_formed = c.requires.well_formed; words_fit = (omega (arith, fit, k), omega (arith, fit, k), omega (arith, fit, k), omega (arith, fit, k)); begun_in = b.ensures }
