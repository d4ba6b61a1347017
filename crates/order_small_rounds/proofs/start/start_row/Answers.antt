-- A vertex found before v has the priority of v, so its word can be copied; otherwise the word is worked out.
use native.Mathlib.Omega.{arith}
use Rattle.theory.proofs.Logic.RangeLaws.{first_passes}
use Rattle.theory.specs.Order.Order.{equal_priority}
use Rattle.table.specs.Table.{game_of}
use Rattle.order_small_rounds.proofs.start.start_row.Goals as goal

pub copy-requires : goal.copy-requires
unfolding game_of
copy-requires c = record { word_bits_in_bounds = c.requires.word_bits_in_bounds; u_lt_v = (c.if-u-v.true, omega (arith, c.requires.well_formed.1, c.requires.small_edges_in_bounds.1.small)) }

pub returns-then-u-v : goal.returns-then-u-v
returns-then-u-v c = let G = game_of c.args.game.now in
    let v = c.args.v in
    let e = c.first_equal-u.ensures in
    let t = c.if-u-v.true in
    c.copy.ensures G (rw e (first_passes (λ u. equal_priority G G u v) 0 v (omega arith) (omega (arith, e, t)))) c.requires.parted_in
