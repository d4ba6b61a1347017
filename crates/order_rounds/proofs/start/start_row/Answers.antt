-- A vertex found before v has the priority of v, so its row can be copied; otherwise the row is worked out.
use native.Mathlib.Omega.{arith}
use Rattle.theory.proofs.Logic.RangeLaws.{first_passes}
use Rattle.theory.specs.Order.Order.{equal_priority}
use Rattle.table.specs.Table.{game_of}
use Rattle.order_rounds.proofs.start.start_row.Goals as goal

pub copy-requires : goal.copy-requires
copy-requires c = record { relation_words_in_bounds = c.requires.relation_words_in_bounds; u_lt_v = (c.if-u-v.true, omega (arith, c.requires.well_formed.1, c.requires.well_formed.0.vertices)) }

pub returns-then-u-v : goal.returns-then-u-v
returns-then-u-v c = let G = game_of c.args.game.now in
    let v = c.args.v in
    let e = c.first_equal-u.ensures in
    c.copy.ensures G (rw e (first_passes (λ u. equal_priority G G u v) 0 v (omega arith) (omega (arith, e, c.if-u-v.true)))) c.requires.parted

pub returns-else-u-v : goal.returns-else-u-v
returns-else-u-v c = c.part.ensures
