-- Invariant: each row is met with the rows of the members below v of the class of its vertex.
use mathlib.Core.Path.{◌≡◌, ◌∙◌}
use Prim.Native.Nat.{◌<◌}
use native.Mathlib.Omega.{arith}
use Rattle.table.specs.Table.{vertex_count}
use Rattle.table.specs.TableLaws.{game_n}
use Rattle.reduction_rows.specs.ReachedLaws.{class_inside, lowest_read, lowest_inside, row_inside}
use Rattle.reduction_rows.specs.MetLaws.{members_start, members_next}
use Rattle.reduction_rows.proofs.Groups.meet_members.Goals as goal

pub loop-v-init : goal.loop-v-init
loop-v-init c = members_start _ _ _

pub lowest_of-r-requires : goal.lowest_of-r-requires
lowest_of-r-requires c = class_inside c.requires.0 c.loop-v.v (omega arith)

pub meet_row-requires : goal.meet_row-requires
meet_row-requires c =
    let v = c.loop-v.v in
    let grouped = c.requires.0 in
    let f = c.requires.1 in
    let h : v < vertex_count c.args.self.game.now = omega arith in
    -- the row is that of the lowest member
    let low = c.lowest_of-r.ensures ∙ lowest_read grouped v h in
    (rw low (omega (arith, row_inside f _ (lowest_inside grouped v h))), omega (arith, row_inside f v h))

pub loop-v-preserved : goal.loop-v-preserved
loop-v-preserved c =
    let v = c.loop-v.v in
    let h : v < vertex_count c.args.self.game.now = omega arith in
    let low = c.lowest_of-r.ensures ∙ lowest_read c.requires.0 v h in
    members_next _ _ v _ _ _ (rw (game_n c.args.self.game.now) h) c.loop-v.invariant (rw low at c.meet_row.ensures)

pub returns : goal.returns
returns c = let l = c.loop-v in
    let e : l.v ≡ vertex_count c.args.self.game.now = omega arith in
    rw e at l.invariant
