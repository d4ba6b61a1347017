-- Invariant: what is dropped because of those of the row before d.
use mathlib.Core.Path.{refl}
use Prim.Native.Nat.{◌+◌}
use native.Mathlib.Omega.{arith}
use Rattle.theory.proofs.Logic.RangeLaws.{first_ge}
use Rattle.words.specs.Words.{has}
use Rattle.order_sets.specs.MembersLaws.{reached_start, reached_next}
use Rattle.reduction_edges.proofs.LittleBrothersLaws.{nothing, dropped_start, dropped_next, dropped_end}
use Rattle.reduction_edges.proofs.little_brothers.Targets.drop_all.Goals as goal

pub next_member-d-requires : goal.next_member-d-requires
next_member-d-requires c = (omega arith, c.args.self.row_fits, omega (arith, c.args.self.marked))

pub loop-d-init : goal.loop-d-init
loop-d-init c = rw c.next_member-d.ensures (reached_start _ _, refl, dropped_start _ _ _ _ _ (nothing _ c.requires.by_index))

pub drop_by-requires : goal.drop_by-requires
drop_by-requires c = (omega (arith, c.loop-d.invariant.1, c.requires.row_fits), c.loop-d-test.true)

pub next_member-d-requires-in-loop-d : goal.next_member-d-requires-in-loop-d
next_member-d-requires-in-loop-d c = (omega (arith, c.loop-d-test.true), c.args.self.row_fits, omega (arith, c.args.self.marked))

pub loop-d-smaller : goal.loop-d-smaller
loop-d-smaller c = omega (arith, c.next_member-d-in-loop-d.ensures, first_ge (has c.args.self.row.now) (c.loop-d.d + 1) c.args.self.n, c.loop-d-test.true)

pub loop-d-preserved : goal.loop-d-preserved
loop-d-preserved c = let l = c.loop-d in
    let t = c.loop-d-test.true in
    rw c.next_member-d-in-loop-d.ensures
    (reached_next _ _ l.d t, omega (arith, l.invariant.1), dropped_next _ _ _ _ l.d _ _ (l.invariant.0.1 t) l.invariant.2 c.drop_by.ensures)

pub returns : goal.returns
returns c = let l = c.loop-d in
    dropped_end _ _ _ _ l.d _ (omega (arith, l.invariant.0.0, c.loop-d-test.false)) l.invariant.2
