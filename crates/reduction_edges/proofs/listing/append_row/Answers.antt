-- Invariant: the classes of those of the row before d are put that are not dropped. There is room for all of them.
use mathlib.Core.Path.{◌≡◌, refl}
use mathlib.Core.Bool.{So, false}
use mathlib.Core.List.{List, map}
use Prim.Native.Nat.{ℕ, ◌+◌}
use native.Mathlib.Omega.{arith}
use lib.ListN.{length, length-map}
use Rattle.theory.proofs.Logic.BoolsLaws.{and_in, not_in}
use Rattle.words.specs.Words.{has}
use Rattle.order_sets.specs.MembersLaws.{reached_start, reached_next}
use Rattle.theory.proofs.Logic.RangeLaws.{first_ge}
use Rattle.reduction_edges.specs.Rows.{keeps, picked, number_of, Put}
use Rattle.reduction_edges.proofs.PickedLaws.{picked_grows, picked_room}
use Rattle.reduction_edges.proofs.ListingLaws.{put_none, put_join, row_start_lem, row_next}
use Rattle.reduction_edges.proofs.listing.append_row.Goals as goal

pub next_member-d-requires : goal.next_member-d-requires
next_member-d-requires c = (omega arith, c.requires.n_le_vertex_limit.2, omega (arith, c.requires.n_le_vertex_limit.0))

pub loop-d-init : goal.loop-d-init
loop-d-init c = rw c.next_member-d.ensures (reached_start _ _, refl, rw (← row_start_lem c.args.row.now c.args.dropped.now c.args.n (number_of c.args.classes.now)) (put_none _ _))

-- as many as are put
count : (row dropped classes : List ℕ) (d : ℕ) {e r : ℕ} {ends ends' : List ℕ} → Put (map (number_of classes) (picked d (keeps row dropped))) e ends ends' r
    → r ≡ e + length (picked d (keeps row dropped))
count row dropped classes d put = omega (arith, put.count, length-map (picked d (keeps row dropped)) (number_of classes))

kept : (row dropped : List ℕ) (d : ℕ) → So (has row d) → has dropped d ≡ false → So (keeps row dropped d)
unfolding keeps
kept row dropped d t f = and_in t (not_in f)

pub append_target-r-requires : goal.append_target-r-requires
append_target-r-requires c =
    let a = c.args in
    let l = c.loop-d in
    let t = c.loop-d-test.true in
    record {
      d_in_bounds = (omega (arith, c.requires.n_le_vertex_limit.1, t), omega (arith, c.requires.n_le_vertex_limit.3, t));
      e_in_bounds = λ f.
          let p = picked_room (keeps a.row.now a.dropped.now) l.d a.n t (kept a.row.now a.dropped.now l.d (l.invariant.0.1 t) f) in
          omega (arith, p, count a.row.now a.dropped.now a.classes.now l.d l.invariant.2, c.requires.room, l.invariant.1);
    }

pub next_member-d-requires-in-loop-d : goal.next_member-d-requires-in-loop-d
next_member-d-requires-in-loop-d c = (omega (arith, c.loop-d-test.true), c.requires.n_le_vertex_limit.2, omega (arith, c.requires.n_le_vertex_limit.0))

pub loop-d-smaller : goal.loop-d-smaller
loop-d-smaller c = omega (arith, c.next_member-d-in-loop-d.ensures, first_ge (has c.args.row.now) (c.loop-d.d + 1) c.args.n, c.loop-d-test.true)

pub loop-d-preserved : goal.loop-d-preserved
loop-d-preserved c =
    let a = c.args in
    let l = c.loop-d in
    let g = picked_grows (keeps a.row.now a.dropped.now) l.d a.n l.invariant.0.0 in
    let z = length-map (picked l.d (keeps a.row.now a.dropped.now)) (number_of a.classes.now) in
    rw c.next_member-d-in-loop-d.ensures (
      reached_next _ _ l.d c.loop-d-test.true,
      omega (arith, l.invariant.1),
      rw (← row_next a.row.now a.dropped.now a.n (number_of a.classes.now) l.d (l.invariant.0.1 c.loop-d-test.true))
          (put_join _ _ _ _ _ _ _ _ (omega (arith, g, z, c.requires.room)) l.invariant.2 c.append_target-r.ensures),
    )

pub returns : goal.returns
returns c = let l = c.loop-d in
    let e : l.d ≡ c.args.n = omega (arith, l.invariant.0.0, c.loop-d-test.false) in
    rw e at l.invariant.2
