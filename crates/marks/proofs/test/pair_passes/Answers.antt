-- Each arm knows both owners, so its search decides that row of the test.
use Prim.Native.Nat.{◌+◌, ◌≤◌}
use lib.ListN.{length}
use Rattle.table.specs.Limits.{vertex_limit}
use Rattle.table.specs.Table.{vertex_count, owner_at}
use Rattle.marks.specs.MarkSearch.{Reaches}
use native.Mathlib.Omega.{arith}
use Rattle.index.specs.IndexLaws.{group_within}
use Rattle.marks.specs.PairLaws.{reaches_rows, reaches_columns, row_even_even, row_even_odd, row_odd_even, row_odd_odd}
use Rattle.marks.proofs.test.pair_passes.Goals as goal
use Rattle.marks.proofs.test.pair_passes.Lts as lts
use Rattle.marks.proofs.test.pair_passes.Reads as reads
use Rattle.marks.proofs.test.pair_passes.Tie as tie

-- owners are 0 or 1
owners : (c : lts.After-run_of2 tie.the-claims reads.Pre reads.Post tie.handed_clauses) → let s = c.args in (owner_at s.game.now s.v ≤ 1) × (owner_at s.game.now s.w ≤ 1)
owners c = let p = c.requires in (p.game.owners _ p.row, p.game.owners _ p.column)

-- what the searches over v' and w' ask
rows : (c : lts.After-shared_slice_known7 tie.the-claims reads.Pre reads.Post tie.handed_clauses)
    → let s = c.args in
    let vs = c.run_of-vs.result in
    let ws = c.run_of-ws.result in
    ((vs.end ≤ length s.targets.now) × (ws.end ≤ length s.targets.now) × (vertex_count s.game.now ≤ vertex_limit))
    × Reaches s.marks.now s.targets.now vs.from vs.end ws.from ws.end (vertex_count s.game.now) 1
rows c =
    let p = c.requires in
    rw (c.run_of-ws.ensures, c.run_of-vs.ensures) (
      (group_within p.index (c.args.v + 1) (omega (arith, p.row)), group_within p.index (c.args.w + 1) (omega (arith, p.column)), p.game.vertices),
      reaches_rows c.args.game.now _ _ c.args.marks.now p.index _ _ p.row p.column p.game.vertices p.fits,
    )

pub run_of-vs-requires : goal.run_of-vs-requires
run_of-vs-requires c = let p = c.requires in omega (arith, p.index.size, p.row)

pub run_of-ws-requires : goal.run_of-ws-requires
run_of-ws-requires c = let p = c.requires in omega (arith, p.index.size, p.column)

pub overflow_mul-owners : goal.overflow_mul-owners
overflow_mul-owners c = omega (arith, owners c.before.before)

pub overflow_add-owners-5 : goal.overflow_add-owners-5
overflow_add-owners-5 c = omega (arith, owners c.before.before.before)

pub some_ends-requires : goal.some_ends-requires
some_ends-requires c = let r = rows c.before.before in record { end_in_bounds = r.0; reaches = r.1 }

pub some_ends-requires-in-1 : goal.some_ends-requires-in-1
some_ends-requires-in-1 c = let r = rows c.before.before in record { end_in_bounds = r.0; reaches = r.1 }

pub some_ends-requires-in-2 : goal.some_ends-requires-in-2
some_ends-requires-in-2 c = let r = rows c.before.before in record { end_in_bounds = r.0; reaches = r.1 }

pub some_ends-requires-in_default : goal.some_ends-requires-in_default
some_ends-requires-in_default c = let p = c.requires in
    record {
      end_in_bounds = rw (c.run_of-ws.ensures, c.run_of-vs.ensures) (group_within p.index (c.args.w + 1) (omega (arith, p.column)), group_within p.index (c.args.v + 1) (omega (arith, p.row)), omega arith);
      reaches = rw (c.run_of-ws.ensures, c.run_of-vs.ensures) (reaches_columns c.args.game.now _ _ c.args.marks.now p.index _ _ p.row p.column p.game.vertices p.fits);
    }

pub returns-in-0 : goal.returns-in-0
returns-in-0 c = let p = c.requires in
    rw (c.some_ends.ensures, c.run_of-ws.ensures, c.run_of-vs.ensures)
    (row_even_even c.args.game.now _ _ _ p.index _ _ p.row p.column (omega (arith, owners c.before.before.before.before.before)) (omega (arith, owners c.before.before.before.before.before)))

pub returns-in-1 : goal.returns-in-1
returns-in-1 c = let p = c.requires in
    rw (c.some_ends-in-1.ensures, c.run_of-ws.ensures, c.run_of-vs.ensures)
    (row_even_odd c.args.game.now _ _ _ p.index _ _ p.row p.column (omega (arith, owners c.before.before.before.before.before)) (omega (arith, owners c.before.before.before.before.before)))

pub returns-in-2 : goal.returns-in-2
returns-in-2 c = let p = c.requires in
    rw (c.some_ends-in-2.ensures, c.run_of-ws.ensures, c.run_of-vs.ensures)
    (row_odd_even c.args.game.now _ _ _ p.index _ _ p.row p.column (omega (arith, owners c.before.before.before.before.before)) (omega (arith, owners c.before.before.before.before.before)))

pub returns-in_default : goal.returns-in_default
returns-in_default c = let p = c.requires in
    rw (c.some_ends-in_default.ensures, c.run_of-ws.ensures, c.run_of-vs.ensures)
    (row_odd_odd c.args.game.now _ _ _ p.index _ _ p.row p.column (omega (arith, owners c.before.before.before.before.before)) (omega (arith, owners c.before.before.before.before.before)))
