-- The number is that of a pair of vertices, so nothing wraps.
use Prim.Native.Nat.{◌+◌, ◌*◌}
use native.Mathlib.Omega.{arith}
use Rattle.table.specs.FlagsLaws.{edge_words_lem, edge_number_lt}
use Rattle.table.proofs.flags.edge_number.Goals as goal

pub overflow_cast-s : goal.overflow_cast-s
overflow_cast-s c = let a = c.args in omega (arith, c.shared_slice_known-1.given (2 + 2 * a.n + a.j))

pub overflow_cast-t : goal.overflow_cast-t
overflow_cast-t c = let a = c.args in omega (arith, c.shared_slice_known-2-1.given (2 + 2 * a.n + a.m + a.j))

pub overflow_mul-result : goal.overflow_mul-result
overflow_mul-result c = let a = c.args in
    let p = c.requires in
    omega (arith, edge_words_lem a.game.now a.n a.m p.0 a.j, edge_number_lt a.game.now a.n a.m p.0 p.1 a.j p.2)

pub overflow_add-result : goal.overflow_add-result
overflow_add-result c = let a = c.args in
    let p = c.requires in
    omega (arith, edge_words_lem a.game.now a.n a.m p.0 a.j, edge_number_lt a.game.now a.n a.m p.0 p.1 a.j p.2)

pub returns : goal.returns
returns c = let a = c.args in edge_words_lem a.game.now a.n a.m c.requires.0 a.j
