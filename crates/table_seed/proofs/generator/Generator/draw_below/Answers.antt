-- A draw has 16 bits, so its remainder has too.
use Rattle.std.proofs.Common.{arith}
use native.Mathlib.Nat.{mod-le}
use Rattle.table_seed.specs.GeneratorLaws.{draw_lt}
use Rattle.table_seed.proofs.generator.Generator.draw_below.Goals as goal

pub overflow_cast-result : goal.overflow_cast-result
overflow_cast-result c = let v = c.draw-draw.result.value in
    omega (arith, c.draw-draw.ensures.0, draw_lt c.args.self.state, mod-le v c.args.limit)

pub returns : goal.returns
returns c = let e = c.draw-draw.ensures in (rw e.0, e.1)
