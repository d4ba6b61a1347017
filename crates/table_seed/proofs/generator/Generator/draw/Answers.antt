-- The product is reduced before the sum, and the sum again.
use Rattle.std.proofs.Common.{refl}
use Rattle.table_seed.specs.Generator.{draw_of}
use Rattle.table_seed.specs.GeneratorLaws.{step_wraps}
use Rattle.table_seed.proofs.generator.Generator.draw.Goals as goal

pub returns : goal.returns
unfolding draw_of
returns c = rw (c.wrapping_mul-state.ensures, step_wraps) (refl, refl)
