-- Each side of the `or` is one of the code's tests.
use Rattle.std.proofs.Common.{eq-eqb, ne_eqb}
use Rattle.theory.specs.Logic.Bools.{◌or◌}
use Rattle.table_seed.specs.SeedCall.{outside}
use Rattle.table_seed.proofs.is_outside.Goals as goal

pub returns-then-x-eq0 : goal.returns-then-x-eq0
unfolding outside ◌or◌
returns-then-x-eq0 c = rw (eq-eqb c.args.x 0 c.if-x-eq0.true)

pub returns-else-x-eq0 : goal.returns-else-x-eq0
unfolding outside ◌or◌
returns-else-x-eq0 c = rw (ne_eqb c.args.x 0 c.if-x-eq0.false)
