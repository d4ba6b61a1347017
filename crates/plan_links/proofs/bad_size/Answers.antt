-- The five conditions of 12, one after the other.
use native.Mathlib.Omega.{arith}
use borrow.Author.Tests.{lt-ltb, le-ltb, eq-eqb, ne_eqb}
use Rattle.theory.specs.Logic.Bools.{◌or◌}
use Rattle.plan_links.specs.Refusals.{bad_size}
use Rattle.plan_links.proofs.bad_size.Goals as goal

pub returns-then-len-lt2 : goal.returns-then-len-lt2
unfolding bad_size ◌or◌
returns-then-len-lt2 c = rw (lt-ltb _ _ c.if-len-lt2.true)

pub overflow_cast-p : goal.overflow_cast-p
overflow_cast-p c = omega (arith, c.type_inv.plan 0)

pub overflow_cast-l : goal.overflow_cast-l
overflow_cast-l c = omega (arith, c.type_inv.plan 1)

pub returns-then-p-eq0 : goal.returns-then-p-eq0
unfolding bad_size ◌or◌
returns-then-p-eq0 c = rw (le-ltb _ _ c.if-len-lt2.false, eq-eqb _ _ c.if-p-eq0.true)

pub returns-then-p-gt-POSITIONS : goal.returns-then-p-gt-POSITIONS
unfolding bad_size ◌or◌
returns-then-p-gt-POSITIONS c = rw (le-ltb _ _ c.if-len-lt2.false, ne_eqb _ _ c.if-p-eq0.false, lt-ltb _ _ c.if-p-gt-POSITIONS.true)

pub returns-then-l-gt-LINKS : goal.returns-then-l-gt-LINKS
unfolding bad_size ◌or◌
returns-then-l-gt-LINKS c = rw (le-ltb _ _ c.if-len-lt2.false, ne_eqb _ _ c.if-p-eq0.false, le-ltb _ _ c.if-p-gt-POSITIONS.false, lt-ltb _ _ c.if-l-gt-LINKS.true)

pub returns : goal.returns
unfolding bad_size ◌or◌
returns c = rw (le-ltb _ _ c.if-len-lt2.false, ne_eqb _ _ c.if-p-eq0.false, le-ltb _ _ c.if-p-gt-POSITIONS.false, le-ltb _ _ c.if-l-gt-LINKS.false)
