-- Each way out is a row of the call's table of refusals, or the table written.
use Rattle.std.proofs.Common.{◌≡◌, false, sym, ◌∙◌, arith}
use Rattle.table_seed.specs.GeneratorLaws.{product_lt}
use Rattle.table_seed.specs.SeedCall.{unfit}
use Rattle.table_seed.specs.SeedCallLaws.{seed_unfit, seed_short, seed_done}
use Rattle.table_seed.specs.SeedRules.{Fit}
use Rattle.table_seed.specs.SeedRulesLaws.{unfit_fails}
use Rattle.table_seed.proofs.write_seeded.Goals as goal
use Rattle.table_seed.proofs.write_seeded.Lts as lts
use Rattle.table_seed.proofs.write_seeded.Reads as reads
use Rattle.table_seed.proofs.write_seeded.Tie as tie

-- 31 doesn't hold
fails : (c : lts.Else1 tie.the-claims reads.Pre reads.Post) → let a = c.args in unfit a.vertices a.degree a.priorities ≡ false
fails c = sym c.is_unfit.ensures ∙ c.if-is_unfit.false

fit : (c : lts.Else1 tie.the-claims reads.Pre reads.Post) → let a = c.args in Fit a.vertices a.degree a.priorities
fit c = (unfit_fails _ _ _).0 (fails c)

pub returns-then-is_unfit : goal.returns-then-is_unfit
returns-then-is_unfit c = rw c.refused.ensures (seed_unfit _ _ _ _ _ (sym c.is_unfit.ensures ∙ c.if-is_unfit.true))

pub overflow_mul-m : goal.overflow_mul-m
overflow_mul-m c = let a = c.args in
    record { fits = product_lt a.vertices a.degree (omega arith) (omega arith) }

pub overflow_mul-needed-2 : goal.overflow_mul-needed-2
overflow_mul-needed-2 c = omega (arith, (fit c.before).edges)

pub overflow_add-needed-2 : goal.overflow_add-needed-2
overflow_add-needed-2 c = omega (arith, (fit c.before).edges, (fit c.before).vertices.few)

pub returns-then-output-needed : goal.returns-then-output-needed
returns-then-output-needed c = rw c.refused-then-output-needed.ensures (seed_short _ _ _ _ _ (fails c.before.before.before) c.if-output-needed.true)

pub write_table-requires : goal.write_table-requires
write_table-requires c = let f = fit c.before.before in (
  record { some = f.vertices.some; vertices = f.vertices.few; degree = f.degree.some; edges = f.edges; fits = c.if-output-needed.false },
  f.priorities.some,
)

pub returns : goal.returns
returns c = rw c.write_table.ensures (seed_done _ _ _ _ _ (fails c.before.before.before.before.before.before) c.if-output-needed.false)
