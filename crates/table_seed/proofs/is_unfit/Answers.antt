-- Each side of the `or` is one of the code's tests.
use Rattle.std.proofs.Common.{◌≡◌, false, sym, ◌∙◌, arith}
use Rattle.theory.specs.Logic.Bools.{◌or◌}
use Rattle.table.specs.Limits.{vertex_limit}
use Rattle.table_seed.specs.GeneratorLaws.{product_lt}
use Rattle.table_seed.specs.SeedCall.{degree_limit, priority_limit, outside, unfit}
use Rattle.table_seed.proofs.is_unfit.Goals as goal
use Rattle.table_seed.proofs.is_unfit.Lts as lts
use Rattle.table_seed.proofs.is_unfit.Reads as reads
use Rattle.table_seed.proofs.is_unfit.Tie as tie

-- the tests that failed
first : (c : lts.Else1 tie.the-claims reads.Pre reads.Post) → outside c.args.vertices vertex_limit ≡ false
first c = sym c.is_outside.ensures ∙ c.if-is_outside.false

second : (c : lts.Else2 tie.the-claims reads.Pre reads.Post) → outside c.args.degree degree_limit ≡ false
second c = sym c.is_outside-2.ensures ∙ c.if-is_outside-2.false

third : (c : lts.Else3 tie.the-claims reads.Pre reads.Post) → outside c.args.priorities priority_limit ≡ false
third c = sym c.is_outside-3.ensures ∙ c.if-is_outside-3.false

pub returns-then-is_outside : goal.returns-then-is_outside
unfolding unfit ◌or◌
returns-then-is_outside c = rw (sym c.is_outside.ensures ∙ c.if-is_outside.true)

pub returns-then-is_outside-2 : goal.returns-then-is_outside-2
unfolding unfit ◌or◌
returns-then-is_outside-2 c = rw (first c.before.before, sym c.is_outside-2.ensures ∙ c.if-is_outside-2.true)

pub returns-then-is_outside-3 : goal.returns-then-is_outside-3
unfolding unfit ◌or◌
returns-then-is_outside-3 c = rw (first c.before.before.before.before, second c.before.before, sym c.is_outside-3.ensures ∙ c.if-is_outside-3.true)

pub overflow_mul-result : goal.overflow_mul-result
overflow_mul-result c = let a = c.args in
    record { fits = product_lt a.vertices a.degree (omega arith) (omega arith) }

pub returns : goal.returns
unfolding unfit ◌or◌
returns c = rw (first c.before.before.before.before, second c.before.before, third c)
