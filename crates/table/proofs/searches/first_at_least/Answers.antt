-- Where there is such a word, the rest of the search finds what the whole does.
use mathlib.Core.Path.{sym, ◌∙◌}
use native.Mathlib.Omega.{arith}
use borrow.Author.Tests.{le-leb, lt-leb}
use Rattle.theory.proofs.Logic.RangeLaws.{first_step, first_hit, first_end_lem}
use Rattle.table.specs.HighestLaws.{highest_none}
use Rattle.table.proofs.searches.first_at_least.Goals as goal

-- the highest word is below the limit, and so are all
pub returns-then-highest-limit : goal.returns-then-highest-limit
returns-then-highest-limit c = highest_none c.args.words.now c.args.limit c.args.from c.args.end c.requires.0 (rw c.highest.ensures at c.if-highest-limit.true)

pub returns-then-limit-from : goal.returns-then-limit-from
returns-then-limit-from c = sym (c.loop-k.invariant ∙ first_hit _ _ _ c.loop-k-test.true (le-leb _ _ (rw c.from.ensures at c.if-limit-from.true)))

pub loop-k-preserved : goal.loop-k-preserved
loop-k-preserved c = c.loop-k.invariant ∙ first_step _ _ _ c.loop-k-test.true (lt-leb _ _ (rw c.from.ensures at c.if-limit-from.false))

pub returns : goal.returns
returns c = sym (c.loop-k.invariant ∙ first_end_lem _ _ _ c.loop-k-test.false ∙ omega arith)
