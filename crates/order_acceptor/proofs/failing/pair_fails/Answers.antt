-- The ways out: the test fails, no reverse is asked, the pair is unmarked, the reverse.
use mathlib.Core.Path.{sym, ap, ◌∙◌}
use mathlib.Core.Bool.{not}
use Rattle.order_acceptor.specs.RelationCallLaws.{fails_direct, fails_plain, fails_unmarked, fails_reverse}
use Rattle.order_acceptor.proofs.failing.pair_fails.Goals as goal

pub returns-then-test_fails : goal.returns-then-test_fails
returns-then-test_fails c = let a = c.args in
    sym (fails_direct a.game.now a.marks.now a.v a.w a.mirror (sym c.test_fails.ensures ∙ c.if-test_fails.true))

pub returns-then-not-mirror : goal.returns-then-not-mirror
returns-then-not-mirror c = let a = c.args in
    sym (fails_plain a.game.now a.marks.now a.v a.w a.mirror (ap not c.if-not-mirror.true) (sym c.test_fails.ensures ∙ c.if-test_fails.false))

pub returns-then-not-is_marked : goal.returns-then-not-is_marked
returns-then-not-is_marked c = let a = c.args in
    sym (fails_unmarked a.game.now a.marks.now a.v a.w a.mirror (sym c.is_marked.ensures ∙ c.if-not-is_marked.true))

pub returns : goal.returns
returns c = let a = c.args in
    ap not c.is_marked-2.ensures
    ∙ sym (fails_reverse a.game.now a.marks.now a.v a.w a.mirror (ap not c.if-not-mirror.false) (sym c.test_fails.ensures ∙ c.if-test_fails.false)
    (sym c.is_marked.ensures ∙ c.if-not-is_marked.false))
