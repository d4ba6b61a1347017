-- For Odd the others are put that d is below; for Even d itself, or nothing.
use mathlib.Core.Path.{sym, ap, ◌∙◌}
use mathlib.Core.Bool.{Bool, not}
use Rattle.theory.specs.Logic.Bools.{◌or◌}
use Rattle.theory.proofs.Logic.BoolsLaws.{not_in, or_false}
use Rattle.words.specs.Words.{has}
use Rattle.reduction_edges.proofs.LittleBrothersLaws.{drops_odd, drops_none, drops_self}
use Rattle.reduction_edges.proofs.little_brothers.Targets.drop_by.Goals as goal

pub returns-then-not-even : goal.returns-then-not-even
returns-then-not-even c = λ x h. c.unite_others.ensures x h ∙ ap (λ (b : Bool). has c.args.dropped.now x or b) (sym (drops_odd _ _ _ _ x _ (not_in c.if-not-even.true)))

pub returns-then-not-is_beaten : goal.returns-then-not-is_beaten
returns-then-not-is_beaten c = λ x h. sym (ap (λ (b : Bool). has c.args.dropped.now x or b) (drops_none _ _ _ _ x _ _ (ap not c.if-not-even.false) (not_in c.if-not-is_beaten.true) c.is_beaten.ensures) ∙ or_false _)

pub returns : goal.returns
returns c = λ x h. c.raise.ensures x ∙ ap (λ (b : Bool). has c.args.dropped.now x or b) (sym (drops_self _ _ _ _ x _ _ (ap not c.if-not-even.false) (ap not c.if-not-is_beaten.false) c.is_beaten.ensures))
