-- Without `drop` nothing is put over the zeros; with it what is dropped for the owner of r.
use mathlib.Core.Path.{ap, ◌∙◌}
use mathlib.Core.Bool.{not}
use Rattle.theory.proofs.Logic.BoolsLaws.{not_in}
use Rattle.reduction_edges.proofs.LittleBrothersLaws.{nothing, drop_none, drop_some}
use Rattle.reduction_edges.proofs.little_brothers.drop_row.Goals as goal

pub returns-then-not-drop : goal.returns-then-not-drop
returns-then-not-drop c = λ x h. nothing _ c.requires.by_index x ∙ drop_none _ _ (not_in c.if-not-drop.true)

pub returns : goal.returns
returns c = λ x h. c.drop_all.ensures x h ∙ drop_some _ _ (ap not c.if-not-drop.false)
