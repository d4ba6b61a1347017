-- Without `mirror`, the marks and the number of passes are by definition those of the order.
use Rattle.theory.specs.Order.Governed.{marks_by, passes_by}
use Rattle.order.proofs.fill_order.Goals as goal

pub returns : goal.returns
unfolding marks_by passes_by
returns c = c.fill_relation.ensures
