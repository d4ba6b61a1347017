-- `common` holds what is in both rows, so they meet exactly if something is in it.
use Rattle.theory.proofs.Logic.RangeLaws.{any_ext}
use mathlib.Core.Path.{◌∙◌}
use Rattle.order_rows.proofs.row.meets.Goals as goal

pub returns : goal.returns
returns c = c.is_some.ensures ∙ any_ext _ _ _ c.common.ensures
