-- A case for each way out.
use lib.ListN.{length-set}
use Rattle.table.specs.ListingLaws.{appended_none}
use Rattle.edit_run.specs.KeptLaws.{appended_one}
use Rattle.edit_run.proofs.put_pair.Goals as goal

pub shape_of-kept-then-keep : goal.shape_of-kept-then-keep
shape_of-kept-then-keep c = simp length-set

pub shape_of-ends-then-keep : goal.shape_of-ends-then-keep
shape_of-ends-then-keep c = simp length-set

pub returns-then-keep : goal.returns-then-keep
returns-then-keep c = rw c.if-keep.true (appended_one _ _ _ _ _ c.requires.0 c.requires.1)

pub returns : goal.returns
returns c = rw c.if-keep.false (appended_none _ _ _)
