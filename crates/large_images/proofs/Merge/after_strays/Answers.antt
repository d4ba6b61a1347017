-- The row ends, or each test of the definition in its turn.
use mathlib.Core.Path.{sym, ◌∙◌}
use mathlib.Core.Bool.{So}
use Rattle.theory.proofs.Logic.BoolsLaws.{and_in, and_first, and_one}
use Rattle.large_images.specs.Images.{image_at, goes_on, after_strays}
use Rattle.large_images.proofs.ImagesLaws.{after_beyond, after_other, after_by_image}
use Rattle.large_images.proofs.Merge.after_strays.Goals as goal
use Rattle.large_images.proofs.Merge.after_strays.Lts as lts
use Rattle.large_images.proofs.Merge.after_strays.Reads as reads
use Rattle.large_images.proofs.Merge.after_strays.Tie as tie

-- the row goes on
goes : (c : lts.Else1 tie.the-claims reads.Pre reads.Post) → let a = c.args in So (goes_on a.self.reduced.now a.self.k a.self.q (image_at a.self.certificate.now a.self.n a.self.k a.j))
goes c = sym c.goes_on.ensures ∙ c.if-not-goes_on.false

pub returns-then-not-goes_on : goal.returns-then-not-goes_on
unfolding after_strays
returns-then-not-goes_on c = sym (and_first _ (sym c.goes_on.ensures ∙ c.if-not-goes_on.true))

pub returns-then-self-i : goal.returns-then-self-i
unfolding after_strays
returns-then-self-i c = sym (and_in (goes c.before.before) (after_beyond _ _ _ _ _ _ c.if-self-i.true))

pub returns-then-self-i-2 : goal.returns-then-self-i-2
unfolding after_strays
returns-then-self-i-2 c = sym (and_in (goes c.before.before.before.before.before) (after_other _ _ _ _ _ _ c.if-self-i-2.true))

pub returns : goal.returns
unfolding after_strays
returns c = sym (and_one _ (goes c.before.before.before.before.before.before) ∙ after_by_image _ _ _ _ _ _ c.if-self-i.false c.if-self-i-2.false)
