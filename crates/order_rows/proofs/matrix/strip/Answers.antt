-- Word j takes the rows of its bits out: to take out one union and then another is to take out both.
use mathlib.Core.Path.{◌≡◌, sym, ap, ◌∙◌}
use mathlib.Core.Bool.{not}
use native.Mathlib.Omega.{arith}
use Rattle.theory.specs.Logic.Bools.{◌&◌}
use Rattle.theory.proofs.Logic.BoolsLaws.{and_true}
use Rattle.theory.specs.Logic.Range.{any_below}
use Rattle.words.specs.Words.{has}
use Rattle.order_rows.specs.Bits.{row_words}
use Rattle.order_rows.specs.MatrixLaws.{united_end, stripped_next}
use Rattle.order_rows.proofs.matrix.strip.Goals as goal

pub loop-j-init : goal.loop-j-init
unfolding any_below
loop-j-init c = λ x h. sym (and_true _)

pub loop-j-preserved : goal.loop-j-preserved
loop-j-preserved c = let a = c.args in
    λ x h. c.strip_word-less.ensures x h ∙ stripped_next a.words.now a.which x c.loop-j.j _ (has a.from x) (c.loop-j.invariant x h)

pub returns : goal.returns
returns c = let a = c.args in
    let e : c.loop-j.j ≡ row_words = omega arith in
    λ x h. (rw e at c.loop-j.invariant) x h ∙ ap (λ b. has a.from x & not b) (united_end a.words.now 0 a.which x)
