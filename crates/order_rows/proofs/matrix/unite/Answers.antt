-- Word j adds the rows of its bits; after the last word the union is that of all rows in `which`.
use mathlib.Core.Path.{◌≡◌, ◌∙◌}
use native.Mathlib.Omega.{arith}
use Rattle.theory.specs.Logic.Range.{any_below}
use Rattle.words.specs.WordsLaws.{has_zero}
use Rattle.order_rows.specs.Bits.{row_words}
use Rattle.order_rows.specs.MatrixLaws.{united_next, united_end}
use Rattle.order_rows.proofs.matrix.unite.Goals as goal

pub loop-j-init : goal.loop-j-init
unfolding any_below
loop-j-init c = λ x h. has_zero row_words x

pub loop-j-preserved : goal.loop-j-preserved
loop-j-preserved c = let a = c.args in
    λ x h. c.unite_word-more.ensures x h ∙ united_next a.words.now a.base a.which x c.loop-j.j _ (c.loop-j.invariant x h)

pub returns : goal.returns
returns c = let a = c.args in
    let e : c.loop-j.j ≡ row_words = omega arith in
    λ x h. (rw e at c.loop-j.invariant) x h ∙ united_end a.words.now a.base a.which x
