-- The `or` of one word more has a bit exactly if the words before have one or that word has.
use mathlib.Core.Path.{sym, ap, ◌∙◌}
use Rattle.theory.specs.Logic.Bools.{◌or◌}
use lib.ListN.{get_or}
use Rattle.theory.specs.Logic.Range.{any_below}
use Rattle.theory.proofs.Logic.RangeLaws.{any_ext}
use Rattle.words.specs.Word.{word_bits, digit}
use Rattle.words.specs.WordLaws.{digit_or, some_none}
use Rattle.order_rows.specs.RowLaws.{any_words, any_or}
use Rattle.order_rows.proofs.row.is_some.Goals as goal

pub loop-word-init : goal.loop-word-init
unfolding any_below
loop-word-init c = some_none

pub loop-word-preserved : goal.loop-word-preserved
loop-word-preserved c = let a = c.args.a in
    let k = c.loop-word.word-index in
    any_ext word_bits _ _ (λ j h. digit_or _ _ j) ∙ any_or word_bits _ _
    ∙ ap (λ b. b or any_below word_bits (digit (get_or a k 0))) c.loop-word.invariant ∙ sym (any_words k a)
