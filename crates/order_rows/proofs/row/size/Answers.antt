-- The total counts the numbers below 64 × k in the row, at most 64 × k, so it fits 32 bits.
use mathlib.Core.Path.{refl, sym, ap₂, ◌∙◌}
use Prim.Native.Nat.{◌+◌, ◌*◌}
use native.Mathlib.Omega.{arith}
use lib.ListN.{get_or}
use Rattle.theory.specs.Logic.Range.{count}
use Rattle.theory.proofs.Logic.CountLaws.{count_le}
use Rattle.words.specs.Word.{word_bits, digit}
use Rattle.words.specs.Words.{has}
use Rattle.order_rows.specs.RowLaws.{count_words}
use Rattle.order_rows.proofs.row.size.Goals as goal

pub loop-word-init : goal.loop-word-init
unfolding count
loop-word-init c = refl

pub overflow_add-total : goal.overflow_add-total
overflow_add-total c = let k = c.loop-word.word-index in omega (
  arith,
  c.loop-word.invariant,
  c.size-total.ensures,
  count_le (k * 64) (has c.args.a),
  count_le word_bits (digit (get_or c.args.a k 0)),
  c.loop-word-test.true,
)

pub loop-word-preserved : goal.loop-word-preserved
loop-word-preserved c = ap₂ ◌+◌ c.loop-word.invariant c.size-total.ensures ∙ sym (count_words c.loop-word.word-index c.args.a)
