-- Before v, the marks of the v × n pairs of the rows before v are written; the bits of word v are the n marks that follow them.
use mathlib.Core.Path.{refl}
use native.Mathlib.Nat.{zero-mul}
use lib.ListN.{get_or}
use Rattle.words.specs.Word.{digit}
use Rattle.marks.specs.MarkWriting.{row_mark}
use Rattle.marks.specs.MarkWritingLaws.{held_none, row_whole, rows_next}
use Rattle.marks.proofs.writing.write_small.Goals as goal

pub loop-v-init : goal.loop-v-init
loop-v-init c = let a = c.args in rw (zero-mul a.n) (held_none (row_mark a.n (λ u x. digit (get_or a.rows.now u 0) x)) a.marks.now)

pub loop-v-preserved : goal.loop-v-preserved
loop-v-preserved c =
    rows_next c.args.n _ c.loop-v.v _ _ _ c.requires.2 c.loop-v.invariant
    (row_whole c.args.n _ c.loop-v.v _ _ _ c.loop-v-test.true (λ k h. refl) c.write_bits.ensures)
