-- The vertices of `near` before the lowest bit left are done, since none lies between one bit and the next; the word left is the measure.
use mathlib.Core.Path.{◌≡◌, refl, sym, ◌∙◌}
use mathlib.Core.Bool.{So}
use Prim.Native.Nat.{◌+◌, ◌*◌}
use native.Mathlib.Omega.{arith}
use lib.ListN.{get_or}
use Rattle.words.specs.Word.{lowest_bit}
use Rattle.words.specs.Words.{has}
use Rattle.words.specs.LeftLaws.{onward_start, onward_here, onward_next, lowest_none}
use Rattle.words.specs.WordsLaws.{has_at}
use Rattle.order_sets.specs.LossesLaws.{losses_step, word_start, word_next}
use Rattle.order_rows.specs.Bits.{row_bits}
use Rattle.order_rows.specs.MatrixLaws.{added_alone}
use Rattle.order_losses.proofs.losses.lose_word.Goals as goal

pub loop-left-init : goal.loop-left-init
loop-left-init c = let near = c.args.near.now in
    let j = c.args.j in
    let e : j * 64 ≡ j * 64 + 0 = omega arith in (
      onward_start (get_or near j 0),
      refl,
      refl,
      λ G r f v. word_start row_bits _ (has near) (j * 64) (get_or near j 0) (has_at near j) _ _ (rw e at (c.requires.losses_to G r f v)),
    )

pub loop-left-preserved : goal.loop-left-preserved
loop-left-preserved c = let near = c.args.near.now in
    let j = c.args.j in
    let i = c.loop-left.invariant in
    let low = c.lowest in
    let m = low.ensures in
    let e = c.rest-left.ensures in
    let v = j * 64 + low.result in
    let on : So (has near v) = has_at near j _ m.inside ∙ onward_here _ _ _ m e _ i.0 in (
      onward_next _ _ _ m e (get_or near j 0) i.0,
      c.put.auto.words ∙ i.1,
      c.add.auto.words ∙ i.2,
      λ G r f inside.
          word_next row_bits _ (has near) (j * 64) (get_or near j 0) (has_at near j) _ _ _ _ _ i.0 m e
          (losses_step row_bits _ (has near) v _ _ _ _ _ _ on (rw (sym m.is) at (i.3 G r f inside))
          (c.lose-out.ensures G r (inside v (omega (arith, c.requires.row_words_in_bounds.3, m.inside)) on) f) c.put.ensures c.is_some.ensures (added_alone _ _ _ _ c.add.ensures)),
    )

pub returns : goal.returns
returns c = let e : lowest_bit c.loop-left.left ≡ 64 = rw c.loop-left-test.false lowest_none in
    rw e at c.loop-left.invariant.3
