-- One word more is done: word j gets the bits of `near` that are the player's and, of the others, those whose rows do not meet x.
use mathlib.Core.Path.{sym, ap, ap₂, ◌∙◌}
use mathlib.Core.Bool.{not}
use Prim.Native.Nat.{◌+◌, ◌*◌}
use Rattle.theory.specs.Logic.Bools.{◌&◌, ◌or◌}
use Rattle.words.specs.WordLaws.{digit_or, digit_and, digit_less}
use Rattle.words.specs.WordsLaws.{has_at}
use Rattle.order_rows.specs.Bits.{apart}
use Rattle.order_rows.specs.RowLaws.{filled_next}
use Rattle.order_losses.proofs.edges.falling.Goals as goal

pub loop-j-preserved : goal.loop-j-preserved
loop-j-preserved c = let a = c.args in
    let j = c.loop-j.j in
    filled_next j _ _ _ c.loop-j-test.true c.loop-j.invariant
    (λ k h.
    let near = sym (has_at a.near j k h) in
    let player = sym (has_at a.player j k h) in
    digit_or _ _ k
    ∙ ap₂ ◌or◌ (digit_and _ _ k ∙ ap₂ ◌&◌ near player)
    (c.apart_word-stuck.ensures k h
    ∙ ap (λ b. b & apart a.edges.now (j * 64 + k) a.x) (digit_less _ _ k ∙ ap₂ (λ m n. m & not n) near player)))
