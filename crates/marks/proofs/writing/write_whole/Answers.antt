-- k bytes of the word are written, and `rest` is the word shifted by 8 × k, so its lowest byte is the next one.
use mathlib.Core.Path.{ap, ◌∙◌}
use Prim.Native.Nat.{ℕ, ◌/◌, ◌^◌}
use Rattle.marks.specs.MarkWritingLaws.{bits_byte, left_byte}
use Rattle.marks.proofs.writing.write_whole.Goals as goal

pub loop-k-preserved : goal.loop-k-preserved
loop-k-preserved c = let i = c.loop-k.invariant in (
  ap (λ (x : ℕ). x / 2 ^ 8) i.0 ∙ left_byte c.args.word c.loop-k.k,
  rw i.0 (bits_byte c.args.word c.args.at c.loop-k.k _ _ c.requires.0 i.1),
)
