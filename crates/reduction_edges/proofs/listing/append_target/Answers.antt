-- Dropped, nothing is put; else one word is put where there is room.
use mathlib.Core.Path.{◌≡◌, sym, ◌∙◌}
use mathlib.Core.Bool.{true}
use native.Mathlib.Omega.{arith}
use Rattle.words.specs.Words.{has}
use Rattle.reduction_edges.proofs.ListingLaws.{put_none, put_one}
use Rattle.reduction_edges.proofs.listing.append_target.Goals as goal

pub returns-then-is_flagged : goal.returns-then-is_flagged
returns-then-is_flagged c =
    let e : has c.args.dropped.now c.args.d ≡ true = sym c.is_flagged.ensures ∙ c.if-is_flagged.true in
    rw e (put_none _ _)

pub offset_bounds-ends-e : goal.offset_bounds-ends-e
offset_bounds-ends-e c = omega (arith, c.requires.e_in_bounds (sym c.is_flagged.ensures ∙ c.if-is_flagged.false))

pub bounds-ends-e : goal.bounds-ends-e
bounds-ends-e c = omega (arith, c.requires.e_in_bounds (sym c.is_flagged.ensures ∙ c.if-is_flagged.false))

pub overflow_add-result : goal.overflow_add-result
overflow_add-result c = omega (arith, c.requires.e_in_bounds (sym c.is_flagged.ensures ∙ c.if-is_flagged.false))

pub returns : goal.returns
returns c =
    let kept = sym c.is_flagged.ensures ∙ c.if-is_flagged.false in
    rw kept (put_one _ _ _ (c.requires.e_in_bounds kept))
