-- A refusal of the first call stands for both; otherwise the second reduces what the first wrote, which its output holds.
use Rattle.std.proofs.Common.{ap, arith, sym}
use lib.Seq.{length-take-le}
use Rattle.reduction.specs.TableCall.{tabulation_answer}
use Rattle.claims_twice.proofs.ReducedTwiceLaws.{held, twice_refused, twice_accepted}
use Rattle.claims_twice.proofs.reduces_twice.Goals as goal

pub returns-in_default : goal.returns-in_default
returns-in_default c = let w = c.write_reduced-first in twice_refused w.result w.ensures _ c.in_default.is

pub overflow_mul-size : goal.overflow_mul-size
overflow_mul-size c = let h = held c.write_reduced-first.ensures _ _ _ (ap tabulation_answer c.in-Ok.is) in omega (arith, h.vertices)

pub overflow_add-size : goal.overflow_add-size
overflow_add-size c = let h = held c.write_reduced-first.ensures _ _ _ (ap tabulation_answer c.in-Ok.is) in omega (arith, h.vertices)

pub overflow_mul-size-2 : goal.overflow_mul-size-2
overflow_mul-size-2 c = let h = held c.write_reduced-first.ensures _ _ _ (ap tabulation_answer c.in-Ok.is) in omega (arith, h.edges)

pub overflow_add-size-2 : goal.overflow_add-size-2
overflow_add-size-2 c = let h = held c.write_reduced-first.ensures _ _ _ (ap tabulation_answer c.in-Ok.is) in
    omega (arith, h.vertices, h.edges)

pub slice_bounds-write_reduced-end : goal.slice_bounds-write_reduced-end
slice_bounds-write_reduced-end c = let h = held c.write_reduced-first.ensures _ _ _ (ap tabulation_answer c.in-Ok.is) in omega (arith, h.long)

pub slice_bounds-write_reduced-end-2 : goal.slice_bounds-write_reduced-end-2
slice_bounds-write_reduced-end-2 c = let h = held c.write_reduced-first.ensures _ _ _ (ap tabulation_answer c.in-Ok.is) in
    sym (length-take-le _ _ h.long)

pub returns : goal.returns
returns c = let v = c.write_reduced-second in
    twice_accepted c.write_reduced-first.result c.write_reduced-first.ensures c.in-Ok.counts v.result c.in-Ok.is v.ensures
