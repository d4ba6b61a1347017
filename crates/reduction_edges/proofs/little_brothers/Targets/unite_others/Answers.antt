-- Invariant: the others before w that d is below are in the row.
use mathlib.Core.Path.{refl}
use Prim.Native.Nat.{◌+◌}
use native.Mathlib.Omega.{arith}
use Rattle.reduction_edges.proofs.WordsLaws.{united_start, united_next, united_end}
use Rattle.reduction_edges.proofs.little_brothers.Targets.unite_others.Goals as goal

pub loop-w-init : goal.loop-w-init
loop-w-init c = (refl, united_start _ _ _ _ _)

pub loop-w-preserved : goal.loop-w-preserved
loop-w-preserved c = let l = c.loop-w in (
  omega (arith, l.invariant.0),
  united_next _ _ _ _ _ _ _ _ l.invariant.0 (omega (arith, l.auto.dropped, c.requires.0, c.loop-w-test.true)) l.invariant.1 c.beaten_word.ensures,
)

pub returns : goal.returns
returns c = let l = c.loop-w in united_end _ _ _ _ _ l.w _ c.loop-w-test.false l.invariant.1

-- after the last word
pub returns-2 : goal.returns-2
returns-2 c = let l = c.loop-w in
    united_end _ _ _ _ _ (l.w + 64) _ (omega arith)
    (united_next _ _ _ _ _ _ _ _ l.invariant.0 (omega (arith, l.auto.dropped, c.requires.0, c.loop-w-test.true)) l.invariant.1 c.beaten_word.ensures)
