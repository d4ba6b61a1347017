-- The rest of the search finds what the whole does.
use mathlib.Core.Path.{sym, ◌∙◌}
use mathlib.Core.Bool.{So}
use Rattle.theory.proofs.Logic.BoolsLaws.{So_not}
use Rattle.theory.proofs.Logic.RangeLaws.{first_step, first_hit, first_end_lem}
use Rattle.table_convert.specs.ConvertCall.{oversize, first_oversize}
use Rattle.table_convert.specs.ConvertCallLaws.{oversize_in, oversize_out}
use native.Mathlib.Omega.{arith}
use Rattle.table_convert.proofs.writing.first_oversize.Goals as goal
use Rattle.table_convert.proofs.writing.first_oversize.Goals.{else-most-eq65535-via-then-most-eq65535+else-game-k-eq0, else-most-eq65535-via-else-most-eq65535}

-- word k isn't one: one of the tests failed
miss : (c : goal.Joined-else-most-eq65535) → So (oversize c.args.game.now c.loop-k.k) → ⊥
miss c h =
    let p = c.requires in
    let t = oversize_out _ _ h in
    elim c.else-most-eq65535.branch [
      | else-most-eq65535-via-then-most-eq65535+else-game-k-eq0 w ↦ w.if-game-k-eq0.false t.1
      | else-most-eq65535-via-else-most-eq65535 w ↦ w.if-most-eq65535.false (p.1 ∙ t.0)
    ]

pub loop-k-init : goal.loop-k-init
unfolding first_oversize
loop-k-init c = rw (← c.requires.0)

pub returns-then-game-k-eq0 : goal.returns-then-game-k-eq0
returns-then-game-k-eq0 c = let p = c.requires in
    sym (c.loop-k.invariant ∙ first_hit _ _ _ c.loop-k-test.true (oversize_in _ _ (sym p.1 ∙ c.if-most-eq65535.true) c.if-game-k-eq0.true))

pub loop-k-preserved : goal.loop-k-preserved
loop-k-preserved c = c.loop-k.invariant ∙ first_step _ _ _ c.loop-k-test.true (So_not (miss c))

pub returns : goal.returns
returns c = sym (c.loop-k.invariant ∙ first_end_lem _ _ _ c.loop-k-test.false ∙ omega arith)
