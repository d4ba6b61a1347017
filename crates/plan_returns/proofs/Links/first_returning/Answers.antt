-- The rest of the search equals the whole; no stamp is above i; blocks confine the closed walks of the wrong parity.
use native.Mathlib.Omega.{arith}
use mathlib.Core.Path.{refl, sym, ◌∙◌}
use Rattle.theory.proofs.Logic.RangeLaws.{first_step, first_hit, first_end_lem}
use Rattle.plan_blocks.specs.BlocksLaws.{confined_one}
use Rattle.plan_returns.specs.ReturnSearch.{wrong_by}
use Rattle.plan_returns.specs.ReturnSearchLaws.{workspace_room}
use Rattle.plan_returns.proofs.Links.first_returning.Goals as goal

pub loop-i-init : goal.loop-i-init
loop-i-init c = record {
  latest = λ j. omega (arith, c.requires.by_index j);
  confined = confined_one _ _ _ _ _ c.requires.by_index_2;
  rest = refl;
}

pub returns_wrong-outcome-requires : goal.returns_wrong-outcome-requires
returns_wrong-outcome-requires c = let l = c.loop-i in
    record {
      workspace = (workspace_room c.requires.workspace.0 l.auto.blocks l.memory.stamps l.memory.entries, c.loop-i-test.true, c.requires.workspace.1);
      no_later = l.invariant.latest;
      confined = l.invariant.confined;
    }

pub returns-then-outcome : goal.returns-then-outcome
returns-then-outcome c = sym (c.loop-i.invariant.rest ∙ first_hit _ _ _ c.loop-i-test.true (sym c.returns_wrong-outcome.ensures.found_value ∙ c.if-outcome.true))

pub renew-left-requires : goal.renew-left-requires
renew-left-requires c = record { p_le_position_limit = (c.requires.workspace.0.few, omega (arith, c.loop-i.auto.blocks, c.requires.workspace.0.grouped)); confined = c.loop-i.invariant.confined }

pub loop-i-preserved : goal.loop-i-preserved
loop-i-preserved c = let i = c.loop-i.invariant in
    record {
      latest = c.returns_wrong-outcome.ensures.no_later_2;
      confined = c.renew-left.ensures;
      rest = i.rest ∙ first_step _ _ _ c.loop-i-test.true (sym c.returns_wrong-outcome.ensures.found_value ∙ c.if-outcome.false);
    }

pub returns : goal.returns
returns c = omega (arith, c.loop-i.invariant.rest, first_end_lem (wrong_by c.args.self.now.starts.now c.args.self.now.targets.now c.args.self.now.priorities.now c.args.self.now.p c.args.self.now.player) _ _ c.loop-i-test.false)
