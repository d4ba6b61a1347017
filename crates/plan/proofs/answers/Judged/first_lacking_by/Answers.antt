-- The rest of the search equals the whole; no stamp is above i.
use native.Mathlib.Omega.{arith}
use mathlib.Core.Path.{refl, sym, ◌∙◌}
use Rattle.theory.proofs.Logic.RangeLaws.{first_step, first_hit, first_end_lem}
use Rattle.plan.specs.Acceptance.{lacks_link, first_lacking_link}
use Rattle.plan.specs.AnswerLaws.{space_kept}
use Rattle.plan.proofs.answers.Judged.first_lacking_by.Goals as goal

pub loop-i-init : goal.loop-i-init
loop-i-init c = record { latest = λ x. omega (arith, c.requires.by_index x); rest = refl }

pub lacks_link-requires : goal.lacks_link-requires
lacks_link-requires c = record { lack_space = space_kept c.requires.lack_space c.loop-i.auto.stamps; i_bound = c.loop-i-test.true; no_later = c.loop-i.invariant.latest }

pub returns-then-lacks_link : goal.returns-then-lacks_link
unfolding first_lacking_link
returns-then-lacks_link c = sym (c.loop-i.invariant.rest ∙ first_hit _ _ _ c.loop-i-test.true (sym c.lacks_link.ensures.value ∙ c.if-lacks_link.true))

pub loop-i-preserved : goal.loop-i-preserved
loop-i-preserved c = let i = c.loop-i.invariant in
    record {
      latest = c.lacks_link.ensures.no_later_2;
      rest = i.rest ∙ first_step _ _ _ c.loop-i-test.true (sym c.lacks_link.ensures.value ∙ c.if-lacks_link.false);
    }

pub returns : goal.returns
unfolding first_lacking_link
returns c = omega (arith, c.loop-i.invariant.rest, first_end_lem (lacks_link c.args.self.now.game.now c.args.self.now.player c.args.self.now.plan.now) _ _ c.loop-i-test.false)
