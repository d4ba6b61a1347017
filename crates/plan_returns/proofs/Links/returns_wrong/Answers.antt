-- The parity first, then the block: no return of the wrong parity starts in no block, and each stays in its own. No later stamp than i + 1.
use native.Mathlib.Omega.{arith}
use mathlib.Core.Path.{sym, ◌∙◌}
use Rattle.plan_returns.specs.ReturnSearchLaws.{wrong_right, wrong_returns, gone_returns, reaches_returns}
use Rattle.plan_returns.proofs.Links.returns_wrong.Goals as goal

pub returns-then-self-i : goal.returns-then-self-i
returns-then-self-i c = record { found_value = sym (wrong_right _ _ _ _ _ _ c.requires.workspace.2 c.if-self-i.true); no_later_2 = λ j. omega (arith, c.requires.no_later j) }

pub returns-then-blocks-i : goal.returns-then-blocks-i
returns-then-blocks-i c = record { found_value = sym (wrong_returns _ _ _ _ _ _ c.requires.workspace.2 c.if-self-i.false ∙ gone_returns _ _ _ _ _ _ c.requires.confined _ c.requires.workspace.1 c.if-self-i.false c.if-blocks-i.true); no_later_2 = λ j. omega (arith, c.requires.no_later j) }

pub returns : goal.returns
returns c =
    let e = c.requires in
    record {
      found_value = c.returns.ensures.found_value
          ∙ reaches_returns _ _ _ _ _ _ e.confined _ e.workspace.1 c.if-self-i.false
          ∙ sym (wrong_returns _ _ _ _ _ _ e.workspace.2 c.if-self-i.false);
      no_later_2 = c.returns.ensures.no_later_2;
    }
