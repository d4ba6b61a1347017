-- By the index and the priorities the returns are those of the definition. At first all positions are in one block.
use native.Mathlib.Omega.{arith}
use Prim.Native.Nat.{ℕ}
use mathlib.Core.Path.{◌∙◌}
use lib.ListN.{length-replicate}
use Rattle.theory.proofs.Logic.ListLaws.{zeros}
use Rattle.table.specs.Limits.{position_limit}
use Rattle.plan_returns.specs.ReturnSearchLaws.{first_return_same}
use Rattle.plan_returns.proofs.first_return.Goals as goal

pub first_returning-requires : goal.first_returning-requires
first_returning-requires c =
    let f = c.requires.words_pass.formed.sized in
    record {
      workspace = (
        record {
          index = (_, _, _, c.requires.link_index);
          few = f.positions;
          values = omega (arith, c.fill_priorities.auto.priorities, length-replicate {A = ℕ} position_limit 0, f.positions);
          grouped = f.positions;
          stamps = f.positions;
          entries = omega (arith, f.positions);
        },
        c.requires.words_pass.number,
      );
      by_index = zeros position_limit;
      by_index_2 = zeros position_limit;
    }

pub returns : goal.returns
returns c = c.first_returning.ensures
    ∙ first_return_same c.args.plan.now c.args.starts.now c.args.targets.now c.requires.link_index c.args.game.now _ c.args.player c.fill_priorities.ensures
