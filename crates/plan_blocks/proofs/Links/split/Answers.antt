-- Numbers that fit split the blocks; what is listed for a number bounds the priorities of its block.
use native.Mathlib.Omega.{arith}
use mathlib.Core.Path.{sym, ◌∙◌}
use Rattle.theory.proofs.Logic.RangeLaws.{all_out}
use Rattle.plan_blocks.specs.RefiningLaws.{split_confined, split_bounded}
use Rattle.plan_blocks.proofs.Links.split.Goals as goal

pub remove-requires : goal.remove-requires
remove-requires c =
    let fit = all_out (sym c.all_fit.ensures ∙ c.if-all_fit.true) in
    record {
      p_le_length = omega (arith, c.requires.p_le_length);
      confined = split_confined _ _ _ _ _ _ _ _ _ fit.at c.take_numbers.ensures c.requires.confined;
      bounded = split_bounded _ c.args.self.now.player _ _ _ _ _ _ _ fit.at c.take_numbers.ensures;
    }
