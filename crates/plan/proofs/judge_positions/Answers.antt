-- The links of a well-formed plan are indexed, over zeros.
use native.Mathlib.Omega.{arith}
use Prim.Native.Nat.{◌+◌}
use Rattle.theory.proofs.Logic.ListLaws.{zeros}
use Rattle.table.specs.Limits.{position_limit}
use Rattle.plan.proofs.judge_positions.Goals as goal

pub index_links-requires : goal.index_links-requires
index_links-requires c = let formed = c.requires.formed in
    record { by_index = (_, formed); plan_in_bounds = (omega (arith, formed.sized.positions), formed.sized.links); by_index_2 = zeros (position_limit + 1) }

pub judge_indexed-requires : goal.judge_indexed-requires
judge_indexed-requires c = record { words_pass = c.requires; link_index = c.index_links.ensures }

pub returns : goal.returns
returns c = c.judge_indexed.ensures
