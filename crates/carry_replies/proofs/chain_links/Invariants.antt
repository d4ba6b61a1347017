use Rattle.plan_links.specs.PlanTable.{position_count, link_count, link_source}
use Rattle.carry_replies.specs.ChainLaws.{Chained}
use Rattle.carry_replies.proofs.chain_links.Given as goal

abbrev pub invariant-loop-k : goal.invariant-loop-k
invariant-loop-k l = Chained (link_source l.plan) (link_count l.plan) (position_count l.plan) l.firsts l.follow l.k
