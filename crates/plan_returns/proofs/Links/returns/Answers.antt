-- The search begins with the links of i: whatever is stamped then is reached.
use native.Mathlib.Omega.{arith}
use mathlib.Core.Path.{refl}
use Rattle.index.specs.IndexLaws.{indexed_size}
use Rattle.plan_returns.specs.SearchLaws.{queued_none, searched_none}
use Rattle.plan_returns.specs.ReturnSearchLaws.{workspace_room}
use Rattle.plan_returns.proofs.Links.returns.Goals as goal

pub expand-tail-requires : goal.expand-tail-requires
expand-tail-requires c = record { workspace = c.requires.workspace; queued = queued_none _ _ _ _ (λ j. omega (arith, c.requires.no_later j)) }

pub spend-left-requires : goal.spend-left-requires
spend-left-requires c = omega (arith, indexed_size c.requires.workspace.0.index, c.requires.workspace.1)

pub search_queue-requires : goal.search_queue-requires
search_queue-requires c =
    let w = c.requires.workspace.0 in
    let k = c.expand-tail in
    record {
      workspace = (workspace_room w refl k.new.memory.stamps k.new.memory.entries, c.requires.workspace.1);
      searched = searched_none _ _ _ _ _ c.args.memory.now.seen c.args.memory.now.queue (λ j. omega (arith, c.requires.no_later j)) _ _ _ k.ensures;
    }

pub returns : goal.returns
returns c = record { found_value = c.search_queue.ensures.found_value; no_later_2 = c.search_queue.ensures.no_later }
