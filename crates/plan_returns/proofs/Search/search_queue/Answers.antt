-- Whatever is stamped is reached, and the links of i and of the first `head` positions in the queue were followed.
use native.Mathlib.Omega.{arith}
use Prim.Native.Nat.{ℕ, ◌<◌}
use mathlib.Core.Path.{refl, sym}
use mathlib.Core.List.{List}
use Rattle.std.specs.Prelude.{Bool}
use lib.ListN.{get_or}
use borrow.Author.Tests.{eq-eqb}
use Rattle.index.specs.IndexLaws.{indexed_size}
use Rattle.plan_returns.specs.Search.{stamped}
use Rattle.plan_returns.specs.SearchLaws.{queued_le, searched_more, searched_found, searched_all}
use Rattle.plan_returns.specs.ReturnSearchLaws.{workspace_room, passes_in}
use Rattle.plan_returns.proofs.Search.search_queue.Invariants.{Inv}
use Rattle.plan_returns.proofs.Search.search_queue.Goals as goal

-- the next position in the queue
record Next (queue : List ℕ) (p head : ℕ) : Type 0 where
  few : head < p
  below : get_or queue head 0 < p

next : {p : ℕ} {link : ℕ → ℕ → Bool} {pass : ℕ → Bool} {i stamp : ℕ} {seen queue : List ℕ} {head tail : ℕ}
    → Inv p link pass i stamp seen queue head tail
    → head < tail
    → Next queue p head
next {head = head} v l = record {
  few = omega (arith, queued_le _ _ _ _ _ v.searched.queued, l);
  below = v.searched.queued.inside head l;
}

pub loop-head-init : goal.loop-head-init
loop-head-init c = record { order = omega arith; searched = c.requires.searched }

pub returns-then-memory-self : goal.returns-then-memory-self
unfolding stamped
returns-then-memory-self c =
    let s = c.loop-head.invariant.searched in
    record { found_value = sym (searched_found _ _ _ _ _ _ _ _ _ s (eq-eqb _ _ c.if-memory-self.true)); no_later = s.queued.latest }

pub overflow_cast-j : goal.overflow_cast-j
overflow_cast-j c = omega (arith, (next c.loop-head.invariant c.loop-head-test.true).below, c.requires.workspace.0.few)

pub spend-left-requires : goal.spend-left-requires
spend-left-requires c = omega (arith, indexed_size c.requires.workspace.0.index, (next c.loop-head.invariant c.loop-head-test.true).below)

pub expand-tail-requires : goal.expand-tail-requires
expand-tail-requires c =
    let v = c.loop-head.invariant in
    record { workspace = (workspace_room c.requires.workspace.0 refl c.loop-head.memory.stamps c.loop-head.memory.entries, (next v c.loop-head-test.true).below); queued = v.searched.queued }

pub overflow_add-head : goal.overflow_add-head
overflow_add-head c = omega (arith, (next c.loop-head.invariant c.loop-head-test.true).few, c.requires.workspace.0.few)

pub loop-head-smaller : goal.loop-head-smaller
loop-head-smaller c = omega (arith, (next c.loop-head.invariant c.loop-head-test.true).few)

pub loop-head-preserved : goal.loop-head-preserved
loop-head-preserved c =
    let v = c.loop-head.invariant in
    let l : c.loop-head.head < c.loop-head.tail = c.loop-head-test.true in
    let step = c.expand-tail.ensures in
    record {
      order = omega (arith, step.longer, l);
      searched = searched_more _ _ _ _ _ _ _ _ _ v.searched l _ _ _ step;
    }

pub returns : goal.returns
unfolding stamped
returns c =
    let v = c.loop-head.invariant in
    let a = c.args.self.now in
    record {
      found_value = searched_all _ _ _ _ _ _ _ _ _ v.searched (passes_in _ _ _ _ _ (omega (arith, a.own_priority)) (sym a.own_block)) (omega (arith, v.order, c.loop-head-test.false));
      no_later = v.searched.queued.latest;
    }

pub offset_bounds-memory-head : goal.offset_bounds-memory-head
offset_bounds-memory-head c = omega (arith, (next c.loop-head.invariant c.loop-head-test.true).few, c.requires.workspace.0.few)

pub bounds-memory-head : goal.bounds-memory-head
bounds-memory-head c = omega (arith, (next c.loop-head.invariant c.loop-head-test.true).few, c.requires.workspace.0.few)
