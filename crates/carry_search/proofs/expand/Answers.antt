-- The moves to the vertices below w are made, and w is the next successor. The player's one move is a link more, which ends the loop.
use mathlib.Core.Logic.{inl, inr}
use Prim.Native.Nat.{◌+◌, ◌≤◌}
use native.Mathlib.Omega.{arith}
use Rattle.theory.specs.Carry.Carry.{moves_below}
use Rattle.table.specs.Table.{vertex_count}
use Rattle.carry_replies.specs.SuccessorLaws.{successor_le, successor_ge}
use Rattle.carry_search.specs.SearchMemory.{Within}
use Rattle.carry_search.specs.SearchMemoryLaws.{moved_none}
use Rattle.carry_search.specs.ExpandLaws.{expandable_long, moved_on, moved_more, most_within, moved_few, expanded_pair}
use Rattle.carry_search.proofs.expand.Goals as goal

pub bounds-work-k : goal.bounds-work-k
bounds-work-k c = omega (arith, expandable_long c.requires.expandable)

pub bounds-work-k-2 : goal.bounds-work-k-2
bounds-work-k-2 c = expandable_long c.requires.expandable

pub loop-w-init : goal.loop-w-init
unfolding moves_below
loop-w-init c = let flags = c.requires.readable.flags in
    let hu = c.requires.expandable.inside.new_lt in
    let f = c.next_successor-w.ensures in (
      successor_le _ _ flags _ 0 _ hu (omega arith) f,
      moved_on _ _ _ _ _ _ _ _ _ _ _ flags 0 _ hu (omega arith) f (moved_none _ _ _ c.requires.expandable.ready),
      omega (arith, most_within _ _ _ _ _ c.most_links-most.ensures c.requires.expandable.within.few_links),
    )

pub returns-then-found-gt-POSITIONS : goal.returns-then-found-gt-POSITIONS
returns-then-found-gt-POSITIONS c = let l = c.loop-w in
    expanded_pair _ _ _ _ _ _ _ _ _ _ l.w l.invariant.0 l.invariant.1 _ c.most_links-most.ensures l.invariant.2 (inr elim c.then-found-gt-POSITIONS.either [ inl a ↦ inl a | inr b ↦ inr b.1 ])

pub step-found-requires : goal.step-found-requires
step-found-requires c = let x = c.requires.expandable in
    let b = most_within _ _ _ _ _ c.most_links-most.ensures x.within.few_links in
    let within : Within c.loop-w.found.pairs c.loop-w.found.links = record { few_pairs = c.if-found-gt-POSITIONS.false; few_links = omega (arith, c.if-most-found.false, b) } in record { readable = c.requires.readable; search_room = (c.loop-w.invariant.1.ready, within, omega (arith, x.within.few_pairs, x.found)); i_bound = (x.inside.old_lt, x.inside.new_lt, c.loop-w-test.true) }

pub loop-w-smaller : goal.loop-w-smaller
loop-w-smaller c = let h = c.loop-w-test.true in
    omega (arith, h, successor_ge _ _ c.requires.readable.flags _ (c.loop-w.w + 1) _ c.requires.expandable.inside.new_lt (omega (arith, h)) c.next_successor-w-in-loop-w.ensures)

pub loop-w-preserved : goal.loop-w-preserved
loop-w-preserved c = let l = c.loop-w in
    let flags = c.requires.readable.flags in
    let hu = c.requires.expandable.inside.new_lt in
    let h : l.w + 1 ≤ vertex_count c.args.replies.now.seated.game.now = omega (arith, c.loop-w-test.true) in
    let f = c.next_successor-w-in-loop-w.ensures in
    let s = c.step-found in (
      successor_le _ _ flags _ (l.w + 1) _ hu h f,
      moved_more _ _ _ _ _ _ _ _ _ _ _ _ flags l.w _ hu c.loop-w-test.true f l.invariant.1 s.ensures,
      omega (arith, c.if-most-found.false, moved_few _ _ _ _ _ _ _ _ _ _ _ s.ensures),
    )

pub returns : goal.returns
returns c = let l = c.loop-w in
    expanded_pair _ _ _ _ _ _ _ _ _ _ l.w l.invariant.0 l.invariant.1 _ c.most_links-most.ensures l.invariant.2 (inl c.loop-w-test.false)
