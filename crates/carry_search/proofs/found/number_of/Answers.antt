-- The walk passes the pairs of the chain from the latest back. None from c on is the one looked for.
use Prim.Native.Nat.{◌+◌, ◌-◌}
use native.Mathlib.Omega.{arith}
use Rattle.carry_search.specs.Work.{heads_at, nexts_at}
use Rattle.carry_search.specs.WorkLaws.{ready_long}
use Rattle.carry_search.specs.WalkLaws.{along_start, along_room, along_hit, along_less, along_next, along_end}
use Rattle.carry_search.proofs.found.number_of.Goals as goal

pub chain_of-requires : goal.chain_of-requires
chain_of-requires c = omega (arith, c.requires.0.few, c.requires.1)

pub bounds-work-chain_of : goal.bounds-work-chain_of
bounds-work-chain_of c = omega (arith, ready_long _ _ _ c.requires.0, c.chain_of.ensures.1)

pub overflow_cast-c : goal.overflow_cast-c
overflow_cast-c c = omega (arith, c.shared_slice_known-2-1.given (heads_at + c.chain_of.result))

pub loop-c-init : goal.loop-c-init
loop-c-init c = rw c.chain_of.ensures.0 (along_start _ _ _ c.requires.0 _ _)

pub bounds-work-k : goal.bounds-work-k
bounds-work-k c = let ready = c.requires.0 in
    let l = c.loop-c in
    omega (arith, ready_long _ _ _ ready, along_room _ _ _ ready _ _ l.c c.loop-c-test.true l.invariant)

pub returns-then-work-k : goal.returns-then-work-k
returns-then-work-k c = let l = c.loop-c in
    along_hit _ _ _ c.requires.0 _ _ l.c c.loop-c-test.true l.invariant c.requires.1 c.if-work-k.true

pub bounds-work-k-in-loop-c : goal.bounds-work-k-in-loop-c
bounds-work-k-in-loop-c c = let ready = c.requires.0 in
    let l = c.loop-c in
    omega (arith, ready_long _ _ _ ready, along_room _ _ _ ready _ _ l.c c.loop-c-test.true l.invariant)

pub overflow_cast-c-in-loop-c : goal.overflow_cast-c-in-loop-c
overflow_cast-c-in-loop-c c = omega (arith, c.shared_slice_known-in-loop-c-2-1.given (nexts_at + (c.loop-c.c - 1)))

pub loop-c-smaller : goal.loop-c-smaller
loop-c-smaller c = let l = c.loop-c in
    along_less _ _ _ c.requires.0 _ _ l.c c.loop-c-test.true l.invariant

pub loop-c-preserved : goal.loop-c-preserved
loop-c-preserved c = let l = c.loop-c in
    along_next _ _ _ c.requires.0 _ _ l.c c.loop-c-test.true l.invariant c.if-work-k.false

pub returns : goal.returns
returns c = let l = c.loop-c in
    along_end _ _ _ c.requires.0 _ _ l.c c.loop-c-test.false l.invariant
