-- The two ways out: the pair was found before, or it is new.
use mathlib.Core.Path.{◌∙◌}
use Prim.Native.Nat.{◌+◌, ◌<◌}
use native.Mathlib.Omega.{arith}
use lib.ListN.{length, length-set}
use Rattle.theory.proofs.Carry.BreadthFirstLaws.{number_le}
use Rattle.carry_search.specs.PairsInLaws.{length_pairs_in}
use Rattle.carry_search.specs.SearchMemory.{Memory, found_in}
use Rattle.carry_search.specs.Work.{targets_at, memory_in}
use Rattle.carry_search.specs.WorkLaws.{ready_long, visited_found, visited_new}
use Rattle.carry_search.proofs.found.visit.Goals as goal
use Rattle.carry_search.proofs.found.visit.Lts as lts
use Rattle.carry_search.proofs.found.visit.Reads as reads
use Rattle.carry_search.proofs.found.visit.Tie as tie

-- both words of the link are in work memory
link_room_lem : (e : lts.Start tie.the-claims reads.Pre reads.Post tie.handed_clauses) → targets_at + e.args.counts.links < length e.args.work.now
link_room_lem e = omega (arith, ready_long _ _ _ e.requires.search_room.0, e.requires.search_room.1.few_links)

pub bounds-work-links : goal.bounds-work-links
bounds-work-links c = omega (arith, link_room_lem c.before.before)

pub overflow_cast-work-2 : goal.overflow_cast-work-2
overflow_cast-work-2 c = let m : Memory = memory_in c.args.work.now c.args.counts in
    let l = length_pairs_in m.olds m.vertices m.pairs in
    omega (arith, c.number_of-number.ensures, number_le (found_in m).pairs c.args.j c.args.w, l, c.requires.search_room.1.few_pairs)

pub bounds-work-links-2 : goal.bounds-work-links-2
bounds-work-links-2 c = simp length-set (link_room_lem c.before.before)

pub returns-then-number-pairs : goal.returns-then-number-pairs
returns-then-number-pairs c = visited_found _ _ _ c.requires.search_room.0 c.requires.search_room.1 _ _ _ c.requires.k_le_position_limit.1 _ c.number_of-number.ensures c.if-number-pairs.true

pub add_pair-requires : goal.add_pair-requires
add_pair-requires c = let ready = c.requires.search_room.0 in
    (c.requires.search_room.1.few_pairs, omega (arith, c.requires.k_le_position_limit.1, ready.few), simp length-set (ready_long _ _ _ ready))

pub shape_of-work : goal.shape_of-work
shape_of-work c = c.add_pair.auto.work ∙ simp length-set

pub returns : goal.returns
returns c = visited_new _ _ _ c.requires.search_room.0 c.requires.search_room.1 _ _ _ c.requires.k_le_position_limit.1 _ c.number_of-number.ensures c.if-number-pairs.false _ c.add_pair.ensures
