-- The work memory of a search: one list of words, and where each part of the memory stands in it.
use Rattle.std.specs.Prelude.{List, ℕ, ◌+◌, get_or, set, take, drop}
use Rattle.table.specs.Limits.{position_limit, link_limit}
use Rattle.carry_search.specs.declared.Counts.{Counts}
use Rattle.carry_search.specs.Chains.{chain_of}
use Rattle.carry_search.specs.SearchMemory.{Memory, memory}

-- ---- places

-- one pair and one link more than a plan may have
abbrev pub pair_room : ℕ
pair_room = position_limit + 1

abbrev pub link_room : ℕ
link_room = link_limit + 1

-- where the parts start, and the length of all. The code has them as constants of `places`.
abbrev pub olds_at : ℕ
olds_at = 0

abbrev pub vertices_at : ℕ
vertices_at = olds_at + pair_room

abbrev pub heads_at : ℕ
heads_at = vertices_at + pair_room

abbrev pub nexts_at : ℕ
nexts_at = heads_at + position_limit

abbrev pub sources_at : ℕ
sources_at = nexts_at + pair_room

abbrev pub targets_at : ℕ
targets_at = sources_at + link_room

abbrev pub work_length : ℕ
work_length = targets_at + link_room

-- ---- parts

-- so many words from a place on
unfoldable pub part : List ℕ → ℕ → ℕ → List ℕ
part work at size = take size (drop at work)

-- the memory of a search, in its work memory
abbrev pub memory_in : List ℕ → Counts → Memory
memory_in work counts =
    memory (part work olds_at pair_room) (part work vertices_at pair_room) (part work heads_at position_limit) (part work nexts_at pair_room)
    (part work sources_at link_room) (part work targets_at link_room) counts.pairs counts.links

-- pair k
abbrev pub stored_pair : List ℕ → ℕ → ℕ × ℕ
stored_pair work k = (get_or work (olds_at + k) 0, get_or work (vertices_at + k) 0)

-- ---- stores

-- a link from pair k to pair r
abbrev pub link_stored : List ℕ → ℕ → ℕ → ℕ → List ℕ
link_stored work links k r = set (set work (sources_at + links) k) (targets_at + links) r

-- the pair (i, u), at the head of its chain
abbrev pub pair_stored : List ℕ → ℕ → ℕ → ℕ → List ℕ
pair_stored work pairs i u =
    set (set (set (set work (olds_at + pairs) i) (vertices_at + pairs) u) (nexts_at + pairs) (get_or work (heads_at + chain_of i u) 0))
    (heads_at + chain_of i u) (pairs + 1)

-- the same in the memory of a search, without the counts
abbrev pub with_link : Memory → ℕ → ℕ → ℕ → Memory
with_link m links k r = memory m.olds m.vertices m.heads m.nexts (set m.sources links k) (set m.targets links r) m.pairs m.links

abbrev pub with_pair : Memory → ℕ → ℕ → ℕ → Memory
with_pair m pairs i u =
    memory (set m.olds pairs i) (set m.vertices pairs u) (set m.heads (chain_of i u) (pairs + 1))
    (set m.nexts pairs (get_or m.heads (chain_of i u) 0)) m.sources m.targets m.pairs m.links
