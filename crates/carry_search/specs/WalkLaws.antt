-- The walk along a chain of pairs, in work memory.
use Rattle.std.specs.Prelude.{◌≡◌, List, ℕ, ◌+◌, ◌-◌, ◌≤◌, ◌<◌, get_or}
use Rattle.std.proofs.Common.{sym, ◌∙◌, arith}
use Rattle.theory.specs.Carry.BreadthFirst.{number_of}
use Rattle.table.specs.Limits.{position_limit}
use Rattle.carry_search.specs.declared.Counts.{Counts}
use Rattle.carry_search.specs.SearchMemory.{Memory, found_in, SearchRoom}
use Rattle.carry_search.specs.Chains.{chain_of}
use Rattle.carry_search.specs.ChainsLaws.{chain_lt, Walked, walk_start, walk_next, walk_less, walk_hit, walk_end}
use Rattle.carry_search.specs.Work.{pair_room, vertices_at, heads_at, nexts_at, memory_in}
use Rattle.carry_search.specs.WorkLaws.{get_d_part}

-- c is a place of the chain of (i, u), and that pair isn't from c on
abbrev pub Along : List ℕ → Counts → ℕ → ℕ → ℕ → Type 0
Along work counts i u c = Walked (memory_in work counts).olds (memory_in work counts).vertices counts.pairs i u c

module _ (p : ℕ) (work : List ℕ) (counts : Counts) (ready : SearchRoom p (memory_in work counts)) (i u : ℕ) where
  abbrev m : Memory
  m = memory_in work counts

  pub along_start : Along work counts i u (get_or work (heads_at + chain_of i u) 0)
  along_start =
      rw (← (get_d_part work heads_at position_limit (chain_of i u) (chain_lt i u)))
      (walk_start m.olds m.vertices m.heads m.nexts m.pairs ready.held i u)

  pub along_end : (c : ℕ) → c ≤ 0 → Along work counts i u c → counts.pairs ≡ number_of (found_in m).pairs i u
  along_end c h w = walk_end m.olds m.vertices m.heads m.nexts m.pairs ready.held i u c h w

  module _ (c : ℕ) (h : 0 < c) (w : Along work counts i u c) where
    -- the pair that stands there
    pub along_room : c - 1 < pair_room
    along_room = omega (arith, ready.pairs, w.within)

    vertex_is : get_or m.vertices (c - 1) 0 ≡ get_or work (vertices_at + (c - 1)) 0
    vertex_is = get_d_part work vertices_at pair_room (c - 1) along_room

    next_is : get_or m.nexts (c - 1) 0 ≡ get_or work (nexts_at + (c - 1)) 0
    next_is = get_d_part work nexts_at pair_room (c - 1) along_room

    pub along_hit : i < p → get_or work (vertices_at + (c - 1)) 0 ≡ u → c - 1 ≡ number_of (found_in m).pairs i u
    along_hit hi e =
        walk_hit m.olds m.vertices m.heads m.nexts m.pairs ready.held i u c (omega (arith, ready.few)) h w (vertex_is ∙ e)

    pub along_less : get_or work (nexts_at + (c - 1)) 0 < c
    along_less =
        omega (arith, next_is, walk_less m.olds m.vertices m.heads m.nexts m.pairs ready.held c h w.within)

    pub along_next : (get_or work (vertices_at + (c - 1)) 0 ≡ u → ⊥) → Along work counts i u (get_or work (nexts_at + (c - 1)) 0)
    along_next other =
        rw (← next_is)
        (walk_next m.olds m.vertices m.heads m.nexts m.pairs ready.held i u c h w (λ e. other (sym vertex_is ∙ e)))
