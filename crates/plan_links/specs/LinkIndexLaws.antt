-- Laws of an index of links.
use Rattle.std.specs.Prelude.{◌≡◌, Bool, List, ℕ, ◌+◌, ◌≤◌, ◌<◌, length, get_or}
use Rattle.std.proofs.Common.{arith}
use Rattle.index.specs.declared.Run.{Run}
use Rattle.index.specs.Index.{Column, Indexed, run_of, among}
use Rattle.index.specs.IndexLaws.{among_any, indexed_order, indexed_within, indexed_below}
use Rattle.plan_links.specs.PlanTable.{position_count, link_count, any_link}
use Rattle.plan_links.specs.PlanFormed.{PlanFormed}
use Rattle.plan_links.specs.LinkIndex.{LinkIndex}

pub link_sources : {n : ℕ} {w : List ℕ} → PlanFormed n w → Column w (2 + position_count w) (link_count w) (position_count w)
link_sources formed = record { few = formed.sized.links; inside = omega (arith, formed.sized.size); below = formed.sources }

pub link_targets : {n : ℕ} {w : List ℕ} → PlanFormed n w → Column w (2 + position_count w + link_count w) (link_count w) (position_count w)
link_targets formed = record { few = formed.sized.links; inside = omega (arith, formed.sized.size); below = formed.targets }

-- some target in the group of position i passes exactly if some link of i leads to such a position
pub among_link : (w : List ℕ) {starts targets : List ℕ} → LinkIndex w starts targets → (i : ℕ) → i < position_count w → (q : ℕ → Bool) → among starts targets i q ≡ any_link w i q
unfolding any_link
among_link w ix i h q = among_any ix i h q

-- ---- a place in the group of v, in an index whatever its entries are

pub record Target (n : ℕ) (targets : List ℕ) (t : ℕ) : Type 0 where
  pub inside : t < length targets
  pub below : get_or targets t 0 < n

pub indexed_target : {n : ℕ} {starts targets : List ℕ} → Indexed n starts targets → (v t : ℕ) → v < n → get_or starts v 0 ≤ t → t < get_or starts (v + 1) 0 → Target n targets t
indexed_target index v t h a b = record { inside = omega (arith, indexed_within index (v + 1) (omega arith)); below = indexed_below index v t h a b }

-- the same of a walk over the group, in the code's struct, and where it ends
module _ {n v t : ℕ} {starts targets : List ℕ} {run : Run} (index : Indexed n starts targets) (h : v < n) (e : run ≡ run_of starts v) where
  pub run_target : run.from ≤ t → t < run.end → Target n targets t
  run_target from end = indexed_target index v t h (rw e at from) (rw e at end)

  pub run_end : (run.from ≤ run.end → t ≤ run.end) → run.end ≤ t → t ≡ get_or starts (v + 1) 0
  run_end inside left =
      let d : t ≡ run.end = omega (arith, inside (rw e (indexed_order index v h)), left) in
      rw e at d
