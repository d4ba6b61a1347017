-- The edges before the first copy are listed first. Invariant: with these, the others of the first j edges are listed; behind the last copy, j may
-- be one more than m.
use Rattle.std.proofs.Common.{◌≡◌, ◌≤◌, List, ℕ, arith, rules}
use Prim.Native.Nat.{min}
use Rattle.table.specs.Table.{table_edges}
use Rattle.table.specs.Listing.{Appended}
use Rattle.table.specs.ListingLaws.{appended_join}
use Rattle.edit_rules.specs.Edges.{edges_in, others}
use Rattle.edit_rules.proofs.SearchLaws.{edges_below, others_few, others_start, part_low, part_high, others_part}
use Rattle.edit_rules.proofs.listing.list_others.Goals as goal

-- of the first j edges, at most j are listed
few : (g : List ℕ) (s t j m e : ℕ) (S S' E E' : List ℕ) → Appended (others s t (edges_below g (min j m))) 0 S S' E E' e → e ≤ j
few g s t j m e S S' E E' h = omega (arith, h.count, others_few g s t (min j m))

pub list_part-e-requires : goal.list_part-e-requires
list_part-e-requires c =
    let p = c.requires.m_in_bounds in
    let h = part_high _ _ _ _ _ (omega arith) _ c.requires.formed.1 in
    record {
      formed = (c.requires.formed.0, omega arith, h);
      b_in_bounds = (omega (arith, h, p), omega (arith, h, p), omega arith);
    }

pub overflow_add-j : goal.overflow_add-j
overflow_add-j c =
    let f = c.requires.formed.0 in
    omega (arith, part_high _ _ _ _ _ (omega arith) _ c.requires.formed.1, f.edges, f.well.edges)

pub loop-j-init : goal.loop-j-init
loop-j-init c =
    let a = c.args in
    let low : 0 ≤ a.m = omega arith in
    let none = others_few a.table.now a.s a.t 0 in (
      omega (arith, part_high _ _ _ _ _ low _ c.requires.formed.1),
      search rules,
      search rules,
      λ S E hS hE listed.
          rw (others_part _ _ _ _ _ low _ c.requires.formed.1)
          (appended_join _ _ _ _ _ _ _ _ _ _ _ (omega (arith, none, hS)) (omega (arith, none, hE)) (others_start a.table.now _ _ S E) listed),
    )

pub find_edge-k-requires : goal.find_edge-k-requires
find_edge-k-requires c = (c.requires.formed.0, omega (arith, c.loop-j-test.true))

pub list_part-e-requires-in-loop-j : goal.list_part-e-requires-in-loop-j
list_part-e-requires-in-loop-j c =
    let l = c.loop-j in
    let p = c.requires.m_in_bounds in
    let below : l.j ≤ c.args.m = omega (arith, c.loop-j-test.true) in
    let low = part_low _ _ _ _ _ below _ c.find_edge-k.ensures in
    let high = part_high _ _ _ _ _ below _ c.find_edge-k.ensures in
    let few = few _ _ _ _ _ _ _ _ _ _ (l.invariant.3 _ _ p.0 p.1 c.list_part-e.ensures) in
    let kept = c.list_part-e.auto in
    record {
      formed = (c.requires.formed.0, low, high);
      b_in_bounds = (omega (arith, few, high, l.invariant.1, kept, p), omega (arith, few, high, l.invariant.2, kept, p), few);
    }

pub overflow_add-j-in-loop-j : goal.overflow_add-j-in-loop-j
overflow_add-j-in-loop-j c =
    let f = c.requires.formed.0 in
    omega (arith, part_high _ _ _ _ _ (omega (arith, c.loop-j-test.true)) _ c.find_edge-k.ensures, f.edges, f.well.edges)

pub loop-j-smaller : goal.loop-j-smaller
loop-j-smaller c =
    let below : c.loop-j.j ≤ c.args.m = omega (arith, c.loop-j-test.true) in
    omega (arith, part_low _ _ _ _ _ below _ c.find_edge-k.ensures, part_high _ _ _ _ _ below _ c.find_edge-k.ensures)

pub loop-j-preserved : goal.loop-j-preserved
loop-j-preserved c =
    let a = c.args in
    let l = c.loop-j in
    let below : l.j ≤ a.m = omega (arith, c.loop-j-test.true) in
    let here : min l.j a.m ≡ l.j = omega (arith, below) in
    let count = others_few a.table.now a.s a.t l.j in (
      omega (arith, part_high _ _ _ _ _ below _ c.find_edge-k.ensures),
      omega (arith, c.list_part-e-in-loop-j.auto, l.invariant.1),
      omega (arith, c.list_part-e-in-loop-j.auto, l.invariant.2),
      λ S E hS hE first.
          rw (others_part _ _ _ _ _ below _ c.find_edge-k.ensures)
          (appended_join _ _ _ _ _ _ _ _ _ _ _ (omega (arith, count, hS, below)) (omega (arith, count, hE, below)) (rw here at (l.invariant.3 S E hS hE first))
          c.list_part-e-in-loop-j.ensures),
    )

pub returns : goal.returns
unfolding edges_in
returns c =
    let l = c.loop-j in
    let p = c.requires.m_in_bounds in
    let e : min l.j c.args.m ≡ table_edges c.args.table.now = omega (arith, c.requires.formed.0.edges) in
    rw e at (l.invariant.3 _ _ p.0 p.1 c.list_part-e.ensures)
