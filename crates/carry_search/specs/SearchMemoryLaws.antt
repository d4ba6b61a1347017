-- Laws of moves in the memory of a search.
use Rattle.std.specs.Prelude.{◌≡◌, refl, List, [], ◌∷◌, ◌++◌, ℕ, ◌+◌, ◌≤◌, ◌<◌, get_or, set}
use Rattle.std.proofs.Math.Path.{sym}
use Rattle.std.proofs.Common.{ap, ◌∙◌, arith, length-append, lt-ltb, le-ltb}
use Rattle.std.proofs.Math.ListN.{length, length-set}
use Rattle.theory.specs.Carry.BreadthFirst.{Found, number_of, visit, visits}
use Rattle.theory.proofs.Carry.BreadthFirstLaws.{visits_append}
use Rattle.table.specs.Limits.{position_limit}
use Rattle.carry_search.specs.Chains.{pairs_in, chain_of, Added}
use Rattle.carry_search.specs.PairsInLaws.{length_pairs_in, pairs_in_push}
use Rattle.carry_search.specs.ChainsLaws.{added_pairs, added_held}
use Rattle.carry_search.specs.SearchMemory.{Memory, memory, found_in, SearchRoom, Within, Moved}

module _ (p : ℕ) (m : Memory) (ready : SearchRoom p m) (within : Within m.pairs m.links) (k j w : ℕ) (hj : j < p) where
  number : ℕ
  number = number_of (pairs_in m.olds m.vertices m.pairs) j w

  links_more : pairs_in (set m.sources m.links k) (set m.targets m.links number) (m.links + 1)
      ≡ pairs_in m.sources m.targets m.links ++ ((k, number) ∷ [])
  links_more =
      pairs_in_push m.sources m.targets m.links k number (omega (arith, ready.sources, within.few_links))
      (omega (arith, ready.targets, within.few_links))

  found_by : {ps ls qs ks : List (ℕ × ℕ)} → ps ≡ qs → ls ≡ ks → ◌≡◌ {A = Found} (record { pairs = ps; links = ls }) (record { pairs = qs; links = ks })
  found_by e f = cc

  pub moved_found : (r : ℕ) → r ≡ number_of (pairs_in m.olds m.vertices m.pairs) j w → r < m.pairs
      → Moved k ((j, w) ∷ []) p m (memory m.olds m.vertices m.heads m.nexts (set m.sources m.links k) (set m.targets m.links r)
      m.pairs (m.links + 1))
  unfolding visits visit number
  moved_found r e h = record {
    found =
        found_by
        (rw (lt-ltb number (length (found_in m).pairs) (omega (arith, length_pairs_in m.olds m.vertices m.pairs))))
        (rw e links_more);
    ready = record {
      few = ready.few;
      olds = ready.olds;
      vertices = ready.vertices;
      heads = ready.heads;
      nexts = ready.nexts;
      sources = rw (length-set m.sources m.links k) ready.sources;
      targets = rw (length-set m.targets m.links r) ready.targets;
      pairs = ready.pairs;
      links = omega (arith, within.few_links);
      held = ready.held;
    };
  }

  pub moved_new : (r : ℕ) → r ≡ number_of (pairs_in m.olds m.vertices m.pairs) j w → m.pairs ≤ r → (olds vertices heads nexts : List ℕ)
      → Added m.pairs j w m.olds m.vertices m.heads m.nexts olds vertices heads nexts
      → Moved k ((j, w) ∷ []) p m (memory olds vertices heads nexts (set m.sources m.links k) (set m.targets m.links r) (m.pairs + 1)
      (m.links + 1))
  unfolding visits visit number
  moved_new r e h olds vertices heads nexts added =
      let hi : j < position_limit = omega (arith, ready.few) in
      let ho : m.pairs < length m.olds = omega (arith, ready.olds, within.few_pairs) in
      let hv : m.pairs < length m.vertices = omega (arith, ready.vertices, within.few_pairs) in
      let hn : m.pairs < length m.nexts = omega (arith, ready.nexts, within.few_pairs) in record {
        found =
            found_by
            (added_pairs _ _ _ _ _ _ _ _ _ _ _ ready.held added hi ho hv ready.heads hn
            ∙ sym (rw (le-ltb number (length (found_in m).pairs) (omega (arith, length_pairs_in m.olds m.vertices m.pairs)))))
            (rw e links_more);
        ready = record {
          few = ready.few;
          olds = rw (added.old, length-set m.olds m.pairs j) ready.olds;
          vertices = rw (added.vertex, length-set m.vertices m.pairs w) ready.vertices;
          heads = rw (added.head, length-set m.heads (chain_of j w) (m.pairs + 1)) ready.heads;
          nexts = rw (added.next, length-set m.nexts m.pairs (get_or m.heads (chain_of j w) 0)) ready.nexts;
          sources = rw (length-set m.sources m.links k) ready.sources;
          targets = rw (length-set m.targets m.links r) ready.targets;
          pairs = omega (arith, within.few_pairs);
          links = omega (arith, within.few_links);
          held = added_held _ _ _ _ _ _ _ _ _ _ _ ready.held added hi ho hv ready.heads hn (omega arith);
        };
      }

pub moved_none : (k p : ℕ) (m : Memory) → SearchRoom p m → Moved k [] p m m
unfolding visits
moved_none k p m r = record { found = refl; ready = r }

-- each move is a link
visits_length : (k : ℕ) (s : Found) (xs : List (ℕ × ℕ)) → length (visits k s xs).links ≡ length s.links + length xs
unfolding visits visit
visits_length k s [] = omega arith
visits_length k s (x ∷ xs) =
    omega (arith, visits_length k (visit k s x) xs, length-append s.links ((k, number_of s.pairs x.0 x.1) ∷ []))

pub moved_links : (k p : ℕ) (xs : List (ℕ × ℕ)) (m m' : Memory) → Moved k xs p m m' → m'.links ≡ m.links + length xs
moved_links k p xs m m' v =
    omega (
      arith,
      ap (λ (s : Found). length s.links) v.found,
      visits_length k (found_in m) xs,
      length_pairs_in m.sources m.targets m.links,
      length_pairs_in m'.sources m'.targets m'.links,
    )

-- moves after moves
pub moved_append : (k p : ℕ) (xs ys : List (ℕ × ℕ)) (m m' m'' : Memory) → Moved k xs p m m' → Moved k ys p m' m'' → Moved k (xs ++ ys) p m m''
moved_append k p xs ys m m' m'' a b = record {
  found = b.found ∙ ap (λ (s : Found). visits k s ys) a.found ∙ sym (visits_append k (found_in m) xs ys);
  ready = b.ready;
}
