-- Laws of the work memory: a store changes one part of it.
use Rattle.std.specs.Prelude.{◌≡◌, refl, ◌⊎◌, List, [], ◌∷◌, ℕ, ◌+◌, ◌-◌, ◌≤◌, ◌<◌, length, get_or, set, drop}
use Rattle.std.proofs.Common.{sym, ap, ◌∙◌, subst, inl, inr, length-take, length-drop, drop-set-lt}
use native.Mathlib.Omega.{arith}
use Rattle.std.proofs.Math.Seq.{get_or-take, get_or-drop, take-set-lt, drop-set-add}
use Rattle.std.proofs.lemmas.List.{take-set-le}
use Rattle.theory.specs.Carry.BreadthFirst.{number_of}
use Rattle.table.specs.Limits.{position_limit}
use Rattle.carry_search.specs.declared.Counts.{Counts}
use Rattle.carry_search.specs.Chains.{chain_of}
use Rattle.carry_search.specs.ChainsLaws.{chain_lt}
use Rattle.carry_search.specs.SearchMemory.{Memory, memory, found_in, SearchRoom, Within, Moved}
use Rattle.carry_search.specs.SearchMemoryLaws.{moved_found, moved_new}
use Rattle.carry_search.specs.Work.{pair_room, link_room, olds_at, vertices_at, heads_at, nexts_at, sources_at, targets_at, work_length}
use Rattle.carry_search.specs.Work.{part, memory_in, stored_pair, link_stored, pair_stored, with_link, with_pair}

-- ---- a part

module _ (work : List ℕ) (at size : ℕ) where
  pub length_part : at + size ≤ length work → length (part work at size) ≡ size
  unfolding part
  length_part h = simp (length-take, length-drop) (omega arith)

  part_fits : 0 < size → size ≤ length (part work at size) → at + size ≤ length work
  unfolding part
  part_fits h l = omega (arith, simp (length-take, length-drop) at l)

  pub get_d_part : (i : ℕ) → i < size → get_or (part work at size) i 0 ≡ get_or work (at + i) 0
  unfolding part
  get_d_part i h = get_or-take size (drop at work) i 0 h ∙ get_or-drop at work i 0

  -- a store in the part
  part_set : (i x : ℕ) → i < size → part (set work (at + i) x) at size ≡ set (part work at size) i x
  unfolding part
  part_set i x h = rw (drop-set-add at work i x) (take-set-lt size (drop at work) i x h)

  -- a store before or behind it
  part_other : (i x : ℕ) → (i < at) ⊎ (at + size ≤ i) → part (set work i x) at size ≡ part work at size
  unfolding part
  part_other i x (inl h) = rw (drop-set-lt at work i x h)
  part_other i x (inr h) =
      let e : i ≡ at + (i - at) = omega arith in
      rw (e, drop-set-add at work (i - at) x) (take-set-le size (drop at work) (i - at) x (omega arith))

-- ---- one store

memory_by : {o o' v v' h h' n n' s s' t t' : List ℕ} {c d : ℕ} → o ≡ o' → v ≡ v' → h ≡ h' → n ≡ n' → s ≡ s' → t ≡ t'
    → memory o v h n s t c d ≡ memory o' v' h' n' s' t' c d
memory_by ho hv hh hn hs ht = cc

module _ (work : List ℕ) (counts : Counts) where
  abbrev m : Memory
  m = memory_in work counts

  other : (i x at size : ℕ) → (i < at) ⊎ (at + size ≤ i) → part (set work i x) at size ≡ part work at size
  other i x at size h = part_other work at size i x h

  store_old : (i x : ℕ) → i < pair_room → memory_in (set work (olds_at + i) x) counts
      ≡ memory (set m.olds i x) m.vertices m.heads m.nexts m.sources m.targets m.pairs m.links
  store_old i x h =
      memory_by (part_set work olds_at pair_room i x h) (other _ x vertices_at pair_room (inl (omega arith))) (other _ x heads_at position_limit (inl (omega arith)))
      (other _ x nexts_at pair_room (inl (omega arith))) (other _ x sources_at link_room (inl (omega arith))) (other _ x targets_at link_room (inl (omega arith)))

  store_vertex : (i x : ℕ) → i < pair_room → memory_in (set work (vertices_at + i) x) counts
      ≡ memory m.olds (set m.vertices i x) m.heads m.nexts m.sources m.targets m.pairs m.links
  store_vertex i x h =
      memory_by (other _ x olds_at pair_room (inr (omega arith))) (part_set work vertices_at pair_room i x h) (other _ x heads_at position_limit (inl (omega arith)))
      (other _ x nexts_at pair_room (inl (omega arith))) (other _ x sources_at link_room (inl (omega arith))) (other _ x targets_at link_room (inl (omega arith)))

  store_head : (i x : ℕ) → i < position_limit → memory_in (set work (heads_at + i) x) counts
      ≡ memory m.olds m.vertices (set m.heads i x) m.nexts m.sources m.targets m.pairs m.links
  store_head i x h =
      memory_by (other _ x olds_at pair_room (inr (omega arith))) (other _ x vertices_at pair_room (inr (omega arith))) (part_set work heads_at position_limit i x h)
      (other _ x nexts_at pair_room (inl (omega arith))) (other _ x sources_at link_room (inl (omega arith))) (other _ x targets_at link_room (inl (omega arith)))

  store_next : (i x : ℕ) → i < pair_room → memory_in (set work (nexts_at + i) x) counts
      ≡ memory m.olds m.vertices m.heads (set m.nexts i x) m.sources m.targets m.pairs m.links
  store_next i x h =
      memory_by (other _ x olds_at pair_room (inr (omega arith))) (other _ x vertices_at pair_room (inr (omega arith)))
      (other _ x heads_at position_limit (inr (omega arith))) (part_set work nexts_at pair_room i x h)
      (other _ x sources_at link_room (inl (omega arith))) (other _ x targets_at link_room (inl (omega arith)))

  store_source : (i x : ℕ) → i < link_room → memory_in (set work (sources_at + i) x) counts
      ≡ memory m.olds m.vertices m.heads m.nexts (set m.sources i x) m.targets m.pairs m.links
  store_source i x h =
      memory_by (other _ x olds_at pair_room (inr (omega arith))) (other _ x vertices_at pair_room (inr (omega arith)))
      (other _ x heads_at position_limit (inr (omega arith))) (other _ x nexts_at pair_room (inr (omega arith)))
      (part_set work sources_at link_room i x h) (other _ x targets_at link_room (inl (omega arith)))

  store_target : (i x : ℕ) → i < link_room → memory_in (set work (targets_at + i) x) counts
      ≡ memory m.olds m.vertices m.heads m.nexts m.sources (set m.targets i x) m.pairs m.links
  store_target i x h =
      memory_by (other _ x olds_at pair_room (inr (omega arith))) (other _ x vertices_at pair_room (inr (omega arith)))
      (other _ x heads_at position_limit (inr (omega arith))) (other _ x nexts_at pair_room (inr (omega arith)))
      (other _ x sources_at link_room (inr (omega arith))) (part_set work targets_at link_room i x h)

-- ---- a link and a pair

module _ (work : List ℕ) (counts : Counts) where
  pub link_stored_lem : (links k r : ℕ) → links < link_room → memory_in (link_stored work links k r) counts ≡ with_link (memory_in work counts) links k r
  link_stored_lem links k r h =
      store_target (set work (sources_at + links) k) counts links r h
      ∙ ap (λ (m : Memory). memory m.olds m.vertices m.heads m.nexts m.sources (set m.targets links r) m.pairs m.links)
      (store_source work counts links k h)

  pub pair_stored_lem : (pairs i u : ℕ) → pairs < pair_room
      → memory_in (pair_stored work pairs i u) counts ≡ with_pair (memory_in work counts) pairs i u
  pair_stored_lem pairs i u hp =
      let hc = chain_lt i u in
      let head = get_or work (heads_at + chain_of i u) 0 in
      let w₁ = set work (olds_at + pairs) i in
      let w₂ = set w₁ (vertices_at + pairs) u in
      let w₃ = set w₂ (nexts_at + pairs) head in
      rw (get_d_part work heads_at position_limit (chain_of i u) hc)
      (store_head w₃ counts (chain_of i u) (pairs + 1) hc
      ∙ ap (λ (m : Memory). memory m.olds m.vertices (set m.heads (chain_of i u) (pairs + 1)) m.nexts m.sources m.targets m.pairs m.links)
      (store_next w₂ counts pairs head hp
      ∙ ap (λ (m : Memory). memory m.olds m.vertices m.heads (set m.nexts pairs head) m.sources m.targets m.pairs m.links)
      (store_vertex w₁ counts pairs u hp
      ∙ ap (λ (m : Memory). memory m.olds (set m.vertices pairs u) m.heads m.nexts m.sources m.targets m.pairs m.links)
      (store_old work counts pairs i hp))))

-- ---- in memory with room for the search

pub stored_pair_lem : (work : List ℕ) (counts : Counts) (k : ℕ) → k < pair_room
    → stored_pair work k ≡ (get_or (memory_in work counts).olds k 0, get_or (memory_in work counts).vertices k 0)
stored_pair_lem work counts k h = rw (get_d_part work olds_at pair_room k h, get_d_part work vertices_at pair_room k h)

pub ready_long : (p : ℕ) (work : List ℕ) (counts : Counts) → SearchRoom p (memory_in work counts) → work_length ≤ length work
ready_long p work counts ready = part_fits work targets_at link_room (omega arith) ready.targets

module _ (p : ℕ) (work : List ℕ) (counts : Counts) (ready : SearchRoom p (memory_in work counts)) (within : Within counts.pairs counts.links)
    (k j w : ℕ) (hj : j < p) (r : ℕ) (e : r ≡ number_of (found_in (memory_in work counts)).pairs j w) where
  -- the pair was found before
  pub visited_found : r < counts.pairs
      → Moved k ((j, w) ∷ []) p (memory_in work counts)
      (memory_in (link_stored work counts.links k r) (record { pairs = counts.pairs; links = counts.links + 1 }))
  visited_found h =
      subst (λ (m : Memory). Moved k ((j, w) ∷ []) p (memory_in work counts) m)
      (sym (link_stored_lem work (record { pairs = counts.pairs; links = counts.links + 1 }) counts.links k r (omega (arith, within.few_links))))
      (moved_found p (memory_in work counts) ready within k j w hj r e h)

  -- it is new
  pub visited_new : counts.pairs ≤ r → (work' : List ℕ) → work' ≡ pair_stored (link_stored work counts.links k r) counts.pairs j w
      → Moved k ((j, w) ∷ []) p (memory_in work counts) (memory_in work' (record { pairs = counts.pairs + 1; links = counts.links + 1 }))
  visited_new h work' f =
      let more : Counts = record { pairs = counts.pairs + 1; links = counts.links + 1 } in
      let w₁ = link_stored work counts.links k r in
      subst (λ (m : Memory). Moved k ((j, w) ∷ []) p (memory_in work counts) m)
      (sym (ap (λ (l : List ℕ). memory_in l more) f
      ∙ pair_stored_lem w₁ more counts.pairs j w (omega (arith, within.few_pairs))
      ∙ ap (λ (m : Memory). with_pair m counts.pairs j w) (link_stored_lem work more counts.links k r (omega (arith, within.few_links)))))
      (moved_new p (memory_in work counts) ready within k j w hj r e h _ _ _ _ (record { old = refl; vertex = refl; head = refl; next = refl }))
