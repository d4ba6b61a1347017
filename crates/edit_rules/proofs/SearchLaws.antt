-- Laws of the searches among a table's edges: for the edge from s to t, and for another edge of s, which is one that stays.
use Rattle.std.specs.Prelude.{◌≡◌, refl, ◌↔◌, Bool, true, false, not, cond, List, [], ◌∷◌, ◌++◌, ℕ, zero, suc, ◌+◌, ◌-◌, ◌*◌, ◌≤◌, ◌<◌, min, eqb, length, get_or, take, drop}
use Rattle.std.proofs.Common.{sym, ap, ap₂, ◌∙◌, inl, inr, append-nil, append_assoc, add-one, arith, get_or-take, get_or-drop, eqb-true, eq-eqb, ne_eqb}
use Rattle.std.proofs.Math.Bool.{So}
use Rattle.std.proofs.Math.Decide.{ℕ_discrete, dec_lt}
use Rattle.std.proofs.lemmas.Bool.{eqb-false}
use Rattle.theory.specs.Logic.Bools.{◌&◌}
use Rattle.theory.proofs.Logic.BoolsLaws.{decide, clash, So_ext, So_not, not_in, not_out, and_in, and_out}
use Rattle.theory.specs.Logic.Range.{any_below, first, tabulate}
use Rattle.theory.proofs.Logic.RangeLaws.{any_in, any_out, any_fails, first_ge, first_le, first_before, first_passes}
use Rattle.theory.proofs.Logic.ListLaws.{length_tabulate, tabulate_ext, tabulate_snoc, map_tabulate}
use Rattle.table.specs.Table.{table_edges, source_at, target_at, is_edge, Listed, game_of}
use Rattle.table.specs.TableLaws.{edge_in, edge_out}
use Rattle.table.specs.Reading.{lacks_edge}
use Rattle.table.specs.Placing.{placed}
use Rattle.table.specs.Listing.{sources_of, targets_of, Appended}
use Rattle.table.specs.ListingLaws.{appended_none}
use Rattle.edit_rules.specs.Edges.{others, edited}
use Rattle.edit_rules.specs.EditParts.{Formed, leads, edges_part}
use Rattle.edit_rules.proofs.EdgesLaws.{others_append, length_others}
use Rattle.edit_rules.proofs.EditedLaws.{left_edge}
use Rattle.edit_rules.specs.declared.Edit.TheVariants.{Leaving}

-- ---- one edge

module _ {g : List ℕ} {n m : ℕ} (f : Formed g n m) (j : ℕ) where
  pub formed_source : get_or g (2 + 2 * n + j) 0 ≡ source_at g j
  formed_source = rw f.vertices

  pub formed_target : get_or g (2 + 2 * n + m + j) 0 ≡ target_at g j
  formed_target = rw (f.vertices, f.edges)

  module _ (s t : ℕ) (there : Bool) where
    pub leads_no : (get_or g (2 + 2 * n + j) 0 ≡ s → ⊥) → leads g s t there j ≡ false
    unfolding leads ◌&◌
    leads_no d = rw (ne_eqb (source_at g j) s (λ e. d (formed_source ∙ e)))

    pub leads_by : get_or g (2 + 2 * n + j) 0 ≡ s → let hit = eqb (get_or g (2 + 2 * n + m + j) 0) t in leads g s t there j ≡ cond there hit (not hit)
    unfolding leads ◌&◌
    leads_by e = rw (eq-eqb (source_at g j) s (sym formed_source ∙ e), formed_target)

-- ---- some edge

-- from s to t
pub there_edge : (g : List ℕ) (s t : ℕ) → any_below (table_edges g) (leads g s t true) ≡ (game_of g).edge s t
unfolding game_of is_edge leads
there_edge g s t = refl

-- s has no edge once those to t have left: every edge of s leads to t
pub lacks_says : (g : List ℕ) (s t : ℕ) → So (lacks_edge (edited Leaving g s t) s) ↔ ((w j : ℕ) → Listed g s w j → w ≡ t)
unfolding lacks_edge
lacks_says g s t = (to, from)
  where
    new : List ℕ
    new = edited Leaving g s t

    has : ℕ → Bool
    has j = eqb (source_at new j) s

    to : So (not (any_below (table_edges new) has)) → (w j : ℕ) → Listed g s w j → w ≡ t
    to h w j l = elim (ℕ_discrete w t) [
      | yes e ↦ e
      | no d ↦ (
          let (i, k) = edge_out new s w ((left_edge g s t s w).1 (edge_in g s w j l, λ q. d q.1)) in
          clash (any_in (table_edges new) has i k.inside (eq-eqb (source_at new i) s k.source)) (not_out h))
    ]

    from : ((w j : ℕ) → Listed g s w j → w ≡ t) → So (not (any_below (table_edges new) has))
    from only = not_in (So_not (λ x.
        let (i, l, y) = any_out {n = table_edges new} {p = has} x in
        let w = target_at new i in
        let r = (left_edge g s t s w).0 (edge_in new s w i (record { inside = l; source = eqb-true (source_at new i) s y; target = refl })) in
        let (j, k) = edge_out g s w r.0 in
        r.1 (refl, only w j k)))

-- from s elsewhere: that is one that stays
pub elsewhere_stays : (g : List ℕ) (s t : ℕ) → any_below (table_edges g) (leads g s t false) ≡ not (lacks_edge (edited Leaving g s t) s)
unfolding leads
elsewhere_stays g s t = So_ext to from
  where
    elsewhere : ℕ → Bool
    elsewhere j = eqb (source_at g j) s & not (eqb (target_at g j) t)

    to : So (any_below (table_edges g) elsewhere) → So (not (lacks_edge (edited Leaving g s t) s))
    to x =
        let (j, l, y) = any_out {n = table_edges g} {p = elsewhere} x in
        let p = and_out y in
        let at : Listed g s (target_at g j) j = record { inside = l; source = eqb-true (source_at g j) s p.0; target = refl } in
        not_in (So_not (λ h. eqb-false (target_at g j) t (not_out p.1) ((lacks_says g s t).0 h (target_at g j) j at)))

    from : So (not (lacks_edge (edited Leaving g s t) s)) → So (any_below (table_edges g) elsewhere)
    from x = elim (decide (any_below (table_edges g) elsewhere)) [
      | inl y ↦ y
      | inr f ↦ clash ((lacks_says g s t).1 (λ w j l. only w j l f)) (not_out x)
    ]
      where
        only : (w j : ℕ) → Listed g s w j → any_below (table_edges g) elsewhere ≡ false → w ≡ t
        only w j l f = elim (ℕ_discrete w t) [
          | yes e ↦ e
          | no d ↦ clash
              (and_in (eq-eqb (source_at g j) s l.source) (not_in (ne_eqb (target_at g j) t (λ e. d (sym l.target ∙ e)))))
              (any_fails (table_edges g) elsewhere f j l.inside)
        ]

-- ---- the edges that stay, one by one

-- the edges below j
abbrev pub edges_below : List ℕ → ℕ → List (ℕ × ℕ)
edges_below g j = tabulate j (λ i. (source_at g i, target_at g i))

pub others_few : (g : List ℕ) (s t j : ℕ) → length (others s t (edges_below g j)) ≤ j
others_few g s t j = omega (arith, length_others s t (edges_below g j), length_tabulate {A = ℕ × ℕ} j (λ i. (source_at g i, target_at g i)))

pub others_more : (g : List ℕ) (s t j : ℕ)
    → others s t (edges_below g (j + 1)) ≡ others s t (edges_below g j) ++ others s t ((source_at g j, target_at g j) ∷ [])
others_more g s t j =
    rw (add-one j, tabulate_snoc {A = ℕ × ℕ} j (λ i. (source_at g i, target_at g i))) (others_append s t (edges_below g j) ((source_at g j, target_at g j) ∷ []))

pub others_start : (g : List ℕ) (s t : ℕ) (sources ends : List ℕ) → Appended (others s t (edges_below g 0)) 0 sources sources ends ends 0
unfolding tabulate others
others_start g s t sources ends = appended_none 0 sources ends

-- an edge from s to t is left out, and any other stays
others_copy : (g : List ℕ) (s t j : ℕ) → So (leads g s t true j) → others s t ((source_at g j, target_at g j) ∷ []) ≡ []
unfolding leads others
others_copy g s t j x = rw x

others_other : (g : List ℕ) (s t j : ℕ) → leads g s t true j ≡ false → others s t ((source_at g j, target_at g j) ∷ []) ≡ (source_at g j, target_at g j) ∷ []
unfolding leads others
others_other g s t j x = rw x

-- edges among which there is no copy stay, all of them
others_run : (g : List ℕ) (s t j c : ℕ) → ((i : ℕ) → j ≤ i → i < j + c → leads g s t true i ≡ false)
    → others s t (edges_below g (j + c)) ≡ others s t (edges_below g j) ++ tabulate c (λ i. (source_at g (j + i), target_at g (j + i)))
unfolding tabulate
others_run g s t j zero none = let z : j + zero ≡ j = omega arith in rw z (sym (append-nil (others s t (edges_below g j))))
others_run g s t j (suc c) none =
    let q : j + suc c ≡ j + c + 1 = omega arith in
    let before = others s t (edges_below g j) in
    let f : ℕ → ℕ × ℕ = λ i. (source_at g (j + i), target_at g (j + i)) in
    ap (λ (i : ℕ). others s t (edges_below g i)) q ∙ others_more g s t (j + c)
    ∙ ap₂ ◌++◌ (others_run g s t j c (λ i a b. none i a (omega arith))) (others_other g s t (j + c) (none (j + c) (omega arith) (omega arith)))
    ∙ append_assoc before (tabulate c f) (f c ∷ []) ∙ ap (λ (l : List (ℕ × ℕ)). before ++ l) (sym (tabulate_snoc {A = ℕ × ℕ} c f))

-- from j on up to the next copy, or to the end
module _ (g : List ℕ) (s t m j : ℕ) (h : j ≤ m) (k : ℕ) (found : k ≡ first (leads g s t true) j m) where
  pub part_low : j ≤ k
  part_low = rw found (first_ge (leads g s t true) j m)

  pub part_high : k ≤ m
  part_high = rw found (first_le (leads g s t true) j m h)

  stays : others s t (edges_below g k) ≡ others s t (edges_below g j) ++ edges_part g j k
  stays =
      let q : j + (k - j) ≡ k = omega (arith, part_low) in
      let r = others_run g s t j (k - j) (λ i a b. first_before (leads g s t true) j m i a (omega (arith, part_low, found))) in
      ap (λ (i : ℕ). others s t (edges_below g i)) (sym q) ∙ r

  pub others_part : others s t (edges_below g (min (k + 1) m)) ≡ others s t (edges_below g j) ++ edges_part g j k
  others_part = elim (dec_lt k m) [
    | yes l ↦ (
        let q : min (k + 1) m ≡ k + 1 = omega arith in
        let hit : So (leads g s t true k) = rw found (first_passes (leads g s t true) j m h (omega (arith, found))) in
        rw q (others_more g s t k ∙ ap₂ ◌++◌ stays (others_copy g s t k hit) ∙ append-nil _))
    | no d ↦ (let q : min (k + 1) m ≡ k = omega (arith, part_high) in rw q stays)
  ]

-- the words of such a part
module _ {g : List ℕ} {n m : ℕ} (f : Formed g n m) (a b : ℕ) (low : a ≤ b) (high : b ≤ m) where
  -- the words from a place on
  abbrev from : ℕ → List ℕ
  from at = take (length g - at) (drop at g)

  pub part_sources : tabulate (b - a) (λ i. get_or (from (2 + 2 * n + a)) i 0) ≡ sources_of (edges_part g a b)
  part_sources =
      tabulate_ext (b - a) _ (λ i. source_at g (a + i)) (λ i h.
      get_or-take (length g - (2 + 2 * n + a)) (drop (2 + 2 * n + a) g) i 0 (omega (arith, f.well.size, f.vertices, f.edges))
      ∙ get_or-drop (2 + 2 * n + a) g i 0 ∙ rw f.vertices (ap (λ (k : ℕ). get_or g k 0) (omega arith)))
      ∙ sym (map_tabulate (λ (e : ℕ × ℕ). e.0) (b - a) (λ i. (source_at g (a + i), target_at g (a + i))))

  pub part_targets : tabulate (b - a) (λ i. get_or (from (2 + 2 * n + m + a)) i 0) ≡ targets_of (edges_part g a b)
  part_targets =
      tabulate_ext (b - a) _ (λ i. target_at g (a + i)) (λ i h.
      get_or-take (length g - (2 + 2 * n + m + a)) (drop (2 + 2 * n + m + a) g) i 0 (omega (arith, f.well.size, f.vertices, f.edges))
      ∙ get_or-drop (2 + 2 * n + m + a) g i 0 ∙ rw (f.vertices, f.edges) (ap (λ (k : ℕ). get_or g k 0) (omega arith)))
      ∙ sym (map_tabulate (λ (e : ℕ × ℕ). e.1) (b - a) (λ i. (source_at g (a + i), target_at g (a + i))))

  pub part_listed : (e : ℕ) (s s' t t' : List ℕ) → s' ≡ placed e (tabulate (b - a) (λ i. get_or (from (2 + 2 * n + a)) i 0)) s
      → t' ≡ placed e (tabulate (b - a) (λ i. get_or (from (2 + 2 * n + m + a)) i 0)) t → Appended (edges_part g a b) e s s' t t' (e + (b - a))
  part_listed e s s' t t' p q = record {
    count = rw (length_tabulate {A = ℕ × ℕ} (b - a) (λ i. (source_at g (a + i), target_at g (a + i))));
    sources_after = p ∙ rw part_sources;
    targets_after = q ∙ rw part_targets;
  }
