-- Laws of the table after an edit. Its game has exactly the edges asked for; vertices, priorities and owners stay; the reader accepts it where
-- the edit's rows are passed; and a leaving of the edge that just arrived gives the old table back.
use Rattle.std.specs.Prelude.{◌≡◌, ◌⊎◌, ◌↔◌, false, ℕ, ◌+◌, ◌-◌, ◌≤◌, ◌<◌, get_or, take}
use Rattle.std.proofs.Math.Path.{refl, sym, ap}
use Rattle.std.proofs.Common.{◌∙◌, arith, take_at, get_or-take}
use Rattle.std.proofs.Math.Logic.{inl, inr, ⊎_elim}
use Rattle.std.proofs.Math.Bool.{not, So}
use mathlib.Core.List.{List, [], ◌∷◌, ◌++◌, append-nil, append_assoc}
use Rattle.std.proofs.Math.Decide.{ℕ_discrete}
use Rattle.std.proofs.Math.Dec.{eqb}
use Rattle.std.proofs.Math.ListN.{length, length-append}
use borrow.Author.Tests.{eqb-true, eq-eqb, leb-false, lt-leb, ltb-false, not-false}
use Rattle.theory.proofs.Logic.BoolsLaws.{or_fails}
use Rattle.theory.proofs.Logic.RangeLaws.{any_in, any_out}
use Rattle.theory.specs.Logic.Range.{tabulate}
use Rattle.theory.proofs.Logic.ListLaws.{length_tabulate}
use Rattle.theory.specs.Games.Game.{edge_count}
use Rattle.theory.proofs.Plans.LinkLaws.{linked_left, linked_right, linked_append, linked_one, linked_one_out}
use Rattle.table.specs.Limits.{edge_limit}
use Rattle.table.specs.Table.{vertex_count, table_edges, priority_at, owner_at, source_at, target_at, table_length, table_in, game_of}
use Rattle.table.specs.TableLaws.{edge_in, edge_out}
use Rattle.table.specs.Answers.{accepted, Clean, written}
use Rattle.table.specs.Reading.{lacks_edge, read_answer}
use Rattle.table.specs.ReadingLaws.{read_accepts}
use Rattle.table.specs.WellFormed.{WellFormed}
use Rattle.edit_rules.specs.Edges.{edges_in, with_edges, others, edited_edges, edited, edited_words, misplaced, change_rows, edit_rows}
use Rattle.edit_rules.proofs.EdgesLaws.{with_vertices, with_edges_lem, length_with, with_priority, with_owner, edges_with, edge_linked, length_edges_in, with_linked, with_with, others_append, length_others, with_well, others_out, others_in, others_all, others_one}
use Rattle.edit_rules.proofs.ListedPartLaws.{with_own}
use Rattle.edit_rules.specs.declared.Edit.{Edit}
use Rattle.edit_rules.specs.declared.Edit.TheVariants.{Arrival, Leaving}

-- ---- sizes, priorities and owners

module _ (e : Edit) (g : List ℕ) (s t : ℕ) where
  pub edited_vertices : vertex_count (edited e g s t) ≡ vertex_count g
  unfolding edited
  edited_vertices = with_vertices g (edited_edges e s t (edges_in g))

  pub edited_edges_lem : table_edges (edited e g s t) ≡ length (edited_edges e s t (edges_in g))
  unfolding edited
  edited_edges_lem = with_edges_lem g (edited_edges e s t (edges_in g))

  pub length_edited : length (edited e g s t) ≡ table_length (vertex_count g) (table_edges (edited e g s t))
  unfolding edited
  length_edited = rw edited_edges_lem (length_with g (edited_edges e s t (edges_in g)))

  -- no priority and no owner changes
  pub edited_priority : (v : ℕ) → v < vertex_count g → priority_at (edited e g s t) v ≡ priority_at g v
  unfolding edited
  edited_priority = with_priority g (edited_edges e s t (edges_in g))

  pub edited_owner : (v : ℕ) → v < vertex_count g → owner_at (edited e g s t) v ≡ owner_at g v
  unfolding edited
  edited_owner = with_owner g (edited_edges e s t (edges_in g))

-- an arrival has one edge more
pub arrived_edges : (g : List ℕ) (s t : ℕ) → table_edges (edited Arrival g s t) ≡ table_edges g + 1
unfolding edited_edges
arrived_edges g s t = edited_edges_lem Arrival g s t ∙ length-append (edges_in g) ((s, t) ∷ []) ∙ rw (length_edges_in g)

-- ---- the game of the new table, edge by edge

module _ (g : List ℕ) (s t v w : ℕ) where
  pub arrived_edge : So ((game_of (edited Arrival g s t)).edge v w) ↔ (So ((game_of g).edge v w) ⊎ ((v ≡ s) × (w ≡ t)))
  unfolding edited edited_edges
  arrived_edge =
      let es = edges_in g in
      rw (with_linked g (es ++ ((s, t) ∷ [])) v w, edge_linked g v w) (
        λ x. ⊎_elim inl (λ y. let p = linked_one_out s t v w y in inr (sym p.0, sym p.1)) (linked_append es _ v w x),
        λ x. ⊎_elim (linked_left es _ v w) (λ p. linked_right es _ v w (rw (p.0, p.1) (linked_one s t))) x,
      )

  pub left_edge : So ((game_of (edited Leaving g s t)).edge v w) ↔ (So ((game_of g).edge v w) × ¬ ((v ≡ s) × (w ≡ t)))
  unfolding edited edited_edges
  left_edge =
      rw (with_linked g (others s t (edges_in g)) v w, edge_linked g v w)
      (others_out s t (edges_in g) v w, λ x. others_in s t (edges_in g) v w x.0 x.1)

-- ---- what passing the rows means

-- both ends are vertices, and the edge isn't there for an arrival, and is for a leaving
pub record Placed (e : Edit) (g : List ℕ) (s t : ℕ) : Type 0 where
  pub source : s < vertex_count g
  pub target : t < vertex_count g
  pub there : misplaced e ((game_of g).edge s t) ≡ false

module _ (g : List ℕ) (size s t : ℕ) where
  pub edit_placed : (e : Edit) → Clean (edit_rows e g size s t) → Placed e g s t
  unfolding edit_rows
  edit_placed e c =
      let p = (or_fails _ _).0 c.0 in
      let q = (or_fails _ _).0 p.0 in
      record { source = leb-false (vertex_count g) s q.0; target = leb-false (vertex_count g) t q.1; there = p.1 }

  pub arrival_fits : Clean (edit_rows Arrival g size s t) → (table_edges g < edge_limit) × (table_length (vertex_count g) (table_edges g) + 2 ≤ size)
  unfolding edit_rows change_rows
  arrival_fits c =
      let p = (or_fails _ _).0 c.1.0 in
      (leb-false edge_limit (table_edges g) p.0, ltb-false size _ p.1)

  -- the source keeps an edge
  leaving_keeps : Clean (edit_rows Leaving g size s t) → (j : ℕ) × (j < table_edges (edited Leaving g s t)) × (source_at (edited Leaving g s t) j ≡ s)
  unfolding edit_rows change_rows lacks_edge
  leaving_keeps c =
      let new = edited Leaving g s t in
      let (j, l, e) = any_out {n = table_edges new} {p = λ j. eqb (source_at new j) s} (not-false _ c.1.0) in
      (j, l, eqb-true (source_at new j) s e)

-- ---- the reader accepts the new table, with n and its m

edge_ends : (g : List ℕ) → WellFormed g → (v w : ℕ) → So ((game_of g).edge v w) → (v < vertex_count g) × (w < vertex_count g)
edge_ends g well v w x =
    let (j, l) = edge_out g v w x in
    (omega (arith, l.source, well.sources j l.inside), omega (arith, l.target, well.targets j l.inside))

edge_total_lem : (g : List ℕ) → WellFormed g → (v : ℕ) → v < vertex_count g → (w : ℕ) × So ((game_of g).edge v w)
edge_total_lem g well v h =
    let (j, l, e) = well.total v h in
    (target_at g j, edge_in g v (target_at g j) j (record { inside = l; source = e; target = refl }))

module _ (g : List ℕ) (size s t : ℕ) (well : WellFormed g) where
  arrived_well : Clean (edit_rows Arrival g size s t) → WellFormed (edited Arrival g s t)
  unfolding edited edited_edges
  arrived_well c =
      let es = edges_in g in
      let p = edit_placed g size s t Arrival c in
      with_well g (es ++ ((s, t) ∷ [])) well
      (omega (arith, length-append es ((s, t) ∷ []), length_edges_in g, (arrival_fits g size s t c).0))
      (λ v w x. elim ((arrived_edge g s t v w).0 (rw (with_linked g (es ++ ((s, t) ∷ [])) v w) x)) [
        | inl y ↦ edge_ends g well v w y
        | inr q ↦ rw (q.0, q.1) (p.source, p.target)
      ])
      (λ v h. let (w, x) = edge_total_lem g well v h in (w, linked_left es _ v w (rw (edge_linked g v w) at x)))

  left_well : Clean (edit_rows Leaving g size s t) → WellFormed (edited Leaving g s t)
  unfolding edited edited_edges
  left_well c =
      let es = edges_in g in
      let new = with_edges g (others s t es) in
      with_well g (others s t es) well
      (omega (arith, length_others s t es, length_edges_in g, well.edges))
      (λ v w x. edge_ends g well v w ((left_edge g s t v w).0 (rw (with_linked g (others s t es) v w) x)).0)
      (λ v h. elim (ℕ_discrete v s) [
        | yes e ↦ (
            let (j, l, f) = leaving_keeps g size s t c in
            let w = target_at new j in
            (w, rw (with_linked g (others s t es) v w) at (edge_in new v w j (record { inside = l; source = f ∙ sym e; target = refl }))))
        | no d ↦ (let (w, x) = edge_total_lem g well v h in (w, others_in s t es v w (rw (edge_linked g v w) at x) (λ q. d q.0)))
      ])

  pub edited_well : (e : Edit) → Clean (edit_rows e g size s t) → WellFormed (edited e g s t)
  edited_well Arrival c = arrived_well c
  edited_well Leaving c = left_well c

  pub edited_read : (e : Edit) → Clean (edit_rows e g size s t)
      → let new = edited e g s t in read_answer new ≡ accepted (vertex_count g ∷ table_edges new ∷ edge_count (game_of new) ∷ [])
  edited_read e c = read_accepts (edited e g s t) (edited_well e c) ∙ rw (edited_vertices e g s t)

-- ---- a leaving of the edge that just arrived gives the old table back

module _ (g : List ℕ) (s t : ℕ) (well : WellFormed g) (new : (game_of g).edge s t ≡ false) where
  pub left_arrived : edited Leaving (edited Arrival g s t) s t ≡ g
  unfolding edited edited_edges
  left_arrived =
      let es = edges_in g in
      let all : others s t (es ++ ((s, t) ∷ [])) ≡ es =
      others_append s t es ((s, t) ∷ []) ∙ rw (others_one s t, others_all s t es (sym (edge_linked g s t) ∙ new)) (append-nil es) in
      rw (edges_with g (es ++ ((s, t) ∷ [])), all) (with_with g (es ++ ((s, t) ∷ [])) es ∙ with_own g well.size)

  two_more : length (edited Arrival g s t) ≡ length g + 2
  two_more = omega (arith, length_edited Arrival g s t, arrived_edges g s t, well.size)

  pub length_arrived : length (edited_words Arrival g s t) ≡ length g + 2
  unfolding edited_words
  length_arrived = simp (length-append, length_tabulate) (omega (arith, two_more))

  -- the two words beyond it become 0
  pub left_words : edited_words Leaving (edited Arrival g s t) s t ≡ g ++ (0 ∷ 0 ∷ [])
  unfolding edited_words tabulate
  left_words = let two : length (edited Arrival g s t) - length g ≡ 2 = omega (arith, two_more) in rw (left_arrived, two)

  -- and it is accepted: the edge is there, and its source had an edge before
  has_edge : s < vertex_count g → lacks_edge g s ≡ false
  unfolding lacks_edge
  has_edge h =
      let (j, l, e) = well.total s h in
      ap not (any_in (table_edges g) (λ j. eqb (source_at g j) s) j l (eq-eqb (source_at g j) s e))

  pub left_again : (size : ℕ) → Placed Arrival g s t → Clean (edit_rows Leaving (edited Arrival g s t) size s t)
  unfolding edit_rows change_rows misplaced
  left_again size p =
      let v = edited_vertices Arrival g s t in
      let there = (arrived_edge g s t s t).1 (inr (refl, refl)) in (
        (or_fails _ _).1 ((or_fails _ _).1 (lt-leb _ s (rw v p.source), lt-leb _ t (rw v p.target)), ap not there),
        (rw left_arrived (has_edge p.source), tt),
      )

-- ---- a buffer that the edit is made in

module _ (e : Edit) (g : List ℕ) (s t : ℕ) (buffer : List ℕ) where
  abbrev new : List ℕ
  new = edited e g s t

  abbrev buffer' : List ℕ
  buffer' = written (edited_words e g s t) buffer

  -- the new table begins it
  pub edited_part : take (length new) buffer' ≡ new
  unfolding edited_words written
  edited_part = rw append_assoc (take_at new _ (length new) refl)

  edited_word : (i : ℕ) → i < length new → get_or buffer' i 0 ≡ get_or new i 0
  edited_word i h = rw (← edited_part) (sym (get_or-take (length new) buffer' i 0 h))

  pub edited_in : table_in buffer' ≡ new
  edited_in =
      let l = length_edited e g s t in
      let v = edited_vertices e g s t in
      rw (edited_word 0 (omega arith), edited_word 1 (omega arith), v, ← l) edited_part
