-- Laws of a table with other edges: its words by place, its edges, and that such tables are put one over another.
use Rattle.std.specs.Prelude.{◌≡◌, ◌⊎◌, Bool, get_or}
use Rattle.std.proofs.Math.Path.{refl, sym, ap}
use Rattle.std.proofs.Common.{◌∙◌, true≢false}
use Rattle.std.proofs.Math.Logic.{inl, inr}
use Rattle.std.proofs.Math.Bool.{true, false, cond, So}
use Rattle.std.proofs.lemmas.Bool.{false≢true}
use mathlib.Core.List.{List, [], ◌∷◌, ◌++◌}
use Prim.Native.Nat.{ℕ, ◌≤◌, ◌<◌}
use native.Mathlib.Omega.{arith}
use Rattle.std.proofs.Math.Dec.{eqb}
use Rattle.std.proofs.Math.ListN.{length, get_or-map}
use Rattle.std.proofs.lemmas.List.{length-map}
use borrow.Author.Tests.{eqb-true, eq-eqb}
use Rattle.theory.specs.Logic.Bools.{◌&◌, ◌or◌}
use Rattle.theory.proofs.Logic.BoolsLaws.{clash, So_ext, and_in, and_out, or_left, or_right, or_out}
use Rattle.theory.specs.Logic.Range.{tabulate}
use Rattle.theory.proofs.Logic.ListLaws.{length_tabulate, get_d_tabulate, tabulate_by, tabulate_ext}
use Rattle.theory.specs.Plans.Plan.{linked}
use Rattle.theory.proofs.Plans.LinkLaws.{pair_is_lem, linked_at, linked_find}
use Rattle.table.specs.Limits.{edge_limit}
use Rattle.table.specs.Table.{vertex_count, table_edges, priority_at, owner_at, source_at, target_at, table_length, game_of}
use Rattle.table.specs.TableLaws.{edge_in, edge_out}
use Rattle.table.specs.ColumnsLaws.{Columns, length_columns, priority_column, owner_column, source_column, target_column}
use Rattle.table.specs.WellFormed.{WellFormed}
use Rattle.table.specs.Listing.{sources_of, targets_of}
use Rattle.edit_rules.specs.Edges.{edges_in, with_edges, others}

-- ---- a table with these edges

module _ (g : List ℕ) (es : List (ℕ × ℕ)) where
  abbrev new : List ℕ
  new = with_edges g es

  with_columns : Columns (vertex_count g) (length es) (tabulate (vertex_count g) (priority_at g)) (tabulate (vertex_count g) (owner_at g)) (sources_of es) (targets_of es)
  with_columns = record {
    priorities = length_tabulate (vertex_count g) (priority_at g);
    owners = length_tabulate (vertex_count g) (owner_at g);
    sources = length-map es (λ (e : ℕ × ℕ). e.0);
    targets = length-map es (λ (e : ℕ × ℕ). e.1);
  }

  pub with_vertices : vertex_count new ≡ vertex_count g
  unfolding with_edges
  with_vertices = refl

  pub with_edges_lem : table_edges new ≡ length es
  unfolding with_edges
  with_edges_lem = refl

  pub length_with : length new ≡ table_length (vertex_count g) (length es)
  unfolding with_edges
  length_with = length_columns with_columns

  pub with_priority : (v : ℕ) → v < vertex_count g → priority_at new v ≡ priority_at g v
  unfolding with_edges
  with_priority v h = priority_column with_columns v h ∙ get_d_tabulate (vertex_count g) (priority_at g) 0 v h

  pub with_owner : (v : ℕ) → v < vertex_count g → owner_at new v ≡ owner_at g v
  unfolding with_edges
  with_owner v h = owner_column with_columns v h ∙ get_d_tabulate (vertex_count g) (owner_at g) 0 v h

  pub with_source : (j : ℕ) → j < length es → source_at new j ≡ (get_or es j (0, 0)).0
  unfolding with_edges
  with_source j h = source_column with_columns j h ∙ get_or-map (λ (e : ℕ × ℕ). e.0) es j (0, 0)

  with_target : (j : ℕ) → j < length es → target_at new j ≡ (get_or es j (0, 0)).1
  unfolding with_edges
  with_target j h = target_column with_columns j h ∙ get_or-map (λ (e : ℕ × ℕ). e.1) es j (0, 0)

  -- its edges are these
  pub edges_with : edges_in new ≡ es
  unfolding edges_in
  edges_with =
      sym (tabulate_by (table_edges new) _ (0, 0) es (sym with_edges_lem) (λ j h.
      let l : j < length es = omega (arith, with_edges_lem) in
      sym (pair_is_lem (with_source j l) (with_target j l))))

-- ---- an edge of the game is one of the table's edges

pub edge_linked : (g : List ℕ) (v w : ℕ) → (game_of g).edge v w ≡ linked (edges_in g) v w
unfolding edges_in
edge_linked g v w = So_ext to from
  where
    edge : ℕ → ℕ × ℕ
    edge j = (source_at g j, target_at g j)

    at : (j : ℕ) → j < table_edges g → get_or (tabulate (table_edges g) edge) j (0, 0) ≡ edge j
    at j h = get_d_tabulate (table_edges g) edge (0, 0) j h

    to : So ((game_of g).edge v w) → So (linked (tabulate (table_edges g) edge) v w)
    to t =
        let (j, l) = edge_out g v w t in
        let e = at j l.inside in
        let x : (get_or (tabulate (table_edges g) edge) j (0, 0)).0 ≡ v = ap (λ (p : ℕ × ℕ). p.0) e ∙ l.source in
        let y : (get_or (tabulate (table_edges g) edge) j (0, 0)).1 ≡ w = ap (λ (p : ℕ × ℕ). p.1) e ∙ l.target in
        rw (x, y) at (linked_at (tabulate (table_edges g) edge) j (omega (arith, length_tabulate (table_edges g) edge, l.inside)))

    from : So (linked (tabulate (table_edges g) edge) v w) → So ((game_of g).edge v w)
    from t =
        let (j, l, e) = linked_find (tabulate (table_edges g) edge) v w t in
        let h : j < table_edges g = omega (arith, length_tabulate (table_edges g) edge) in
        let f = sym (at j h) ∙ e in
        edge_in g v w j (record { inside = h; source = ap (λ (p : ℕ × ℕ). p.0) f; target = ap (λ (p : ℕ × ℕ). p.1) f })

pub length_edges_in : (g : List ℕ) → length (edges_in g) ≡ table_edges g
unfolding edges_in
length_edges_in g = length_tabulate (table_edges g) (λ j. (source_at g j, target_at g j))

-- the edges of a table with these edges
pub with_linked : (g : List ℕ) (es : List (ℕ × ℕ)) (v w : ℕ) → (game_of (with_edges g es)).edge v w ≡ linked es v w
with_linked g es v w = edge_linked (with_edges g es) v w ∙ ap (λ (l : List (ℕ × ℕ)). linked l v w) (edges_with g es)

-- the reader accepts it if its edges are between vertices, and every vertex has one
pub with_well : (g : List ℕ) (es : List (ℕ × ℕ)) → WellFormed g → length es ≤ edge_limit
    → ((v w : ℕ) → So (linked es v w) → (v < vertex_count g) × (w < vertex_count g))
    → ((v : ℕ) → v < vertex_count g → (w : ℕ) × So (linked es v w)) → WellFormed (with_edges g es)
with_well g es well few ends total =
    let n = with_vertices g es in
    let m = with_edges_lem g es in record {
      some = omega (arith, well.some);
      vertices = omega (arith, well.vertices);
      edges = omega arith;
      size = length_with g es ∙ rw (n, m);
      owners = λ v h. let l : v < vertex_count g = omega arith in omega (arith, with_owner g es v l, well.owners v l);
      sources = λ j h. let l : j < length es = omega arith in omega (arith, with_source g es j l, (ends _ _ (linked_at es j l)).0);
      targets = λ j h. let l : j < length es = omega arith in omega (arith, with_target g es j l, (ends _ _ (linked_at es j l)).1);
      total = λ v h.
          let (w, x) = total v (omega arith) in
          let (j, l, e) = linked_find es v w x in
          (j, omega arith, with_source g es j l ∙ ap (λ (p : ℕ × ℕ). p.0) e);
    }

-- ---- one over another: only the vertices, priorities and owners count

with_same : (g h : List ℕ) (es : List (ℕ × ℕ)) → vertex_count h ≡ vertex_count g
    → tabulate (vertex_count g) (priority_at h) ≡ tabulate (vertex_count g) (priority_at g)
    → tabulate (vertex_count g) (owner_at h) ≡ tabulate (vertex_count g) (owner_at g) → with_edges h es ≡ with_edges g es
unfolding with_edges
with_same g h es n p o = cc

pub with_with : (g : List ℕ) (es fs : List (ℕ × ℕ)) → with_edges (with_edges g es) fs ≡ with_edges g fs
with_with g es fs =
    with_same g (with_edges g es) fs (with_vertices g es)
    (tabulate_ext (vertex_count g) _ _ (with_priority g es)) (tabulate_ext (vertex_count g) _ _ (with_owner g es))

-- ---- the edges other than those from s to t

module _ (s t : ℕ) where
  -- e is one of them
  abbrev taken : ℕ × ℕ → Bool
  taken e = eqb e.0 s & eqb e.1 t

  pub others_append : (es fs : List (ℕ × ℕ)) → others s t (es ++ fs) ≡ others s t es ++ others s t fs
  unfolding others
  others_append [] fs = refl
  others_append (e ∷ es) fs = go (taken e) (others_append es fs)
    where
      go : (b : Bool) → others s t (es ++ fs) ≡ others s t es ++ others s t fs
          → cond b (others s t (es ++ fs)) (e ∷ others s t (es ++ fs)) ≡ cond b (others s t es) (e ∷ others s t es) ++ others s t fs
      go true ih = ih
      go false ih = ap (λ (l : List (ℕ × ℕ)). e ∷ l) ih

  pub length_others : (es : List (ℕ × ℕ)) → length (others s t es) ≤ length es
  unfolding others
  length_others [] = omega arith
  length_others (e ∷ es) = go (taken e) (length_others es)
    where
      go : (b : Bool) → length (others s t es) ≤ length es → length (cond b (others s t es) (e ∷ others s t es)) ≤ length (e ∷ es)
      go true ih = omega arith
      go false ih = omega arith

  -- an edge is one of the others exactly if it was one and isn't (s, t)

  pub others_out : (es : List (ℕ × ℕ)) (v w : ℕ) → So (linked (others s t es) v w) → So (linked es v w) × ¬ ((v ≡ s) × (w ≡ t))
  unfolding others linked
  others_out [] v w x = absurd (false≢true x)
  others_out (e ∷ es) v w x = go (taken e) refl x (others_out es v w)
    where
      go : (b : Bool) → taken e ≡ b → So (linked (cond b (others s t es) (e ∷ others s t es)) v w)
          → (So (linked (others s t es) v w) → So (linked es v w) × ¬ ((v ≡ s) × (w ≡ t)))
          → So ((eqb e.0 v & eqb e.1 w) or linked es v w) × ¬ ((v ≡ s) × (w ≡ t))
      go true f x ih = let r = ih x in (or_right _ r.0, r.1)
      go false f x ih = elim (or_out x) [
        | inl a ↦ (
            let p = and_out a in
            (or_left _ a, λ q. clash (and_in (eq-eqb e.0 s (eqb-true e.0 v p.0 ∙ q.0)) (eq-eqb e.1 t (eqb-true e.1 w p.1 ∙ q.1))) f))
        | inr b ↦ (let r = ih b in (or_right _ r.0, r.1))
      ]

  pub others_in : (es : List (ℕ × ℕ)) (v w : ℕ) → So (linked es v w) → ¬ ((v ≡ s) × (w ≡ t)) → So (linked (others s t es) v w)
  unfolding others linked
  others_in [] v w x d = absurd (false≢true x)
  others_in (e ∷ es) v w x d = go (taken e) refl (or_out x) (λ y. others_in es v w y d)
    where
      go : (b : Bool) → taken e ≡ b → So (eqb e.0 v & eqb e.1 w) ⊎ So (linked es v w) → (So (linked es v w) → So (linked (others s t es) v w))
          → So (linked (cond b (others s t es) (e ∷ others s t es)) v w)
      go true f (inl a) ih =
          let p = and_out a in
          let q = and_out f in
          absurd (d (sym (eqb-true e.0 v p.0) ∙ eqb-true e.0 s q.0, sym (eqb-true e.1 w p.1) ∙ eqb-true e.1 t q.1))
      go true f (inr b) ih = ih b
      go false f (inl a) ih = or_left _ a
      go false f (inr b) ih = or_right _ (ih b)

  -- where (s, t) isn't there, they are all
  pub others_all : (es : List (ℕ × ℕ)) → linked es s t ≡ false → others s t es ≡ es
  unfolding others linked ◌or◌
  others_all [] h = refl
  others_all (e ∷ es) h = go (taken e) h (others_all es)
    where
      go : (b : Bool) → (b or linked es s t) ≡ false → (linked es s t ≡ false → others s t es ≡ es)
          → cond b (others s t es) (e ∷ others s t es) ≡ e ∷ es
      go true f ih = absurd (true≢false f)
      go false f ih = ap (λ (l : List (ℕ × ℕ)). e ∷ l) (ih f)

  pub others_one : others s t ((s, t) ∷ []) ≡ []
  unfolding others
  others_one = rw (and_in (eq-eqb s s refl) (eq-eqb t t refl))
