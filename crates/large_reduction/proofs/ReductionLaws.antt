-- What an accepted reduction says of the games: each vertex has the winner of its class. The row of a class is walked from a vertex's start, each
-- edge answered by the one after the last; so the vertex can make each of its class's moves, and an image shows that the class can make each
-- of the vertex's.
use Rattle.std.specs.Prelude.{◌≡◌, refl, ◌⊎◌, ◌↔◌, List, ℕ, zero, suc, ◌+◌, ◌-◌, ◌≤◌, ◌<◌}
use Rattle.std.proofs.Math.Path.{sym, ap}
use Rattle.std.proofs.Common.{◌∙◌, arith}
use Rattle.std.proofs.Math.Logic.{inl, inr}
use Rattle.std.proofs.Math.Bool.{So}
use Rattle.std.proofs.Math.Decide.{dec_lt, ℕ_discrete}
use Rattle.theory.specs.Games.Game.{Player, Succ, Total}
use Rattle.theory.specs.Order.Order.{order}
use Rattle.theory.specs.Order.Governed.{governed}
use Rattle.theory.specs.Plans.Plan.{Won}
use Rattle.theory.proofs.Winners.DeterminacyLaws.{winner}
use Rattle.theory.specs.Classes.Reduction.{class_of}
use Rattle.theory.specs.Merges.Merged.{Single, Merged, Onto, GovernedQuotient}
use Rattle.theory.proofs.Merges.MergedLaws.{merged_won, onto_total, merged_winner, merged_compose, onto_compose}
use Rattle.theory.proofs.Merges.GovernedMergeLaws.{merged_quotient, merged_bisimilar, merged_order, merged_class}
use Rattle.table.specs.Table.{vertex_count, table_edges, owner_at, source_at, target_at, player_of, Listed, game_of}
use Rattle.table.specs.TableLaws.{edge_in, edge_out}
use Rattle.table.specs.Answers.{accepted}
use Rattle.large_table.specs.Reading.{LargeFormed}
use Rattle.large_images.specs.Images.{class_at, start_at}
use Rattle.large_images.specs.ImagesRules.{GoesOn, member_of, image_of, after_of}
use Rattle.large_reduction.specs.ReductionCall.{reduction_answer}
use Rattle.large_reduction.specs.ReductionRules.{Ascending, ReductionPasses}
use Rattle.large_reduction.proofs.ReductionRulesLaws.{reduction_accepted}

-- ---- edges by ascending source

module _ (r : List ℕ) (ascending : Ascending r) where
  climbs : (d e : ℕ) → e + d < table_edges r → source_at r e ≤ source_at r (e + d)
  climbs zero e h = let z : e + 0 ≡ e = omega arith in rw z (omega arith)
  climbs (suc d) e h =
      let z : e + suc d ≡ e + d + 1 = omega arith in
      let x = climbs d e (omega arith) in
      let y = ascending (e + d) (omega arith) in
      rw z (omega arith)

  pub sorted : (d e : ℕ) → d ≤ e → e < table_edges r → source_at r d ≤ source_at r e
  sorted d e a h = let z : d + (e - d) ≡ e = omega arith in rw z at (climbs (e - d) d (omega arith))

-- ---- a listed edge is a move

pub listed_succ : (g : List ℕ) → LargeFormed g → (v w j : ℕ) → Listed g v w j → Succ (game_of g) v w
unfolding game_of
listed_succ g f v w j x = record { inside = omega (arith, f.targets j x.inside, x.target); along = edge_in g v w j x }

module _ (g r l c : List ℕ) (x : ReductionPasses g r l c) where
  abbrev class : ℕ → ℕ
  class v = class_at l v

  abbrev image : ℕ → ℕ
  image j = image_of g r c j

  abbrev q : ℕ
  q = table_edges r

  -- ---- the row of v's class

  module _ (v : ℕ) (h : v < vertex_count g) where
    -- the image of the start
    abbrev e₀ : ℕ
    e₀ = image (start_at c v)

    from_class : Listed r (class v) (class (target_at g (start_at c v))) e₀
    from_class = let s = x.certified.start v h in rw s.source at (x.certified.image (start_at c v) s.inside)

    -- no edge of the row stands before it
    from_start : (e : ℕ) → e < q → source_at r e ≡ class v → e₀ ≤ e
    from_start e a s = elim (dec_lt e e₀) [
      | yes y ↦ (
          let f = from_class in
          let x₁ = sorted r x.ascending e (e₀ - 1) (omega arith) (omega (arith, f.inside)) in
          let x₂ = sorted r x.ascending (e₀ - 1) e₀ (omega arith) f.inside in
          absurd ((x.certified.start v h).outer (record { before = omega arith; same = omega (arith, f.source) })))
      | no y ↦ omega arith
    ]

    -- an edge of v with the image e
    record Answer_to (e : ℕ) : Type 0 where
      at : ℕ
      inside : at < table_edges g
      source : source_at g at ≡ v
      is_image : image at ≡ e

    walk : (d : ℕ) → e₀ + d < q → source_at r (e₀ + d) ≡ class v → Answer_to (e₀ + d)
    walk zero a s =
        let y = x.certified.start v h in
        record { at = start_at c v; inside = y.inside; source = y.source; is_image = omega arith }
    walk (suc d) a s =
        let z : e₀ + suc d ≡ e₀ + d + 1 = omega arith in
        let b : e₀ + d + 1 < q = omega arith in
        let s' : source_at r (e₀ + d + 1) ≡ class v = rw z at s in
        let x₁ = sorted r x.ascending e₀ (e₀ + d) (omega arith) (omega arith) in
        let x₂ = sorted r x.ascending (e₀ + d) (e₀ + d + 1) (omega arith) b in
        let same : source_at r (e₀ + d) ≡ class v = omega (arith, from_class.source) in
        let i = walk d (omega arith) same in
        let goes : GoesOn r (e₀ + d) = record { inside = b; same = s' ∙ sym same } in
        let y = x.certified.after i.at i.inside (rw i.is_image goes) in
        record { at = after_of g r c i.at; inside = y.inside; source = y.source ∙ i.source; is_image = y.next ∙ omega (arith, i.is_image) }

    answer : (e : ℕ) → e < q → source_at r e ≡ class v → Answer_to e
    answer e a s =
        let f = from_start e a s in
        let z : e₀ + (e - e₀) ≡ e = omega arith in
        rw z at (walk (e - e₀) (omega arith) (rw z s))

    -- a row of one edge
    alone : ¬ GoesOn r e₀ → (e : ℕ) → e < q → source_at r e ≡ class v → e ≡ e₀
    alone f e a s =
        let b = from_start e a s in
        elim (dec_lt e₀ e) [
          | yes y ↦ (
              let x₁ = sorted r x.ascending e₀ (e₀ + 1) (omega arith) (omega arith) in
              let x₂ = sorted r x.ascending (e₀ + 1) e (omega arith) a in
              absurd (f (record { inside = omega arith; same = omega (arith, from_class.source) })))
          | no y ↦ omega arith
        ]

  -- ---- moves

  total' : (v : ℕ) → v < vertex_count g → (w : ℕ) × Succ (game_of g) v w
  total' v h =
      let s = x.certified.start v h in
      let w = target_at g (start_at c v) in
      (w, listed_succ g x.game v w (start_at c v) (record { inside = s.inside; source = s.source; target = refl }))

  forth' : (v w : ℕ) → Succ (game_of g) v w → Succ (game_of r) (class v) (class w)
  forth' v w s =
      let (j, y) = edge_out g v w s.along in
      listed_succ r x.reduced (class v) (class w) (image j) (rw (y.source, y.target) at (x.certified.image j y.inside))

  back' : (v d : ℕ) → v < vertex_count g → Succ (game_of r) (class v) d → (w : ℕ) × Succ (game_of g) v w × (class w ≡ d)
  back' v d h s =
      let (e, y) = edge_out r (class v) d s.along in
      let i = answer v h e y.inside y.source in
      let z = x.certified.image i.at i.inside in (
        target_at g i.at,
        listed_succ g x.game v (target_at g i.at) i.at (record { inside = i.inside; source = i.source; target = refl }),
        sym z.target ∙ ap (λ (e : ℕ). target_at r e) i.is_image ∙ y.target,
      )

  owner' : (v : ℕ) → v < vertex_count g → ((game_of g).owner v ≡ (game_of r).owner (class v)) ⊎ Single (game_of r) (class v)
  unfolding game_of
  owner' v h = elim (ℕ_discrete (owner_at g v) (owner_at r (class v))) [
    | yes e ↦ inl (ap player_of e)
    | no o ↦ inr (λ d e s t.
        let (i, y) = edge_out r (class v) d s.along in
        let (j, z) = edge_out r (class v) e t.along in
        let one = alone v h (λ goes. x.certified.owner v h (record { owner = o; second = goes })) in
        let same = one i y.inside y.source ∙ sym (one j z.inside z.source) in
        sym y.target ∙ ap (λ (i : ℕ). target_at r i) same ∙ z.target)
  ]

  pub passes_merged : Merged (game_of g) (game_of r) (class_at l)
  unfolding game_of
  passes_merged = record {
    inside = x.classed.inside;
    priority = x.classed.priority;
    total = total';
    forth = λ v w h s. forth' v w s;
    back = back';
    owner = owner';
  }

  pub passes_onto : Onto (game_of g) (game_of r) (class_at l)
  unfolding game_of
  passes_onto d h = let y = x.certified.member d h in (member_of g c d, y.inside, y.class)

-- ---- an accepted reduction

module _ (g r l c counts : List ℕ) (accept : reduction_answer g r l c ≡ accepted counts) where
  pub reduction_merged : Merged (game_of g) (game_of r) (class_at l)
  reduction_merged = passes_merged g r l c (reduction_accepted g r l c counts accept)

  pub reduction_onto : Onto (game_of g) (game_of r) (class_at l)
  reduction_onto = passes_onto g r l c (reduction_accepted g r l c counts accept)

  -- both games have successors everywhere
  pub reduction_total : Total (game_of g)
  reduction_total = reduction_merged.total

  pub reduction_reduced_total : Total (game_of r)
  reduction_reduced_total = onto_total reduction_merged reduction_onto

  -- each player has a winning plan from a vertex exactly when that player has one from its class
  pub reduction_won : (a : Player) (v : ℕ) → v < vertex_count g → Won a (game_of g) v ↔ Won a (game_of r) (class_at l v)
  unfolding game_of
  reduction_won a v h = merged_won reduction_merged a v h

  -- the winner at a vertex is the winner at its class
  pub reduction_winner : (v : ℕ) → v < vertex_count g → winner (game_of g) v ≡ winner (game_of r) (class_at l v)
  unfolding game_of
  reduction_winner v h = merged_winner reduction_merged reduction_reduced_total v h

  -- ---- what is merged

  -- the reduced game is the quotient by a governed bisimulation
  pub reduction_quotient : GovernedQuotient (game_of g) (game_of r) (class_at l)
  reduction_quotient = merged_quotient reduction_merged reduction_onto

  module _ (v w : ℕ) (hv : v < vertex_count g) (hw : w < vertex_count g) (same : class_at l v ≡ class_at l w) where
    -- vertices of one class are governed bisimilar: nothing coarser is accepted
    pub reduction_bisimilar : So (governed (game_of g) v w)
    unfolding game_of
    reduction_bisimilar = merged_bisimilar reduction_merged v w hv hw same

    -- each is below the other in the order of demand 2, and they share a class of it
    pub reduction_order : So (order (game_of g) v w)
    unfolding game_of
    reduction_order = merged_order reduction_merged v w hv hw same

    pub reduction_class : class_of (game_of g) v ≡ class_of (game_of g) w
    unfolding game_of
    reduction_class = merged_class reduction_merged v w hv hw same

-- ---- two reductions in a row are one

module _ (g r l c counts : List ℕ) (accept : reduction_answer g r l c ≡ accepted counts)
    (r' l' c' counts' : List ℕ) (accept' : reduction_answer r r' l' c' ≡ accepted counts') where
  pub chain_merged : Merged (game_of g) (game_of r') (λ v. class_at l' (class_at l v))
  chain_merged = merged_compose (reduction_merged g r l c counts accept) (reduction_merged r r' l' c' counts' accept')

  pub chain_onto : Onto (game_of g) (game_of r') (λ v. class_at l' (class_at l v))
  chain_onto =
      onto_compose (reduction_merged g r l c counts accept) (reduction_merged r r' l' c' counts' accept')
      (reduction_onto g r l c counts accept) (reduction_onto r r' l' c' counts' accept')

  pub chain_won : (a : Player) (v : ℕ) → v < vertex_count g → Won a (game_of g) v ↔ Won a (game_of r') (class_at l' (class_at l v))
  unfolding game_of
  chain_won a v h = merged_won chain_merged a v h

  pub chain_winner : (v : ℕ) → v < vertex_count g → winner (game_of g) v ≡ winner (game_of r') (class_at l' (class_at l v))
  unfolding game_of
  chain_winner v h = merged_winner chain_merged (onto_total chain_merged chain_onto) v h
