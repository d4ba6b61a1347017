-- What a run does to the game of its table: an entry changes whether its own edge is there, and no other, so an edge is in the final table
-- exactly when its presence at the start plus its number of entries is odd. No priority and no owner changes, and the table stays well formed.
use Rattle.std.specs.Prelude.{◌≡◌, ◌↔◌, Bool, ℕ, ◌+◌, ◌%◌, ◌<◌, eqb, length}
use Rattle.std.proofs.Math.Path.{refl, sym, ap}
use Rattle.std.proofs.Common.{◌∙◌, arith, eqb-true, eq-eqb}
use Rattle.std.proofs.Math.Logic.{inl, inr}
use Rattle.std.proofs.Math.Bool.{true, false, not, cond, So}
use mathlib.Core.List.{List, [], ◌∷◌}
use Rattle.theory.specs.Logic.Bools.{◌&◌, bit}
use Rattle.theory.proofs.Logic.BoolsLaws.{clash, So_ext, So_not, and_in, and_out, bit_in, bit_out, bit_le}
use Rattle.table.specs.Table.{vertex_count, priority_at, owner_at, game_of}
use Rattle.table.specs.Answers.{Clean}
use Rattle.table.specs.AnswersLaws.{judge_clean, not_both}
use Rattle.table.specs.WellFormed.{WellFormed}
use Rattle.edit_rules.specs.Edges.{edited}
use Rattle.edit_rules.proofs.EditedLaws.{edited_vertices, edited_priority, edited_owner, arrived_edge, left_edge, edited_well}
use Rattle.edit_rules.specs.declared.Edit.TheVariants.{Arrival, Leaving}
use Rattle.edit_trace.specs.Trace.{entries_of}
use Rattle.edit_trace.specs.Run.{toggle, toggled, Run, run_over}
use Rattle.edit_trace.proofs.RunLaws.{RunView, ends, goes, stops, run_view}

-- ---- an entry

module _ (g : List ℕ) (e : ℕ × ℕ) (v w : ℕ) where
  abbrev own : Bool
  own = eqb e.0 v & eqb e.1 w

  abbrev present : Bool
  present = (game_of g).edge v w

  own_out : So own → (v ≡ e.0) × (w ≡ e.1)
  own_out o = let p = and_out o in (sym (eqb-true e.0 v p.0), sym (eqb-true e.1 w p.1))

  own_in : (v ≡ e.0) × (w ≡ e.1) → So own
  own_in p = and_in (eq-eqb e.0 v (sym p.0)) (eq-eqb e.1 w (sym p.1))

  -- the edge of the entry changes, every other stays
  toggled_edge : (game_of (toggled g e)).edge v w ≡ cond own (not present) present
  unfolding toggle
  toggled_edge = go ((game_of g).edge e.0 e.1) refl own refl
    where
      go : (b : Bool) → (game_of g).edge e.0 e.1 ≡ b → (o : Bool) → own ≡ o
          → (game_of (edited (cond b Leaving Arrival) g e.0 e.1)).edge v w ≡ cond o (not present) present
      go true h true o =
          let q = own_out o in
          let p : present ≡ true = rw (q.0, q.1) h in
          So_not (λ x. ((left_edge g e.0 e.1 v w).0 x).1 q) ∙ sym (ap not p)
      go true h false o =
          So_ext (λ x. ((left_edge g e.0 e.1 v w).0 x).0) (λ x. (left_edge g e.0 e.1 v w).1 (x, λ q. clash (own_in q) o))
      go false h true o =
          let q = own_out o in
          let p : present ≡ false = rw (q.0, q.1) h in
          (arrived_edge g e.0 e.1 v w).1 (inr q) ∙ sym (ap not p)
      go false h false o =
          So_ext
          (λ x. elim ((arrived_edge g e.0 e.1 v w).0 x) [ inl y ↦ y | inr q ↦ clash (own_in q) o ])
          (λ x. (arrived_edge g e.0 e.1 v w).1 (inl x))

  toggled_bit : bit ((game_of (toggled g e)).edge v w) ≡ (bit present + bit own) % 2
  unfolding bit
  toggled_bit = ap bit toggled_edge ∙ go own present
    where
      go : (o p : Bool) → bit (cond o (not p) p) ≡ (bit p + bit o) % 2
      go true true = refl
      go true false = refl
      go false true = refl
      go false false = refl

-- ---- a run

module _ (size : ℕ) where
  view_parity : (v w : ℕ) {es : List (ℕ × ℕ)} {g : List ℕ} {longest done : ℕ} {r : Run} → RunView size es g longest done r → Clean r.stop
      → bit ((game_of r.table).edge v w) ≡ (bit ((game_of g).edge v w) + entries_of v w es) % 2
  unfolding entries_of
  view_parity v w {g = g} ends c = omega (arith, bit_le ((game_of g).edge v w))
  view_parity v w {es = e ∷ es} (goes {g = g} passed view) c = omega (arith, view_parity v w view c, toggled_bit g e v w)
  view_parity v w (stops at) c = absurd (not_both (sym at ∙ judge_clean _ [] c))

  view_well : {es : List (ℕ × ℕ)} {g : List ℕ} {longest done : ℕ} {r : Run} → RunView size es g longest done r → WellFormed g → WellFormed r.table
  view_well ends well = well
  view_well {es = e ∷ es} (goes {g = g} passed view) well = view_well view (edited_well g size e.0 e.1 well (toggle g e) passed)
  view_well (stops at) well = well

  view_vertices : {es : List (ℕ × ℕ)} {g : List ℕ} {longest done : ℕ} {r : Run} → RunView size es g longest done r → vertex_count r.table ≡ vertex_count g
  view_vertices ends = refl
  view_vertices {es = e ∷ es} (goes {g = g} passed view) = view_vertices view ∙ edited_vertices (toggle g e) g e.0 e.1
  view_vertices (stops at) = refl

  view_priority : (v : ℕ) {es : List (ℕ × ℕ)} {g : List ℕ} {longest done : ℕ} {r : Run} → RunView size es g longest done r → v < vertex_count g
      → priority_at r.table v ≡ priority_at g v
  view_priority v ends h = refl
  view_priority v {es = e ∷ es} (goes {g = g} passed view) h =
      view_priority v view (rw (edited_vertices (toggle g e) g e.0 e.1) h) ∙ edited_priority (toggle g e) g e.0 e.1 v h
  view_priority v (stops at) h = refl

  view_owner : (v : ℕ) {es : List (ℕ × ℕ)} {g : List ℕ} {longest done : ℕ} {r : Run} → RunView size es g longest done r → v < vertex_count g
      → owner_at r.table v ≡ owner_at g v
  view_owner v ends h = refl
  view_owner v {es = e ∷ es} (goes {g = g} passed view) h =
      view_owner v view (rw (edited_vertices (toggle g e) g e.0 e.1) h) ∙ edited_owner (toggle g e) g e.0 e.1 v h
  view_owner v (stops at) h = refl

  module _ (es : List (ℕ × ℕ)) (g : List ℕ) where
    abbrev run : Run
    run = run_over size es g

    abbrev view : RunView size es g (length g) 0 run
    view = run_view size es g (length g) 0

    pub run_parity : Clean run.stop → (v w : ℕ) → So ((game_of run.table).edge v w) ↔ ((bit ((game_of g).edge v w) + entries_of v w es) % 2 ≡ 1)
    run_parity c v w =
        let p = view_parity v w view c in
        (λ x. sym p ∙ bit_in x, λ h. bit_out ((game_of run.table).edge v w) (p ∙ h))

    pub run_well : WellFormed g → WellFormed run.table
    run_well = view_well view

    pub run_vertices : vertex_count run.table ≡ vertex_count g
    run_vertices = view_vertices view

    pub run_priority : (v : ℕ) → v < vertex_count g → priority_at run.table v ≡ priority_at g v
    run_priority v = view_priority v view

    pub run_owner : (v : ℕ) → v < vertex_count g → owner_at run.table v ≡ owner_at g v
    run_owner v = view_owner v view
