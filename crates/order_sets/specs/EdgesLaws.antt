-- Laws of the rows of a game's edges, as they are written edge by edge.
use Rattle.std.specs.Prelude.{◌≡◌, Bool, true, false, not, List, ℕ, ◌+◌, ◌*◌, ◌≤◌, ◌<◌, eqb}
use Rattle.std.proofs.Math.Path.{sym, ap}
use Rattle.std.proofs.Common.{ap₂, ◌∙◌, subst, arith, eqb-true, eq-eqb, lt-ltb}
use Rattle.theory.specs.Logic.Bools.{◌&◌, ◌or◌}
use Rattle.theory.proofs.Logic.BoolsLaws.{So_ext, eqb_flip, So_not, and_out, and_true, and_one, and_flip, or_first, or_flip}
use Rattle.theory.specs.Logic.Range.{any_below}
use Rattle.theory.proofs.Logic.RangeLaws.{any_more}
use Rattle.theory.specs.Order.Passes.{Rel}
use Rattle.table.specs.Table.{vertex_count, table_edges, source_at, target_at, is_edge, game_of}
use Rattle.table.specs.TableLaws.{edge_out, edge_target, own_even}
use Rattle.table.specs.WellFormed.{WellFormed}
use Rattle.order_sets.specs.Sets.{Is, PutIn, AddedIn}
use Rattle.order_sets.specs.Losses.{differs, EdgesIn, EdgeSets}

eqb_shift : (k a b : ℕ) → eqb (k + a) (k + b) ≡ eqb a b
eqb_shift k a b =
    So_ext
    (λ t. eq-eqb a b (let e = eqb-true (k + a) (k + b) t in omega arith))
    (λ t. eq-eqb (k + a) (k + b) (let e = eqb-true a b t in omega arith))

pub edges_start : (B : ℕ) (g : List ℕ) (edges : Rel) → ((v x : ℕ) → edges v x ≡ false) → EdgesIn B g 0 edges
unfolding any_below
edges_start B g edges z = record { next = λ v x h l. z v x; back = λ x v h l. z (B + x) v }

added : (B : ℕ) (old new : Rel) (v x : ℕ) → AddedIn B old new v x true → (u y : ℕ) → y < B → new u y ≡ ((eqb u v & eqb y x) or old u y)
added B old new v x a u y h = a u y h ∙ ap (λ b. (eqb u v & b) or old u y) (and_true (eqb y x))

module _ (B : ℕ) (g : List ℕ) (j : ℕ) (old mid new : Rel) (hs : source_at g j < B) (ht : target_at g j < B) where
  -- edge j, or one before it
  edge_next : (v x : ℕ) → ((eqb v (source_at g j) & eqb x (target_at g j)) or any_below j (is_edge g v x)) ≡ any_below (j + 1) (is_edge g v x)
  unfolding is_edge
  edge_next v x =
      or_flip _ _ ∙ ap (λ b. any_below j (is_edge g v x) or b) (ap₂ ◌&◌ (eqb_flip v (source_at g j)) (eqb_flip x (target_at g j)))
      ∙ sym (any_more j (is_edge g v x))

  pub edges_next : EdgesIn B g j old → AddedIn B old mid (source_at g j) (target_at g j) true → AddedIn B mid new (B + target_at g j) (source_at g j) true
      → EdgesIn B g (j + 1) new
  edges_next i m' n' = let m = added B old mid _ _ m' in let n = added B mid new _ _ n' in record {
    next = λ v x hv hx.
        n v x hx
        ∙ or_first _ (So_not (λ t. let e = eqb-true v (B + target_at g j) (and_out t).0 in absurd (omega arith)))
        ∙ m v x hx ∙ ap (λ b. (eqb v (source_at g j) & eqb x (target_at g j)) or b) (i.next v x hv hx) ∙ edge_next v x;
    back = λ x v hx hv.
        n (B + x) v hv
        ∙ ap₂ ◌or◌ (and_flip _ _ ∙ ap (λ b. eqb v (source_at g j) & b) (eqb_shift B x (target_at g j)))
        (m (B + x) v hv
        ∙ or_first _ (So_not (λ t. let e = eqb-true (B + x) (source_at g j) (and_out t).0 in absurd (omega arith)))
        ∙ i.back x v hx hv)
        ∙ edge_next v x;
  }

-- the row of Odd's vertices is put beside the edges
pub edges_end : (B : ℕ) (g : List ℕ) (old new : Rel) (odd : ℕ → Bool) → WellFormed g → vertex_count g ≤ B → EdgesIn B g (table_edges g) old → Is B odd (differs g (2 + vertex_count g) (vertex_count g) 0)
    → PutIn B old new (2 * B) odd → EdgeSets B (game_of g) new
unfolding game_of differs
edges_end B g old new odd well few i d p = record {
  small = few;
  inside = λ v x t. let r = edge_out g v x t in
      (subst (λ (u : ℕ). u < vertex_count g) r.1.source (well.sources r.0 r.1.inside), edge_target g well v x t);
  next = λ v x hv hx. p.other v x (λ e. omega arith) hx ∙ i.next v x hv hx;
  back = λ x v hx hv. p.other (B + x) v (λ e. omega arith) hv ∙ i.back x v hx hv;
  odd = λ v hv.
      let h : v < B = omega (arith, hv, few) in
      sym (p.here v h) ∙ d v h ∙ and_one _ (lt-ltb v (vertex_count g) hv) ∙ ap not (sym (own_even g v));
}
