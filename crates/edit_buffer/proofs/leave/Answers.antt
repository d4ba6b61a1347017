-- The table's words up to its owners stay; the sources and the targets that stay are put behind them, and zeros behind these.
use Rattle.std.proofs.Common.{◌≡◌, ◌≤◌, List, ℕ, true, refl, sym, subst, arith}
use lib.ListN.{length-set}
use lib.Seq.{length-take-le}
use Rattle.theory.specs.Logic.Range.{first}
use Rattle.table.specs.Limits.{edge_limit}
use Rattle.edit_rules.specs.EditParts.{Formed, leads}
use Rattle.edit_rules.proofs.EditPartsLaws.{formed_room, formed_part, leaving_few, leaving_made}
use Rattle.edit_buffer.proofs.leave.Goals as goal

pub slice_bounds-list_others-end : goal.slice_bounds-list_others-end
slice_bounds-list_others-end c = let a = c.args in omega (arith, formed_room a.buffer.now a.n a.m c.requires.0)

pub slice_bounds-list_others-end-2 : goal.slice_bounds-list_others-end-2
slice_bounds-list_others-end-2 c = let a = c.args in sym (length-take-le _ _ (formed_room a.buffer.now a.n a.m c.requires.0))

pub list_others-e-requires : goal.list_others-e-requires
list_others-e-requires c =
    let a = c.args in
    let part = formed_part a.buffer.now a.n a.m c.requires.0 in
    let few : a.m ≤ edge_limit = omega (arith, c.requires.0.edges, c.requires.0.well.edges) in
    record {
      formed = subst (λ (g : List ℕ). Formed g a.n a.m × (a.copy ≡ first (leads g a.s a.t true) 0 a.m)) (sym part) c.requires;
      m_in_bounds = (omega arith, omega arith);
    }

pub overflow_cast-buffer : goal.overflow_cast-buffer
overflow_cast-buffer c =
    let a = c.args in
    let part = formed_part a.buffer.now a.n a.m c.requires.0 in
    let few = leaving_few a.buffer.now a.n a.m c.requires.0 a.s a.t (rw part at c.list_others-e.ensures) in
    omega (arith, few, c.requires.0.edges, c.requires.0.well.edges)

pub bounds-buffer-1 : goal.bounds-buffer-1
bounds-buffer-1 c = let a = c.args in omega (arith, formed_room a.buffer.now a.n a.m c.requires.0)

pub copy-requires : goal.copy-requires
copy-requires c =
    let a = c.args in
    let room = formed_room a.buffer.now a.n a.m c.requires.0 in
    let part = formed_part a.buffer.now a.n a.m c.requires.0 in
    let few = leaving_few a.buffer.now a.n a.m c.requires.0 a.s a.t (rw part at c.list_others-e.ensures) in
    (simp length-set (omega (arith, few, room)), omega (arith, c.list_others-e.auto, few, c.requires.0.edges, c.requires.0.well.edges))

pub overflow_add-n-3 : goal.overflow_add-n-3
overflow_add-n-3 c =
    let a = c.args in
    let room = formed_room a.buffer.now a.n a.m c.requires.0 in
    let part = formed_part a.buffer.now a.n a.m c.requires.0 in
    let few = leaving_few a.buffer.now a.n a.m c.requires.0 a.s a.t (rw part at c.list_others-e.ensures) in
    omega (arith, few, c.requires.0.vertices, c.requires.0.well.vertices, c.requires.0.edges, c.requires.0.well.edges)

pub copy-requires-2 : goal.copy-requires-2
copy-requires-2 c =
    let a = c.args in
    let room = formed_room a.buffer.now a.n a.m c.requires.0 in
    let part = formed_part a.buffer.now a.n a.m c.requires.0 in
    let few = leaving_few a.buffer.now a.n a.m c.requires.0 a.s a.t (rw part at c.list_others-e.ensures) in (
      omega (arith, simp length-set at c.copy.auto.words, few, room),
      omega (arith, c.list_others-e.auto, few, c.requires.0.edges, c.requires.0.well.edges),
    )

pub fill-requires : goal.fill-requires
fill-requires c =
    let a = c.args in
    let room = formed_room a.buffer.now a.n a.m c.requires.0 in
    let part = formed_part a.buffer.now a.n a.m c.requires.0 in
    let few = leaving_few a.buffer.now a.n a.m c.requires.0 a.s a.t (rw part at c.list_others-e.ensures) in
    omega (arith, c.copy-2.auto.words, simp length-set at c.copy.auto.words, few, room)

pub overflow_mul-e : goal.overflow_mul-e
overflow_mul-e c =
    let a = c.args in
    let part = formed_part a.buffer.now a.n a.m c.requires.0 in
    let few = leaving_few a.buffer.now a.n a.m c.requires.0 a.s a.t (rw part at c.list_others-e.ensures) in
    omega (arith, few, c.requires.0.edges, c.requires.0.well.edges)

pub overflow_add-n-5 : goal.overflow_add-n-5
overflow_add-n-5 c =
    let a = c.args in
    let part = formed_part a.buffer.now a.n a.m c.requires.0 in
    let few = leaving_few a.buffer.now a.n a.m c.requires.0 a.s a.t (rw part at c.list_others-e.ensures) in
    omega (arith, few, c.requires.0.vertices, c.requires.0.well.vertices, c.requires.0.edges, c.requires.0.well.edges)

pub overflow_sub-m : goal.overflow_sub-m
overflow_sub-m c =
    let a = c.args in
    let part = formed_part a.buffer.now a.n a.m c.requires.0 in
    leaving_few a.buffer.now a.n a.m c.requires.0 a.s a.t (rw part at c.list_others-e.ensures)

pub returns : goal.returns
returns c =
    let a = c.args in
    let part = formed_part a.buffer.now a.n a.m c.requires.0 in
    leaving_made _ _ _ c.requires.0 _ _ _ _ _ _ _ _ _ _ _ (rw part at c.list_others-e.ensures) refl c.copy.ensures c.copy-2.ensures c.fill.ensures
