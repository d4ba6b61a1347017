-- The new table begins the buffer, and has as many vertices, so the memory fits it.
use Rattle.std.proofs.Common.{length-take-le, sym}
use native.Mathlib.Omega.{arith}
use Rattle.edit.proofs.EditCallLaws.{made_vertices, made_few, made_memory, made_part, made_room}
use Rattle.edit.proofs.apply_edit.Goals as goal

pub make_edit-edges-requires : goal.make_edit-edges-requires
make_edit-edges-requires c = record { formed = (c.requires.formed.0, c.requires.copy_value); clean = c.requires.clean }

pub overflow_mul-end-2 : goal.overflow_mul-end-2
overflow_mul-end-2 c = omega (arith, made_few c.args.edit _ _ _ c.requires.formed.0 c.requires.clean c.make_edit-edges.ensures)

pub overflow_add-end-2 : goal.overflow_add-end-2
overflow_add-end-2 c = omega (arith, made_few c.args.edit _ _ _ c.requires.formed.0 c.requires.clean c.make_edit-edges.ensures)

pub slice_bounds-fill_memory-end : goal.slice_bounds-fill_memory-end
slice_bounds-fill_memory-end c = omega (arith, made_room c.args.edit _ _ _ c.requires.formed.0 c.requires.clean c.make_edit-edges.ensures)

pub slice_bounds-fill_memory-end-2 : goal.slice_bounds-fill_memory-end-2
slice_bounds-fill_memory-end-2 c = sym (length-take-le _ _ (made_room c.args.edit _ _ _ c.requires.formed.0 c.requires.clean c.make_edit-edges.ensures))

pub fill_memory-k-requires : goal.fill_memory-k-requires
fill_memory-k-requires c = made_memory c.args.edit _ _ _ c.requires.formed.0 c.requires.clean c.make_edit-edges.ensures c.requires.formed.1

pub returns : goal.returns
returns c = record {
  made = c.make_edit-edges.ensures;
  vertices = made_vertices c.args.edit c.args.buffer.now c.args.source c.args.target c.requires.formed.0 c.requires.clean;
  memory = rw (made_part c.args.edit _ _ _ c.requires.formed.0 c.requires.clean c.make_edit-edges.ensures) at c.fill_memory-k.ensures;
}
