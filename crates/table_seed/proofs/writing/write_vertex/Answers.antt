-- Two draws and their stores, and then the edges.
use Rattle.std.proofs.Common.{◌∙◌, arith, length-set}
use Rattle.table_seed.specs.ProgressLaws.{vertex_more}
use Rattle.table_seed.proofs.writing.write_vertex.Goals as goal

pub bounds-output-n : goal.bounds-output-n
bounds-output-n c = simp length-set (omega arith)

pub shape_of-output : goal.shape_of-output
shape_of-output c = c.write_edges.auto.output ∙ simp length-set

pub returns : goal.returns
returns c = let y = c.draw_below-owner.ensures in
    let x = c.draw_below-priority.ensures in
    vertex_more _ _ _ c.requires.0.degree c.requires.2 _ _ _ _ _ c.requires.0.fits (rw (y.1, y.0, x.1, x.0) at c.write_edges.ensures)
