-- The marks after the passes are a preorder's, so the classes can be numbered by them.
use native.Mathlib.Omega.{arith}
use Rattle.classes.specs.OrderedMarksLaws.{held_done, held_preorder}
use Rattle.classes.specs.ClassesCallLaws.{relation_classes}
use Rattle.classes.proofs.fill_numbered.Goals as goal

pub fill_relation-requires : goal.fill_relation-requires
fill_relation-requires c = let f = c.requires.0.order_fits in
    record { well_formed = f.game; game_in_bounds = (f.marks_fit, f.spare_fit) }

pub fill_classes-requires : goal.fill_classes-requires
fill_classes-requires c = let p = c.requires in
    let m = c.args.mirror in
    record { preorder_marks = held_preorder m _ (held_done m p.0.order_fits.marks_fit c.fill_relation.ensures) p.1 p.0.order_fits.game; n_in_bounds = omega (arith, p.1, p.0.words_fit) }

pub returns : goal.returns
returns c = let e = c.fill_classes.ensures in
    relation_classes _ _ _ _ c.args.mirror c.requires.0 _ _ _ _ _ _ c.requires.1 c.fill_relation.ensures e.value e.classes_value
