-- The lowest member is v, and its class is new, or it stands before v and has its class already.
use mathlib.Core.Path.{◌≡◌, sym, ap, ◌∙◌}
use Prim.Native.Nat.{ℕ, ◌≤◌, ◌<◌}
use native.Mathlib.Omega.{arith}
use lib.ListN.{get_or, set}
use Rattle.theory.specs.Order.Order.{Preorder}
use Rattle.theory.specs.Classes.Reduction.{class_number}
use Rattle.marks.specs.Marks.{relation}
use Rattle.classes.specs.Numbering.{Numbered}
use Rattle.classes.specs.NumberingLaws.{numbered_le, class_new, numbered_new, lowest_before, class_old, numbered_old}
use Rattle.classes.proofs.numbering.number_vertex.Goals as goal
use Rattle.classes.proofs.numbering.number_vertex.Lts as lts
use Rattle.classes.proofs.numbering.number_vertex.Reads as reads
use Rattle.classes.proofs.numbering.number_vertex.Tie as tie

preorder : (s : lts.Start tie.the-claims reads.Pre reads.Post tie.handed_clauses) → let a = s.args in Preorder a.n (relation a.n a.marks.now)
preorder s = s.requires.preorder_marks.preorder

numbered : (s : lts.Start tie.the-claims reads.Pre reads.Post tie.handed_clauses) → let a = s.args in Numbered a.n (relation a.n a.marks.now) a.v a.k a.classes.now a.reps.now
numbered s = s.requires.numbered

vertex : (s : lts.Start tie.the-claims reads.Pre reads.Post tie.handed_clauses) → s.args.v < s.args.n
vertex s = s.requires.v_lt_n.0

-- at most one class a vertex
few : (s : lts.Start tie.the-claims reads.Pre reads.Post tie.handed_clauses) → s.args.k ≤ s.args.v
few s = numbered_le (preorder s) (numbered s) (vertex s)

-- the lowest member stands before v, where it isn't v, and has v's class
earlier : (c : lts.Else1 tie.the-claims reads.Pre reads.Post tie.handed_clauses) → c.lowest_member-low.result < c.args.v
earlier c =
    let e = c.lowest_member-low.ensures in
    omega (arith, e, lowest_before (preorder c.before.before.before.before.before) (numbered c.before.before.before.before.before) (vertex c.before.before.before.before.before) (λ q. c.if-low-v.false (e ∙ q)))

class : (c : lts.Else1 tie.the-claims reads.Pre reads.Post tie.handed_clauses)
    → let a = c.args in get_or a.classes.now c.lowest_member-low.result 0 ≡ class_number a.n (relation a.n a.marks.now) a.v
class c =
    let e = c.lowest_member-low.ensures in
    ap (λ (u : ℕ). get_or c.args.classes.now u 0) e ∙ class_old (preorder c.before.before.before.before.before) (numbered c.before.before.before.before.before) (vertex c.before.before.before.before.before) (λ q. c.if-low-v.false (e ∙ q))

pub overflow_cast-classes : goal.overflow_cast-classes
overflow_cast-classes c = omega (arith, few c.before.before.before.before.before.before, c.requires.preorder_marks.few)

pub overflow_cast-reps : goal.overflow_cast-reps
overflow_cast-reps c = omega (arith, c.requires.preorder_marks.few)

pub offset_bounds-reps-k : goal.offset_bounds-reps-k
offset_bounds-reps-k c = omega (arith, few c.before.before.before.before.before.before)

pub bounds-reps-k : goal.bounds-reps-k
bounds-reps-k c = omega (arith, few c.before.before.before.before.before.before)

pub overflow_add-result : goal.overflow_add-result
overflow_add-result c = omega (arith, few c.before.before.before.before.before.before)

pub returns-then-low-v : goal.returns-then-low-v
returns-then-low-v c = let e = sym c.lowest_member-low.ensures ∙ c.if-low-v.true in record { classes_value = ap (set c.args.classes.now c.args.v) (class_new (preorder c.before.before.before.before.before.before) (numbered c.before.before.before.before.before.before) (vertex c.before.before.before.before.before.before) e); numbered_2 = numbered_new (preorder c.before.before.before.before.before.before) (numbered c.before.before.before.before.before.before) (vertex c.before.before.before.before.before.before) e (omega arith) (omega (arith, few c.before.before.before.before.before.before)) }

pub offset_bounds-classes-low : goal.offset_bounds-classes-low
offset_bounds-classes-low c = omega (arith, earlier c.before)

pub bounds-classes-low : goal.bounds-classes-low
bounds-classes-low c = omega (arith, earlier c.before.before)

pub returns : goal.returns
returns c = let e = class c.before.before in record { classes_value = ap (set c.args.classes.now c.args.v) e; numbered_2 = numbered_old (preorder c.before.before.before.before.before.before.before) (numbered c.before.before.before.before.before.before.before) (vertex c.before.before.before.before.before.before.before) (λ q. c.if-low-v.false (c.lowest_member-low.ensures ∙ q)) _ e (omega arith) }
