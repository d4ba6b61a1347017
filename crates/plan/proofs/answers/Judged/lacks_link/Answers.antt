-- An own position has a link exactly if its group isn't empty.
use native.Mathlib.Omega.{arith}
use Prim.Native.Nat.{ℕ, ◌<◌}
use mathlib.Core.Path.{◌≡◌, sym, ◌∙◌}
use mathlib.Core.List.{List}
use lib.ListN.{get_or}
use Rattle.plan_links.specs.PlanTable.{position_count, vertex_at}
use Rattle.plan.specs.Stamps.{LackSpace}
use Rattle.plan.specs.AnswerLaws.{lacks_own, lacks_other}
use Rattle.plan.proofs.answers.Judged.lacks_link.Goals as goal

-- the vertex of position i
below : {g : List ℕ} {player : ℕ} {w starts targets edge_starts edge_targets stamps : List ℕ} {i v : ℕ}
    → LackSpace g player w starts targets edge_starts edge_targets stamps
    → i < position_count w
    → v ≡ vertex_at w i
    → v < get_or g 0 0
below s h e = rw e (s.pass.formed.vertices _ h)

pub overflow_add-n-2 : goal.overflow_add-n-2
overflow_add-n-2 c =
    let s = c.requires.lack_space in
    omega (arith, below s c.requires.i_bound c.vertex_of-v.ensures, s.pass.game.vertices)

pub offset_bounds-self-n : goal.offset_bounds-self-n
offset_bounds-self-n c =
    let s = c.requires.lack_space in
    omega (arith, below s c.requires.i_bound c.vertex_of-v.ensures, s.pass.game.vertices)

pub bounds-self-n : goal.bounds-self-n
bounds-self-n c =
    let s = c.requires.lack_space in
    omega (arith, below s c.requires.i_bound c.vertex_of-v.ensures, s.pass.game.size)

pub returns-then-self-n : goal.returns-then-self-n
returns-then-self-n c = record {
  value = sym (lacks_own c.requires.lack_space c.args.i c.requires.i_bound (rw c.vertex_of-v.ensures at c.if-self-n.true));
  no_later_2 = λ x. omega (arith, c.requires.no_later x);
}

pub lacks_answer-requires : goal.lacks_answer-requires
lacks_answer-requires c =
    let s = c.requires.lack_space in
    record {
      answer_space = record {
        formed = s.pass.formed;
        few = s.pass.game.vertices;
        room = omega (arith, s.pass.game.vertices, s.room);
        position = c.requires.i_bound;
        links = (_, _, _, s.links);
        edges = (_, _, _, s.edges);
      };
      no_later = c.requires.no_later;
    }

pub returns : goal.returns
returns c =
    let r = c.lacks_answer.ensures in
    record {
      value = r.value ∙ sym (lacks_other c.requires.lack_space c.args.i c.requires.i_bound (rw c.vertex_of-v.ensures at c.if-self-n.false));
      no_later_2 = r.no_later_2;
    }
