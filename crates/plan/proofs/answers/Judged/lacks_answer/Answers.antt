-- After the stamps of position i, a vertex has none exactly if no link of i answers it.
use native.Mathlib.Omega.{arith}
use Prim.Native.Nat.{ℕ, ◌<◌, ◌+◌}
use mathlib.Core.Path.{◌∙◌}
use lib.ListN.{get_or}
use Rattle.plan_links.specs.PlanFormedLaws.{formed_wider}
use Rattle.plan.specs.StampsLaws.{stamped_le, unstamped_unanswered, among_ext}
use Rattle.plan.proofs.answers.Judged.lacks_answer.Goals as goal

pub overflow_add-stamp : goal.overflow_add-stamp
overflow_add-stamp c = let space = c.requires.answer_space in omega (arith, space.position, space.formed.sized.positions)

pub overflow_cast-stamp : goal.overflow_cast-stamp
overflow_cast-stamp c = let space = c.requires.answer_space in omega (arith, space.position, space.formed.sized.positions)

pub stamp_answers-requires : goal.stamp_answers-requires
stamp_answers-requires c = let space = c.requires.answer_space in
    record { plan_formed = (formed_wider _ space.room space.formed, space.position); indexed = space.links }

pub vertex_of-v-requires : goal.vertex_of-v-requires
vertex_of-v-requires c = let space = c.requires.answer_space in (space.formed.sized, space.position)

pub some_unstamped-requires : goal.some_unstamped-requires
some_unstamped-requires c = let space = c.requires.answer_space in record {
  indexed = space.edges;
  v_lt_n = (
    rw c.vertex_of-v.ensures (space.formed.vertices c.args.i space.position),
    space.few,
    omega (arith, space.room),
  );
}

pub returns : goal.returns
returns c = let stamped = c.stamp_answers.ensures in
    let old : (x : ℕ) → get_or c.args.stamps.now x 0 < c.args.i + 1 = λ x. omega (arith, c.requires.no_later x) in record { value = c.some_unstamped.ensures ∙ rw c.vertex_of-v.ensures (among_ext _ _ _ _ _ (unstamped_unanswered _ _ _ _ _ _ _ stamped old)); no_later_2 = stamped_le _ _ _ _ _ _ _ stamped old }
