-- Each step is one of `RunLaws`: a jump over a run, the place that fails, or the next place.
use mathlib.Core.Path.{◌≡◌, sym, ◌∙◌}
use mathlib.Core.Bool.{Bool, false, So}
use native.Mathlib.Omega.{arith}
use lib.Dec.{ltb}
use borrow.Author.Tests.{ltb-true}
use Rattle.theory.specs.Logic.Bools.{◌&◌}
use Rattle.theory.proofs.Logic.BoolsLaws.{and_out}
use Rattle.large_solution.specs.Places.{place_over, from_last}
use Rattle.large_solution.proofs.RunLaws.{runs_start, runs_jump, runs_hit, runs_next, runs_end, jump_falls, next_falls}
use Rattle.large_solution.proofs.Places.first_bad_run.Reads as reads
use Rattle.large_solution.proofs.Places.first_bad_run.Lts as lts
use Rattle.large_solution.proofs.Places.first_bad_run.Goals as goal
use Rattle.large_solution.proofs.Places.first_bad_run.Lts as lts
use Rattle.large_solution.proofs.Places.first_bad_run.Reads as reads
use Rattle.large_solution.proofs.Places.first_bad_run.Tie as tie

-- the test at hand
abbrev tested : (c : lts.In-loop tie.the-claims reads.Pre reads.Post goal.the-invariant-loop-k goal.the-decreases-loop-k) → Bool
tested c = let a = c.args in
    let l = c.loop-k in
    ltb l.j a.self.moves.n & place_over a.self.moves.game.now a.self.moves.solution.now a.self.certificate.now a.self.moves.n (from_last a.self.moves.n l.k) l.j

in_run : (c : lts.Then1 tie.the-claims reads.Pre reads.Post goal.the-invariant-loop-k goal.the-decreases-loop-k) → So (tested c.before.before)
in_run c = sym c.is_in_run.ensures ∙ c.if-is_in_run.true

past_run : (c : lts.Else1 tie.the-claims reads.Pre reads.Post goal.the-invariant-loop-k goal.the-decreases-loop-k) → tested c.before.before ≡ false
past_run c = sym c.is_in_run.ensures ∙ c.if-is_in_run.false

pub loop-k-init : goal.loop-k-init
loop-k-init c = runs_start _ _ _ _

pub bounds-self-self : goal.bounds-self-self
bounds-self-self c = omega (arith, c.requires.1.size, ltb-true c.loop-k.j c.args.self.moves.n (and_out (in_run c)).0)

pub loop-k-smaller-then-is_in_run : goal.loop-k-smaller-then-is_in_run
loop-k-smaller-then-is_in_run c = jump_falls _ _ _ _ _ _ c.loop-k.invariant c.loop-k-test.true (in_run c.before)

pub loop-k-preserved-then-is_in_run : goal.loop-k-preserved-then-is_in_run
loop-k-preserved-then-is_in_run c = runs_jump _ _ _ _ _ _ c.loop-k.invariant c.loop-k-test.true (in_run c.before)

pub returns-then-self-i : goal.returns-then-self-i
returns-then-self-i c = runs_hit _ _ _ _ _ _ c.loop-k.invariant c.loop-k-test.true (past_run c.before.before) c.if-self-i.true

pub loop-k-smaller : goal.loop-k-smaller
loop-k-smaller c = next_falls _ _ _ _ _ _ c.loop-k.invariant c.loop-k-test.true (past_run c.before.before)

pub loop-k-preserved : goal.loop-k-preserved
loop-k-preserved c = runs_next _ _ _ _ _ _ c.loop-k.invariant c.loop-k-test.true (past_run c.before.before) c.if-self-i.false

pub returns : goal.returns
returns c = runs_end _ _ _ _ _ _ c.loop-k.invariant c.loop-k-test.false
