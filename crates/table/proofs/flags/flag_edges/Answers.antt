-- Before edge j, the flags are those of the edges before it, and as many pairs are flagged as were counted.
use mathlib.Core.Path.{◌≡◌, sym, ap, ap₂, ◌∙◌}
use mathlib.Core.Bool.{not}
use Prim.Native.Nat.{ℕ, ◌+◌}
use native.Mathlib.Omega.{arith}
use Rattle.std.proofs.Common.{rules}
use Rattle.theory.specs.Logic.Bools.{bit}
use Rattle.table.specs.Flags.{different_below}
use Rattle.table.specs.FlagsLaws.{flagged_none, flagged_more, different_none, different_step, different_all, edge_flags}
use Rattle.table.proofs.flags.flag_edges.Goals as goal
use Rattle.table.proofs.flags.flag_edges.Goals.{then-not-flag_edge, else-not-flag_edge}

pub loop-j-init : goal.loop-j-init
loop-j-init c = (search rules, different_none _, flagged_none _ _ c.requires.pair_words_in_bounds.0 c.requires.pair_words_in_bounds.1)

pub loop-j-preserved : goal.loop-j-preserved
unfolding bit
loop-j-preserved c = let l = c.loop-j in
    let z = c.requires.sized in
    -- an edge is counted exactly if its flag was clear
    let x : different_below c.args.game.now (l.j + 1) ≡ l.different + bit (not c.flag_edge.result) =
    different_step c.args.game.now c.args.n c.args.m z.0 z.1 l.j l.flags c.loop-j-test.true l.invariant.2
    ∙ ap₂ (λ (d : ℕ) b. d + bit (not b)) (sym l.invariant.1) (sym c.flag_edge.ensures.value) in (
      search rules,
      elim c.if-not-flag_edge.branch [ then-not-flag_edge w ↦ let b : bit (not c.flag_edge.result) ≡ 1 = ap (λ y. bit (not y)) w.if-not-flag_edge.true in omega (arith, x, b) | else-not-flag_edge w ↦ let b : bit (not c.flag_edge.result) ≡ 0 = ap (λ y. bit (not y)) w.if-not-flag_edge.false in omega (arith, x, b) ],
      flagged_more _ l.j l.flags _ l.invariant.2 c.flag_edge.ensures.raised,
    )

pub returns : goal.returns
returns c = let l = c.loop-j in
    let e : l.j ≡ c.args.m = omega arith in
    let z = c.requires.sized in record { value = l.invariant.1 ∙ rw e (different_all c.args.game.now c.args.n c.args.m z.0 z.1); edge_flags = edge_flags c.args.game.now c.args.n c.args.m z.0 z.1 l.flags (omega arith) (rw e at l.invariant.2) }
