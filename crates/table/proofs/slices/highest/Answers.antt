-- Invariant: the highest of the words so far.
use mathlib.Core.Path.{◌≡◌, ◌∙◌, refl}
use native.Mathlib.Omega.{arith}
use Rattle.std.proofs.Common.{ℕ, ◌+◌, ◌-◌, ◌<◌, get_or, take, drop, length-take, get_or-take, get_or-drop}
use Rattle.std.specs.Prelude.{max}
use Rattle.std.specs.Ordering.{ord_max, nat_cmp}
use Rattle.std.proofs.lemmas.Bool.Decides.{nat_tests}
use Rattle.std.proofs.lemmas.Grind.{common_steps}
use Rattle.table.specs.Highest.{highest_of}
use Rattle.table.specs.HighestLaws.{highest_of_more}
use Rattle.table.proofs.slices.highest.Goals as goal

greater : (a b : ℕ) → ord_max nat_cmp a b ≡ max a b
greater a b = grind (arith, common_steps, nat_tests)

pub loop-word-init : goal.loop-word-init
unfolding highest_of
loop-word-init c = refl

pub loop-word-preserved : goal.loop-word-preserved
loop-word-preserved c = let a = c.args in
    let l = c.loop-word in
    let part = take (a.at + a.count - a.at) (drop a.at a.words.now) in
    let h : l.word-index < a.at + a.count - a.at = omega (arith, length-take (a.at + a.count - a.at) (drop a.at a.words.now)) in
    let e = get_or-take _ (drop a.at a.words.now) l.word-index 0 h ∙ get_or-drop a.at a.words.now l.word-index 0 in
    omega (arith, e, greater l.most (get_or part l.word-index 0), highest_of_more l.word-index (λ i. get_or a.words.now (a.at + i) 0))
