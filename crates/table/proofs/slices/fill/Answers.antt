-- The words of the part are copies of the one.
use native.Mathlib.Omega.{arith}
use mathlib.Core.Path.{◌≡◌, ◌∙◌}
use Rattle.std.proofs.Common.{◌+◌, ◌-◌, length, take, drop, length-take, length-drop}
use Rattle.std.proofs.lemmas.List.{length-replicate, get_or-replicate}
use Rattle.theory.specs.Logic.Range.{tabulate}
use Rattle.theory.proofs.Logic.ListLaws.{tabulate_by, length_tabulate}
use Rattle.table.specs.PlacingLaws.{placed_part}
use Rattle.table.proofs.slices.fill.Goals as goal

pub returns : goal.returns
returns c = let a = c.args in
    let n = length (take (a.at + a.count - a.at) (drop a.at a.words.now)) in
    let l : n ≡ a.count = simp (length-take, length-drop) (omega arith) in
    let e : c.fill.new.self ≡ tabulate a.count (λ i. a.value) = c.fill.ensures.after (λ y h. h) ∙ tabulate_by a.count _ 0 _ (length-replicate n a.value ∙ l) (λ i h. get_or-replicate n i a.value 0 (omega arith)) in
    placed_part _ _ _ _ e (omega (arith, length_tabulate a.count (λ i. a.value)))
