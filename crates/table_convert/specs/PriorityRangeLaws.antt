-- Laws for the proofs of the code: where 36 doesn't hold, each new priority is a word; and the words that the code puts are the table.
use Rattle.std.specs.Prelude.{◌≡◌, refl, List, [], ◌∷◌, ◌++◌, ℕ, ◌+◌, ◌-◌, ◌*◌, ◌≤◌, ◌<◌, length, get_or, take, drop, set}
use Rattle.std.proofs.Common.{sym, ap, ◌∙◌, arith, length-drop, get_or-take}
use Rattle.std.proofs.Math.Decide.{ℕ_discrete}
use Rattle.theory.proofs.Logic.BoolsLaws.{clash}
use Rattle.theory.specs.Logic.Range.{tabulate}
use Rattle.theory.proofs.Logic.RangeLaws.{first_before}
use Rattle.theory.proofs.Logic.ListLaws.{length_tabulate, tabulate_by}
use Rattle.table.specs.Table.{vertex_count, table_edges, priority_at, table_length}
use Rattle.table.specs.Answers.{written}
use Rattle.table.specs.WellFormed.{WellFormed}
use Rattle.table.specs.Placing.{placed}
use Rattle.table.specs.PlacingLaws.{written_join, written_two}
use Rattle.table_convert.specs.LowestTable.{highest, even_from, even_above, lowered, lowest_table}
use Rattle.table_convert.specs.LowestTableLaws.{priority_le, lowest_parts}
use Rattle.table_convert.specs.ConvertCall.{oversize, first_oversize}
use Rattle.table_convert.specs.ConvertCallLaws.{oversize_in}
use Rattle.table_convert.specs.PriorityRange.{PriorityRange}

pub room : (g : List ℕ) → highest g ≤ 65535 → (n even : ℕ) → n ≡ vertex_count g → even ≡ even_above g → 2 + n ≤ first_oversize g → PriorityRange n even g
unfolding even_from first_oversize
room g few n even a b none v k =
    let h : v < vertex_count g = omega arith in
    (omega (arith, priority_le g v h), elim (ℕ_discrete (highest g) 65535) [ yes e ↦ (let d = some e in omega arith) | no d ↦ omega arith ])
  where
    -- the highest is 65,535, so no priority is 0
    some : highest g ≡ 65535 → priority_at g v ≡ 0 → ⊥
    some e z = clash (oversize_in g (2 + v) e z) (first_before (oversize g) 2 (2 + vertex_count g) (2 + v) (omega arith) (omega arith))

-- sizes, the new priorities, and the rest of the table behind them
parts : (g old o₁ o₂ : List ℕ) → let n = vertex_count g in let m = table_edges g in let rest = take (length g - (2 + n)) (drop (2 + n) g) in
    WellFormed g → table_length n m ≤ length old
    → o₁ ≡ placed 2 (tabulate n (lowered g)) (set (set old 0 n) 1 m) → o₂ ≡ placed (2 + n) (tabulate (n + 2 * m) (λ i. get_or rest i 0)) o₁
    → o₂ ≡ written (lowest_table g) old
parts g old o₁ o₂ well fits q₁ q₂ =
    let n = vertex_count g in
    let m = table_edges g in
    let rest = take (length g - (2 + n)) (drop (2 + n) g) in
    let sizes = n ∷ m ∷ [] in
    let front = sizes ++ tabulate n (lowered g) in
    let l : length front ≡ 2 + n = omega (arith, length_tabulate n (lowered g)) in
    let r₁ : o₁ ≡ written front old = q₁ ∙ rw (written_two n m old (omega arith)) (written_join 2 sizes (tabulate n (lowered g)) old refl (omega arith)) in
    let r₂ : o₂ ≡ written (front ++ tabulate (n + 2 * m) (λ i. get_or rest i 0)) old =
    q₂ ∙ rw r₁ (written_join (2 + n) front (tabulate (n + 2 * m) (λ i. get_or rest i 0)) old (sym l) (omega arith)) in
    let t : drop (2 + n) g ≡ tabulate (n + 2 * m) (λ i. get_or rest i 0) =
    tabulate_by (n + 2 * m) (λ i. get_or rest i 0) 0 (drop (2 + n) g) (length-drop (2 + n) g ∙ omega (arith, well.size)) (λ i h. sym (get_or-take (length g - (2 + n)) (drop (2 + n) g) i 0 (omega (arith, well.size)))) in
    r₂ ∙ ap (λ (ws : List ℕ). written ws old) (sym (lowest_parts g ∙ ap (λ (ws : List ℕ). front ++ ws) t))

-- the same by the numbers that the code has
pub table_parts : (g old o₁ o₂ : List ℕ) (n m even : ℕ) → n ≡ vertex_count g → m ≡ table_edges g → even ≡ even_above g
    → WellFormed g → table_length n m ≤ length old → o₁ ≡ placed 2 (tabulate n (λ v. even - priority_at g v)) (set (set old 0 n) 1 m)
    → o₂ ≡ placed (2 + n) (tabulate (n + 2 * m) (λ i. get_or (take (length g - (2 + n)) (drop (2 + n) g)) i 0)) o₁ → o₂ ≡ written (lowest_table g) old
table_parts g old o₁ o₂ n m even a b e well fits q₁ q₂ =
    parts g old o₁ o₂ well (rw (a, b) at fits) (rw (a, b, e) at q₁) (rw (a, b) at q₂)
