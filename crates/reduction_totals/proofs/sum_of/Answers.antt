-- The words are below 65,536, so the sum of at most 512 fits.
use Rattle.std.proofs.Common.{rules, ◌≡◌, ◌≤◌, ◌<◌, ◌^◌, ◌∙◌, length, get_or, ℕ, List, zero, suc, take, arith, add-one}
use Rattle.std.specs.List.{sum_by}
use Rattle.std.proofs.lemmas.List.Sums.{sum_by_more}
use Rattle.theory.specs.Logic.Range.{sum}
use Rattle.theory.proofs.Logic.SumLaws.{sum_none, sum_next, sum_le}
use Rattle.reduction_totals.proofs.sum_of.Goals as goal

-- the library's sum of the first k words
same : (k : ℕ) (words : List ℕ) → k ≤ length words → sum_by (λ x. x) (take k words) ≡ sum k (λ c. get_or words c 0)
same zero words h = sum_none (λ c. get_or words c 0)
same (suc k) words h =
    let e = sum_by_more (λ (x : ℕ). x) words k 0 (omega arith) in
    let s = sum_next (λ c. get_or words c 0) k in
    let i = same k words (omega arith) in
    rw (← add-one k) (omega (arith, e, s, i))

pub sum-requires-clause-fits : goal.sum-requires-clause-fits
sum-requires-clause-fits c = let a = c.args in
    let s : (n : ℕ) → n ≤ a.k → sum_by (λ (x : ℕ). x) (take n a.values.now) < 2 ^ 64 =
    λ n h. omega (arith, same n a.values.now (omega arith), sum_le n 65535 (λ c. get_or a.values.now c 0) (λ v. omega (arith, c.type_inv.values v))) in
    search rules

pub returns : goal.returns
returns c = let a = c.args in
    let s : c.sum.result ≡ sum_by (λ (x : ℕ). x) (take a.k a.values.now) = search rules in
    s ∙ same a.k a.values.now c.requires.1
