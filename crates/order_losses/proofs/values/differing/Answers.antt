-- Word j gets the bits of the 64 vertices from 64 × j on.
use Rattle.std.proofs.Common.{rules, arith, ℕ, ◌≡◌, ◌+◌, ◌*◌, ◌/◌, ◌%◌, ◌<◌, get_or}
use Rattle.words.specs.Word.{word_bits, digit}
use Rattle.words.specs.Words.{has}
use Rattle.order_sets.specs.Losses.{differs}
use Rattle.order_losses.proofs.values.differing.Goals as goal

pub returns : goal.returns
unfolding has
returns c v h =
    let a = c.args in
    let j = v / 64 in
    let word : (k : ℕ) → k < word_bits → digit (get_or c.from_fn.result j 0) k ≡ differs a.words.now a.from a.n a.value (j * 64 + k) =
    (let s = c.from_fn.ensures.items.at j 0 (omega arith) in search rules) in
    let e : j * 64 + v % 64 ≡ v = omega arith in
    rw e at (word (v % 64) (omega arith))
