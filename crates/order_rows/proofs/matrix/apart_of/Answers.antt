-- Word j gets the bits k of word j of `which` for which row 64 × j + k does not meet x.
use Rattle.std.proofs.Common.{rules, arith, ℕ, ◌≡◌, ◌+◌, ◌*◌, ◌/◌, ◌%◌, ◌<◌, get_or}
use Rattle.theory.specs.Logic.Bools.{◌&◌}
use Rattle.words.specs.Word.{word_bits, digit}
use Rattle.words.specs.Words.{has}
use Rattle.order_rows.specs.Bits.{apart}
use Rattle.order_rows.proofs.matrix.apart_of.Goals as goal

pub returns : goal.returns
unfolding has
returns c v h =
    let a = c.args in
    let j = v / 64 in
    let word : (k : ℕ) → k < word_bits → digit (get_or c.from_fn.result j 0) k ≡ digit (get_or a.which j 0) k & apart a.words.now (j * 64 + k) a.x =
    (let s = c.from_fn.ensures.items.at j 0 (omega arith) in search rules) in
    let e : j * 64 + v % 64 ≡ v = omega arith in
    rw e at (word (v % 64) (omega arith))
