-- Each bit of an `and` of two words is the `and` of their bits.
use Rattle.std.proofs.Common.{rules, arith, ◌≡◌, ◌/◌, ◌%◌, get_or, bit_and}
use Rattle.words.specs.Words.{has}
use Rattle.words.specs.WordLaws.{digit_and}
use Rattle.order_rows.proofs.row.common.Goals as goal

pub returns : goal.returns
unfolding has
returns c x h =
    let a = get_or c.args.a (x / 64) 0 in
    let b = get_or c.args.b (x / 64) 0 in
    let word : get_or c.from_fn.result (x / 64) 0 ≡ bit_and a b =
    (let s = c.from_fn.ensures.items.at (x / 64) 0 (omega arith) in search rules) in
    rw word (digit_and a b (x % 64))
