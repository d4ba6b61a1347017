-- A bit of a ^ (a & b) is set exactly if it is set in a and not in b.
use Rattle.std.proofs.Common.{rules, arith, ◌≡◌, ◌/◌, ◌%◌, get_or, bit_and, bit_xor}
use Rattle.words.specs.Words.{has}
use Rattle.words.specs.WordLaws.{digit_less}
use Rattle.order_rows.proofs.row.without.Goals as goal

pub returns : goal.returns
unfolding has
returns c x h =
    let a = get_or c.args.a (x / 64) 0 in
    let b = get_or c.args.b (x / 64) 0 in
    let word : get_or c.from_fn.result (x / 64) 0 ≡ bit_xor a (bit_and a b) =
    (let s = c.from_fn.ensures.items.at (x / 64) 0 (omega arith) in search rules) in
    rw word (digit_less a b (x % 64))
