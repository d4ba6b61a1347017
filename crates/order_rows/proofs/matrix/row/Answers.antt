-- Word k of row v is the word at v × WORDS + k.
use Rattle.std.proofs.Common.{rules, arith, ◌≡◌, ◌+◌, ◌*◌, ◌/◌, get_or, refl}
use Rattle.words.specs.Words.{has}
use Rattle.order_rows.specs.Bits.{cell}
use Rattle.order_rows.proofs.matrix.row.Goals as goal

pub returns : goal.returns
unfolding has cell
returns c x h =
    let word : get_or c.from_fn.result (x / 64) 0 ≡ get_or c.args.words.now (c.args.v * 8 + x / 64) 0 =
    (let s = c.from_fn.ensures.items.at (x / 64) 0 (omega arith) in search rules) in
    rw word refl
