-- The buffer ends before the table does, or the sizes tell.
use native.Mathlib.Omega.{arith}
use mathlib.Core.List.{List}
use mathlib.Core.Path.{◌≡◌, refl}
use lib.ListN.{length, take}
use Prim.Native.Nat.{ℕ, min}
use Rattle.std.proofs.Common.{rules}
use Rattle.std.proofs.Math.Decide.{dec_lt}
use Rattle.table.specs.Table.{vertex_count, table_edges, table_length, table_in}
use Rattle.edit_rules.proofs.BufferLaws.{in_all}
use Rattle.edit_rules.proofs.buffer.table_end.Goals as goal

in_least : (buffer : List ℕ) → take (min (table_length (vertex_count buffer) (table_edges buffer)) (length buffer)) buffer ≡ table_in buffer
in_least buffer =
    let needed = table_length (vertex_count buffer) (table_edges buffer) in
    elim (dec_lt (length buffer) needed) [
      | yes l ↦ (let e : min needed (length buffer) ≡ length buffer = omega arith in rw e (in_all buffer (omega arith)))
      | no g ↦ (let e : min needed (length buffer) ≡ needed = omega arith in rw e refl)
    ]

pub returns-then-len-lt2 : goal.returns-then-len-lt2
returns-then-len-lt2 c = (search rules, in_all c.args.buffer.now (omega (arith, c.if-len-lt2.true)))

pub returns : goal.returns
returns c = (omega arith, rw c.min.ensures (in_least c.args.buffer.now))
