-- The sizes of a large game are words of its table, so they fit the answer's fields.
use Rattle.std.specs.Prelude.{◌≡◌, List, ℕ, get_or, Result, Ok, Err}
use Rattle.std.proofs.Common.{arith, Fits}
use Rattle.std.specs.Int.{w32}
use Rattle.table.specs.Filling.{filling_answer}
use Rattle.large_table.specs.Reading.{large_answer}
use Rattle.large_table.specs.ReadingLaws.{large_sized}
use Rattle.abi_answer.specs.Fields.{SmallFilling}
use Rattle.table.specs.declared.Refusal.{Refusal}
use Rattle.table.specs.declared.FilledSizes.{FilledSizes}

pub large_small : (g : List ℕ) → ((k : ℕ) → Fits w32 (get_or g k 0)) → (r : Result FilledSizes Refusal) → filling_answer r ≡ large_answer g → SmallFilling r
large_small g word (Ok sizes) e =
    let s = large_sized g sizes e in
    (omega (arith, s.vertices, word 0), omega (arith, s.edges, word 1))
large_small g word (Err refusal) e = tt
