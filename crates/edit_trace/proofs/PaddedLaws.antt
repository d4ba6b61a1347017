-- Laws of a table with zeros behind it, in a buffer.
use Rattle.std.specs.Prelude.{◌≡◌, refl, List, ℕ, ◌+◌, ◌-◌, ◌≤◌, ◌<◌, max, get_or, take}
use Rattle.std.proofs.Common.{sym, ◌∙◌, append-nil, append_assoc, length-append, take-append-drop, ext_get_or, get_or-append-add, length-take-le, take_at}
use Rattle.std.proofs.Math.Decide.{dec_lt}
use native.Mathlib.Omega.{arith}
use Rattle.std.proofs.Math.ListN.{length, get_or-append}
use Rattle.theory.specs.Logic.Range.{tabulate}
use Rattle.theory.proofs.Logic.ListLaws.{length_tabulate, get_d_tabulate}
use Rattle.table.specs.Table.{vertex_count, table_edges, table_length, table_in}
use Rattle.table.specs.Answers.{written}
use Rattle.table.specs.AnswersLaws.{length_written, get_d_written, get_d_written_beyond}
use Rattle.edit_trace.specs.Run.{padded}

pub length_padded : (g : List ℕ) (longest : ℕ) → length (padded g longest) ≡ max (length g) longest
unfolding padded
length_padded g longest = simp (length-append, length_tabulate) (omega arith)

-- the words of a buffer that holds it
module _ (g : List ℕ) (longest : ℕ) (old : List ℕ) (i : ℕ) where
  abbrev word : ℕ
  word = get_or (written (padded g longest) old) i 0

  pub in_table : i < length g → word ≡ get_or g i 0
  unfolding padded
  in_table h = get_d_written (padded g longest) old i 0 (omega (arith, length_padded g longest)) ∙ get_or-append g _ 0 i h

  pub in_zeros : length g ≤ i → i < longest → word ≡ 0
  unfolding padded
  in_zeros h l =
      let e : i ≡ length g + (i - length g) = omega arith in
      get_d_written (padded g longest) old i 0 (omega (arith, length_padded g longest))
      ∙ rw e (get_or-append-add g _ (i - length g) 0 ∙ get_d_tabulate (longest - length g) (λ k. 0) 0 (i - length g) (omega arith))

  pub beyond : length g ≤ i → longest ≤ i → word ≡ get_or old i 0
  beyond h l = get_d_written_beyond (padded g longest) old i 0 (omega (arith, length_padded g longest))

-- written over another table that had zeros behind it
module _ (new g old : List ℕ) (longest : ℕ) (long : length g ≤ longest) (fits : max longest (length new) ≤ length old) where
  abbrev middle : List ℕ
  middle = written (padded g longest) old

  abbrev over : List ℕ
  over = written (padded new (length g)) middle

  middle_length : length middle ≡ length old
  middle_length = length_written (padded g longest) old (omega (arith, length_padded g longest))

  over_length : length over ≡ length old
  over_length = length_written (padded new (length g)) middle (omega (arith, length_padded new (length g), middle_length)) ∙ middle_length

  whole_length : length (written (padded new (max longest (length new))) old) ≡ length old
  whole_length = length_written (padded new (max longest (length new))) old (omega (arith, length_padded new (max longest (length new))))

  over_word : (i : ℕ) → get_or over i 0 ≡ get_or (written (padded new (max longest (length new))) old) i 0
  over_word i = elim (dec_lt i (length new)) [
    | yes l ↦ in_table new (length g) middle i l ∙ sym (in_table new (max longest (length new)) old i l)
    | no d ↦ elim (dec_lt i (length g)) [
      | yes l ↦ in_zeros new (length g) middle i (omega arith) l ∙ sym (in_zeros new (max longest (length new)) old i (omega arith) (omega arith))
      | no d₁ ↦ beyond new (length g) middle i (omega arith) (omega arith) ∙ (elim (dec_lt i longest) [
        | yes l ↦ in_zeros g longest old i (omega arith) l ∙ sym (in_zeros new (max longest (length new)) old i (omega arith) (omega arith))
        | no d₂ ↦ beyond g longest old i (omega arith) (omega arith) ∙ sym (beyond new (max longest (length new)) old i (omega arith) (omega arith))
      ])
    ]
  ]

  pub padded_over : over ≡ written (padded new (max longest (length new))) old
  padded_over = ext_get_or 0 over _ (over_length ∙ sym whole_length) (λ i h. over_word i)

-- a table that begins a buffer, with nothing behind it
pub padded_start : (N : ℕ) (buffer : List ℕ) → N ≤ length buffer → buffer ≡ written (padded (take N buffer) (length (take N buffer))) buffer
unfolding padded written tabulate
padded_start N buffer h =
    let l = length-take-le N buffer h in
    let z : N - N ≡ 0 = omega arith in
    rw (l, z, append-nil, l) (sym (take-append-drop N buffer))

-- it begins with the table
pub padded_in : (g : List ℕ) (longest : ℕ) (old : List ℕ) → length g ≡ table_length (vertex_count g) (table_edges g) → table_in (written (padded g longest) old) ≡ g
unfolding padded written
padded_in g longest old size =
    let v = in_table g longest old 0 (omega arith) in
    let m = in_table g longest old 1 (omega arith) in
    rw (v, m, ← size, append_assoc) (take_at g _ (length g) refl)
