-- What an accepted conversion keeps, about the words read and the words written: winners, the order, classes and the edges between them;
-- and what two conversions in a row do.
use Rattle.std.specs.Prelude.{◌≡◌, refl, ◌↔◌, List, [], ◌∷◌, ℕ, ◌+◌, ◌-◌, ◌%◌, ◌≤◌, ◌<◌, min, max}
use Rattle.std.proofs.Common.{arith}
use Rattle.theory.specs.Games.Game.{Player, edge_count}
use Rattle.theory.specs.Plans.Plan.{Plan, WinsBy, Won}
use Rattle.theory.specs.Games.ParityMap.{ParityMap}
use Rattle.theory.proofs.Games.ParityMapLaws.{highest_lowest, lowest_highest}
use Rattle.theory.specs.Games.Agreement.{AgreeBy}
use Rattle.theory.proofs.Games.AgreementLaws.{agree_by_wins, agree_order_marks, agree_passes, agree_order, agree_class, agree_quotient, agree_reduced}
use Rattle.theory.specs.Order.Order.{order, order_marks, order_passes}
use Rattle.theory.specs.Classes.Reduction.{quotient, reduced, class_of}
use Rattle.theory.proofs.Winners.KeptWinners.{reduced_winner}
use Rattle.table.specs.Table.{vertex_count, table_edges, priority_at, table_in, game_of}
use Rattle.table.specs.Answers.{accepted}
use Rattle.table.specs.Reading.{read_answer}
use Rattle.table_convert.specs.LowestTable.{highest, even_above, lowered, lowest_table}
use Rattle.table_convert.specs.LowestTableLaws.{even_from_even, priority_le, lowest_vertices, lowest_priority, lowest_agree, lowest_falls, lowest_read}
use Rattle.table_convert.specs.ConvertCall.{ConvertCall}
use Rattle.table_convert.specs.ConvertRulesLaws.{convert_accepted, written_table_lem}

-- ---- of a table and the one that it is converted to

module _ (g : List ℕ) (a : Player) (P : Plan) (v : ℕ) where
  converted_wins : {op op' : ℕ → ℕ → ℕ} → ParityMap (λ q. q ≤ even_above g) op op' (λ q. even_above g - q)
      → WinsBy op a (game_of g) P v ↔ WinsBy op' a (game_of (lowest_table g)) P v
  unfolding game_of
  converted_wins t = agree_by_wins (lowest_agree g) t (λ w h. priority_le g w h) a P v

-- ---- one conversion

module _ {game output counts output' : List ℕ} (call : ConvertCall game output (accepted counts) output') where
  abbrev converted : List ℕ
  converted = table_in output'

  -- the reader accepts what is written, with the same vertices, edges and different edges
  pub written_read : read_answer converted ≡ accepted (vertex_count game ∷ table_edges game ∷ edge_count (game_of game) ∷ [])
  written_read = rw (written_table_lem call) (lowest_read game (convert_accepted call counts refl).0.well)

  -- the games agree but for the priorities: q is M − q
  written_agree : AgreeBy (λ q. even_above game - q) (game_of game) (game_of converted)
  written_agree = rw (written_table_lem call) (lowest_agree game)

  -- "a plan wins on the table read with "highest" in the parity rule exactly when it wins on the table written with "lowest""
  pub highest_wins : (a : Player) (P : Plan) (v : ℕ) → WinsBy max a (game_of game) P v ↔ WinsBy min a (game_of converted) P v
  highest_wins a P v = rw (written_table_lem call) (converted_wins game a P v (highest_lowest (even_above game) (even_from_even (highest game))))

  -- and the other way round: a table where the lowest decides becomes one where the highest does
  pub lowest_wins : (a : Player) (P : Plan) (v : ℕ) → WinsBy min a (game_of game) P v ↔ WinsBy max a (game_of converted) P v
  lowest_wins a P v = rw (written_table_lem call) (converted_wins game a P v (lowest_highest (even_above game) (even_from_even (highest game))))

  -- "both tables have the same direct simulation order", so the same passes and classes
  pub same_order : order (game_of game) ≡ order (game_of converted)
  same_order = agree_order written_agree

  pub same_marks : order_marks (game_of game) ≡ order_marks (game_of converted)
  same_marks = agree_order_marks written_agree

  pub same_passes : order_passes (game_of game) ≡ order_passes (game_of converted)
  same_passes = agree_passes written_agree

  pub same_class_lem : (v : ℕ) → class_of (game_of game) v ≡ class_of (game_of converted) v
  same_class_lem = agree_class written_agree

  -- the games of classes agree as the games do: the same edges between classes, and M − q for each priority q
  pub same_quotient : AgreeBy (λ q. even_above game - q) (quotient (game_of game)) (quotient (game_of converted))
  same_quotient = agree_quotient written_agree

  pub same_reduced : AgreeBy (λ q. even_above game - q) (reduced (game_of game)) (reduced (game_of converted))
  same_reduced = agree_reduced written_agree

  -- so whoever wins a vertex by "highest" wins its class in the reduced game of what is written, where the lowest decides
  pub reduced_wins : (a : Player) (v : ℕ) → v < vertex_count game
      → ((P : Plan) × WinsBy max a (game_of game) P v) ↔ Won a (reduced (game_of converted)) (class_of (game_of game) v)
  unfolding game_of
  reduced_wins a v h =
      let r = reduced_winner (game_of converted) a v (rw (← written_agree.size) h) in
      rw (same_class_lem v) (
        λ (P, win). r.0 (P, (highest_wins a P v).0 win),
        λ w. let (P, win) = r.1 w in (P, (highest_wins a P v).1 win),
      )

-- ---- two conversions in a row

module _ {game output₁ counts₁ output₁' output₂ counts₂ output₂' : List ℕ}
    (call₁ : ConvertCall game output₁ (accepted counts₁) output₁') (call₂ : ConvertCall (table_in output₁') output₂ (accepted counts₂) output₂') where
  abbrev middle : List ℕ
  middle = table_in output₁'

  abbrev last : List ℕ
  last = table_in output₂'

  -- M of the second is at most that of the first
  falls : even_above middle ≤ even_above game
  falls = rw (written_table_lem call₁) (lowest_falls game (convert_accepted call₁ counts₁ refl).0.well.some)

  -- two accepted conversions in a row shift all priorities by one even number
  abbrev pub shift : ℕ
  shift = even_above game - even_above middle

  pub shift_even : shift % 2 ≡ 0
  shift_even = omega (arith, falls, even_from_even (highest game), even_from_even (highest middle))

  pub shifted : (v : ℕ) → v < vertex_count game → priority_at game v ≡ priority_at last v + shift
  shifted v h =
      let n : v < vertex_count middle = rw (written_table_lem call₁, lowest_vertices game) h in
      let p : priority_at middle v ≡ lowered game v = rw (written_table_lem call₁) (lowest_priority game v h) in
      let q : priority_at last v ≡ lowered middle v = rw (written_table_lem call₂) (lowest_priority middle v n) in
      omega (arith, falls, priority_le game v h, priority_le middle v n)

  -- so the first and the third table have the same winners by "lowest"
  pub twice_wins : (a : Player) (P : Plan) (v : ℕ) → WinsBy min a (game_of game) P v ↔ WinsBy min a (game_of last) P v
  twice_wins a P v =
      let x = lowest_wins call₁ a P v in
      let y = highest_wins call₂ a P v in
      (λ w. y.0 (x.0 w), λ w. x.1 (y.1 w))
