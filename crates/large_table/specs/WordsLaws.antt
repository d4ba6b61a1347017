-- A table that was read has its words by its sizes; and an owner's or a winner's word is known from the player.
use Rattle.std.specs.Prelude.{◌≡◌, List, ℕ, ◌≤◌}
use Rattle.std.proofs.Math.Decide.{ℕ_discrete}
use Rattle.std.proofs.Common.{arith}
use Rattle.theory.specs.Games.Game.{even, odd}
use Rattle.table.specs.Table.{vertex_count, table_edges, player_of}
use Rattle.large_table.specs.Words.{TableOf}
use Rattle.large_table.specs.Reading.{LargeFormed}

pub formed_table : (g : List ℕ) → LargeFormed g → TableOf g (vertex_count g) (table_edges g)
formed_table g f = record { size = f.size; sources = f.sources; targets = f.targets }

pub player_one : (x y : ℕ) → x ≤ 1 → y ≤ 1 → player_of x ≡ player_of y → x ≡ y
unfolding player_of
player_one x y h k e = elim (ℕ_discrete x 0) [
  | yes p ↦ elim (ℕ_discrete y 0) [
    | yes q ↦ omega arith
    | no q ↦ (let z : y ≡ 1 = omega arith in let d : even ≡ odd = rw (p, z) at e in let w : ◌≡◌ {A = ℕ} 0 1 = cc in omega arith)
  ]
  | no p ↦ elim (ℕ_discrete y 0) [
    | yes q ↦ (let z : x ≡ 1 = omega arith in let d : odd ≡ even = rw (z, q) at e in let w : ◌≡◌ {A = ℕ} 0 1 = cc in omega arith)
    | no q ↦ omega arith
  ]
]
