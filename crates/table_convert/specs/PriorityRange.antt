-- What the words of the new priorities ask, for the proofs of the code. No public promise cites this.
use Rattle.std.specs.Prelude.{List, ℕ, ◌-◌, ◌≤◌, ◌<◌}
use Rattle.table.specs.Table.{priority_at}

-- even − q is a word for the priority q of each of n vertices
abbrev pub PriorityRange : ℕ → ℕ → List ℕ → Type 0
PriorityRange n even g = (v : ℕ) → v < n → (priority_at g v ≤ even) × (even - priority_at g v ≤ 65535)
