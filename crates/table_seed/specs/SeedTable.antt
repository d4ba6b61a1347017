-- The table of a seed s, n vertices, degree d and c priorities: change request 3, "For each vertex in turn: one draw modulo c for the
-- priority, one modulo 2 for the owner, then d draws modulo n for targets. Edges stand in drawing order."
use Rattle.std.specs.Prelude.{ℕ, ◌+◌, ◌*◌, ◌/◌, ◌%◌, List, ◌∷◌, ◌++◌}
use Rattle.theory.specs.Logic.Range.{tabulate}
use Rattle.table_seed.specs.Generator.{draw_at}

-- draw k of vertex v: each vertex before it took 2 + d
abbrev pub vertex_draw : ℕ → ℕ → ℕ → ℕ → ℕ
vertex_draw s d v k = draw_at s (v * (2 + d) + k)

abbrev pub drawn_priority : ℕ → ℕ → ℕ → ℕ → ℕ
drawn_priority s d c v = vertex_draw s d v 0 % c

abbrev pub drawn_owner : ℕ → ℕ → ℕ → ℕ
drawn_owner s d v = vertex_draw s d v 1 % 2

-- edge j is the one of number j % d that leaves vertex j / d
abbrev pub drawn_target : ℕ → ℕ → ℕ → ℕ → ℕ
drawn_target s n d j = vertex_draw s d (j / d) (2 + j % d) % n

-- sizes, priorities, owners, sources, targets
unfoldable pub seed_table : ℕ → ℕ → ℕ → ℕ → List ℕ
seed_table s n d c =
    n ∷ n * d ∷ (tabulate n (drawn_priority s d c) ++ (tabulate n (drawn_owner s d) ++ (tabulate (n * d) (λ j. j / d) ++ tabulate (n * d) (drawn_target s n d))))
