-- Document 01's limits. The code has them as constants of `table::limits`.
use Rattle.std.specs.Prelude.{ℕ, ◌+◌, ◌*◌, ◌/◌}
use Rattle.words.specs.Word.{word_bits}

-- vertices and edges of a game, positions and links of a plan
abbrev pub vertex_limit : ℕ
vertex_limit = 512

abbrev pub edge_limit : ℕ
edge_limit = 4096

abbrev pub position_limit : ℕ
position_limit = 4096

abbrev pub link_limit : ℕ
link_limit = 16384

-- pairs of vertices, and the words that hold a bit for each of them
abbrev pub pair_limit : ℕ
pair_limit = vertex_limit * vertex_limit

abbrev pub pair_words : ℕ
pair_words = pair_limit / word_bits

-- words of a game table
abbrev pub table_limit : ℕ
table_limit = 2 + 2 * vertex_limit + 2 * edge_limit
