-- A table that begins a buffer: change request 7, "The table begins a buffer that may be longer, so for edits refusal 4 means 'shorter'."
use Rattle.std.specs.Prelude.{List, ℕ, ◌<◌, ltb}
use Rattle.table.specs.Answers.{Row}
use Rattle.table.specs.Reading.{game_rows_by}
use Rattle.table.specs.Rules.{Rule}
use Rattle.table.specs.ReadingRules.{game_rules_by}

-- 1 to 8
abbrev pub buffer_rows : List ℕ → List Row
buffer_rows buffer = game_rows_by ltb buffer

-- the same in terms of logic
abbrev pub buffer_rules : List ℕ → List Rule
buffer_rules buffer = game_rules_by ◌<◌ buffer
