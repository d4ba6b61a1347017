-- Words put into a buffer at a place. No public promise cites this: the calls speak of `written`, which starts at word 0.
use Rattle.std.specs.Prelude.{List, ◌++◌, ℕ, ◌+◌, length, take, drop}

-- the new words from word `at` on, and old content before and beyond them
unfoldable pub placed : ℕ → List ℕ → List ℕ → List ℕ
placed at new old = take at old ++ (new ++ drop (at + length new) old)
