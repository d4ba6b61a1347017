-- Rows that decide by rules. Some rows render their rules only where the rows before them are passed; where one of those refuses, they
-- aren't looked at.
use Rattle.std.specs.Prelude.{◌≡◌, ◌↔◌, List, ℕ}
use Rattle.table.specs.Answers.{Row, refused, judge, Clean}
use Rattle.table.specs.Rules.{Rule, FirstRule, NoRule}

-- refused k at p exactly if the first rule whose condition holds has number k and names p; clean exactly if none holds
pub record Decides (rows : List Row) (rules : List Rule) : Type 1 where
  pub refuses : (counts : List ℕ) (k p : ℕ) → (judge rows counts ≡ refused k p) ↔ FirstRule rules k p
  pub none : Clean rows → NoRule rules
  pub clean : NoRule rules → Clean rows
