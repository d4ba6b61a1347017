-- How many members and how many edges a class has: document 02, CR 10, "one line for each class, `class c members k edges e`, e being its
-- edges in the reduced game". A class is a vertex of the reduced game.
use Rattle.std.specs.Prelude.{ℕ, eqb}
use Rattle.theory.specs.Logic.Range.{count}
use Rattle.theory.specs.Games.Game.{Game}
use Rattle.theory.specs.Classes.Reduction.{class_of}

-- how many vertices have class c
unfoldable pub member_count : Game → ℕ → ℕ
member_count g c = count g.n (λ v. eqb (class_of g v) c)

-- how many edges leave vertex v
unfoldable pub out_degree : Game → ℕ → ℕ
out_degree G v = count G.n (G.edge v)
