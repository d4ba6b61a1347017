-- The tests by which blocks are refined.
use Rattle.std.specs.Prelude.{◌≡◌, Bool, not, cond, List, ℕ, ◌+◌, ◌%◌, ◌≤◌, ◌<◌, eqb, leb, get_or}
use Rattle.theory.specs.Logic.Bools.{◌&◌, ◌or◌}
use Rattle.index.specs.Index.{among}
use Rattle.plan_blocks.specs.Blocks.{gone}

-- position k is in block b and has a number of at least `least`
unfoldable pub numbered : List ℕ → List ℕ → ℕ → ℕ → ℕ → Bool
numbered blocks numbers b least k = eqb (get_or blocks k 0) b & leb least (get_or numbers k 0)

-- some link of u leads to such a position of its block
unfoldable pub leads_to : List ℕ → List ℕ → List ℕ → List ℕ → ℕ → ℕ → Bool
leads_to starts targets blocks numbers u least = among starts targets u (numbered blocks numbers (get_or blocks u 0) least)

-- What is checked of the numbers, at each position u in a block: u's number isn't `gone`, u's priority isn't below the one listed for that
-- number, and no link leads to a higher number in the block.
unfoldable pub fits : List ℕ → List ℕ → List ℕ → List ℕ → List ℕ → List ℕ → ℕ → Bool
fits starts targets priorities blocks numbers leasts u =
    eqb (get_or blocks u 0) gone
    or (not (eqb (get_or numbers u 0) gone)
    & leb (get_or leasts (get_or numbers u 0) 0) (get_or priorities u 0)
    & not (leads_to starts targets blocks numbers u (get_or numbers u 0 + 1)))

-- the next block of a position: its number, unless it is in no block
unfoldable pub taken : ℕ → ℕ → ℕ
taken block number = cond (eqb block gone) gone number

pub record Taken (p : ℕ) (blocks numbers blocks' : List ℕ) : Type 0 where
  pub at : (u : ℕ) → u < p → get_or blocks' u 0 ≡ taken (get_or blocks u 0) (get_or numbers u 0)

-- position v has the right parity, and a priority not above the lowest one listed for its block
unfoldable pub lowest : List ℕ → List ℕ → List ℕ → ℕ → ℕ → Bool
lowest priorities blocks leasts player v = eqb (get_or priorities v 0 % 2) player & leb (get_or priorities v 0) (get_or leasts (get_or blocks v 0) 0)

-- position v leaves its block: it is such a one, or no link of its leads to the block
unfoldable pub leaves : List ℕ → List ℕ → List ℕ → List ℕ → List ℕ → ℕ → ℕ → Bool
leaves starts targets priorities blocks leasts player v = lowest priorities blocks leasts player v or not (leads_to starts targets blocks blocks v 0)

-- what is known of the lowest priorities listed: no position in a block has a lower one
pub record Bounded (p : ℕ) (priorities blocks leasts : List ℕ) : Type 0 where
  pub at : (j : ℕ) → j < p → (get_or blocks j 0 ≡ gone → ⊥) → get_or leasts (get_or blocks j 0) 0 ≤ get_or priorities j 0
