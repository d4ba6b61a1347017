-- The search leaves the plan in its work memory, or more of it than a plan may have.
use Prim.Native.Nat.{ℕ, ◌+◌}
use native.Mathlib.Omega.{arith}
use lib.ListN.{length-replicate}
use Rattle.theory.proofs.Logic.ListLaws.{zeros}
use Rattle.carry_search.specs.Work.{heads_at, work_length}
use Rattle.carry_output.specs.SearchResultLaws.{found_arrives}
use Rattle.carry_output.proofs.carry_seated.Goals as goal

pub search-found-requires : goal.search-found-requires
search-found-requires c = record { seated = c.requires.seated; y_bound = (c.requires.y_bound, record { long = omega (arith, length-replicate {A = ℕ} work_length 0); unchained = λ i h. zeros work_length (heads_at + i) }) }

pub returns : goal.returns
returns c = found_arrives _ _ _ _ _ _ c.search-found.ensures _ _ _ c.write_found.ensures
