-- The plan that is written, and the rows of the table of refusals about it: document 02, CR 4.
use Rattle.std.specs.Prelude.{not, List, [], ◌∷◌, ◌++◌, map, ℕ, ltb, length, Result, Ok, Err}
use Rattle.theory.specs.Logic.Bools.{◌&◌, ◌or◌}
use Rattle.theory.specs.Order.Passes.{Rel}
use Rattle.theory.specs.Plans.Plan.{Plan}
use Rattle.table.specs.Limits.{position_limit, link_limit}
use Rattle.table.specs.Answers.{Row, row, memory_row, Answer, accepted, refused}
use Rattle.plan_links.specs.PlanTable.{plan_length}
use Rattle.table.specs.declared.Refusal.{Refusal}
use Rattle.carry_output.specs.declared.PlanCounts.{PlanCounts}

-- a plan in words: sizes, the vertex of each position, the links' sources, their targets
unfoldable pub plan_words : Plan → List ℕ
plan_words P =
    length P.vertices ∷ length P.links ∷ (P.vertices ++ (map (λ x. x.0) P.links ++ map (λ x. x.1) P.links))

-- p and l
abbrev pub plan_counts : Plan → List ℕ
plan_counts P = length P.vertices ∷ length P.links ∷ []

-- 34 and 35, for a plan C
unfoldable pub size_rows : Plan → List ℕ → List Row
size_rows C output =
    row 34 (ltb position_limit (length C.vertices) or ltb link_limit (length C.links)) 0
    ∷ memory_row 35 (plan_length (length C.vertices) (length C.links)) output
    ∷ []

-- 33 to 35, for a plan C that is carried from x to the vertex y of n. K is the needed order.
unfoldable pub carried_rows : ℕ → Rel → ℕ → ℕ → Plan → List ℕ → List Row
carried_rows n K x y C output = row 33 (not (ltb y n & K x y)) y ∷ size_rows C output

-- what the cases of the verdict say: accepted with p and l
abbrev pub carrying_answer : Result PlanCounts Refusal → Answer
carrying_answer (Ok c) = accepted (c.positions ∷ c.links ∷ [])
carrying_answer (Err f) = refused f.number f.place
