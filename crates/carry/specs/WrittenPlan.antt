-- The plan that an accepted call wrote, and what is promised of it: document 02, CR 4.
use Rattle.std.specs.Prelude.{◌≡◌, List, [], ℕ, take}
use Rattle.table.specs.Answers.{accepted}
use Rattle.plan_links.specs.PlanTable.{vertex_at, plan_length}
use Rattle.plan.specs.Acceptance.{plan_answer}

-- the written plan: as many words of the output as the verdict's counts, p positions and l links, tell
abbrev pub written_plan : ℕ → ℕ → List ℕ → List ℕ
written_plan p l output = take (plan_length p l) output

-- a plan for the player on the game, within the limits, that starts at y
pub record PlanFrom (game : List ℕ) (player y : ℕ) (words : List ℕ) : Type 0 where
  pub accepted : plan_answer game player words ≡ accepted []
  pub start : vertex_at words 0 ≡ y
