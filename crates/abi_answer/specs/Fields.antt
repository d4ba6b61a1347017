-- What the exports' answer holds: number 0 and the counts that document 01 gives the call, or the refusal's number and place; all other
-- fields are 0.
use Rattle.std.specs.Prelude.{ℕ, ◌<◌, get_or, Result, Ok, Err}
use Rattle.table.specs.Answers.{Answer, accepted, refused}
use Rattle.edit_replay.specs.declared.Replaying.{Replaying}
use Rattle.abi_answer.specs.declared.RaskjomiAnswer.{RaskjomiAnswer}
use Rattle.table.specs.declared.Refusal.{Refusal}
use Rattle.table.specs.declared.Sizes.{Sizes}
use Rattle.table.specs.declared.FilledSizes.{FilledSizes}
use Rattle.classes.specs.declared.ClassCount.{ClassCount}
use Rattle.reduction.specs.declared.TableCounts.{TableCounts}
use Rattle.carry_output.specs.declared.PlanCounts.{PlanCounts}
use Rattle.carry.specs.declared.ClassPlanCounts.{ClassPlanCounts}

-- the answer of an accepted call: its counts, and 0 for those that it doesn't have
abbrev pub counted : ℕ → ℕ → ℕ → ℕ → ℕ → ℕ → ℕ → RaskjomiAnswer
counted passes classes vertices edges different positions links =
    record {
      number = 0;
      passes = passes;
      classes = classes;
      vertices = vertices;
      edges = edges;
      different = different;
      positions = positions;
      links = links;
      entries = 0;
      place = 0;
      shown = 0;
    }

-- the answer of a refused call
abbrev pub turned_down : ℕ → ℕ → RaskjomiAnswer
turned_down number place =
    record {
      number = number;
      passes = 0;
      classes = 0;
      vertices = 0;
      edges = 0;
      different = 0;
      positions = 0;
      links = 0;
      entries = 0;
      place = place;
      shown = 0;
    }

-- the reader: n, m and the different edges
abbrev pub read_fields : Answer → RaskjomiAnswer
read_fields (accepted counts) = counted 0 0 (get_or counts 0 0) (get_or counts 1 0) (get_or counts 2 0) 0 0
read_fields (refused number place) = turned_down number place

-- the order: its passes
abbrev pub order_fields : Answer → RaskjomiAnswer
order_fields (accepted counts) = counted (get_or counts 0 0) 0 0 0 0 0 0
order_fields (refused number place) = turned_down number place

-- an acceptor: none
abbrev pub accept_fields : Answer → RaskjomiAnswer
accept_fields (accepted counts) = counted 0 0 0 0 0 0 0
accept_fields (refused number place) = turned_down number place

-- classes: their number
abbrev pub classes_fields : Answer → RaskjomiAnswer
classes_fields (accepted counts) = counted 0 (get_or counts 0 0) 0 0 0 0 0
classes_fields (refused number place) = turned_down number place

-- a call that writes a game table: the classes, then the table's vertices and edges
abbrev pub table_fields : Answer → RaskjomiAnswer
table_fields (accepted counts) = counted 0 (get_or counts 0 0) (get_or counts 1 0) (get_or counts 2 0) 0 0 0
table_fields (refused number place) = turned_down number place

-- games by the seed, and converted games: n and m
abbrev pub fill_fields : Answer → RaskjomiAnswer
fill_fields (accepted counts) = counted 0 0 (get_or counts 0 0) (get_or counts 1 0) 0 0 0
fill_fields (refused number place) = turned_down number place

-- a plan that is carried: its positions and links
abbrev pub carry_fields : Answer → RaskjomiAnswer
carry_fields (accepted counts) = counted 0 0 0 0 0 (get_or counts 0 0) (get_or counts 1 0)
carry_fields (refused number place) = turned_down number place

-- from the reduced game: the classes, the reduced game's vertices and edges, then the plan's positions and links
abbrev pub class_carry_fields : Answer → RaskjomiAnswer
class_carry_fields (accepted counts) = counted 0 (get_or counts 0 0) (get_or counts 1 0) (get_or counts 2 0) 0 (get_or counts 3 0) (get_or counts 4 0)
class_carry_fields (refused number place) = turned_down number place

-- the same answer with the entries done
abbrev pub with_entries : ℕ → RaskjomiAnswer → RaskjomiAnswer
with_entries entries answer =
    record {
      number = answer.number;
      passes = answer.passes;
      classes = answer.classes;
      vertices = answer.vertices;
      edges = answer.edges;
      different = answer.different;
      positions = answer.positions;
      links = answer.links;
      entries = entries;
      place = answer.place;
      shown = answer.shown;
    }

-- a trace that is replayed: the classes, the final table's vertices and edges, and the entries done, with a refusal too
abbrev pub replay_fields : Answer → ℕ → RaskjomiAnswer
replay_fields answer entries = with_entries entries (table_fields answer)

-- a reading whose sizes fit the answer's fields
abbrev pub SmallSizes : Result Sizes Refusal → Type 0
SmallSizes (Ok sizes) = (sizes.vertices < 4294967296) × (sizes.edges < 4294967296) × (sizes.different < 4294967296)
SmallSizes (Err refusal) = Unit

-- the same of the counts of a table that is filled
abbrev pub SmallFilling : Result FilledSizes Refusal → Type 0
SmallFilling (Ok counts) = (counts.vertices < 4294967296) × (counts.edges < 4294967296)
SmallFilling (Err refusal) = Unit

-- the same of a class count, and of a table's counts
abbrev pub SmallCount : Result ClassCount Refusal → Type 0
SmallCount (Ok count) = count.classes < 4294967296
SmallCount (Err refusal) = Unit

abbrev pub SmallCounts : Result TableCounts Refusal → Type 0
SmallCounts (Ok counts) = (counts.classes < 4294967296) × (counts.vertices < 4294967296) × (counts.edges < 4294967296)
SmallCounts (Err refusal) = Unit

-- the same of a carried plan's counts
abbrev pub SmallCarrying : Result PlanCounts Refusal → Type 0
SmallCarrying (Ok counts) = (counts.positions < 4294967296) × (counts.links < 4294967296)
SmallCarrying (Err refusal) = Unit

abbrev pub SmallClassCarrying : Result ClassPlanCounts Refusal → Type 0
SmallClassCarrying (Ok found) =
    (found.classes < 4294967296) × (found.vertices < 4294967296) × (found.edges < 4294967296) × (found.positions < 4294967296) × (found.links < 4294967296)
SmallClassCarrying (Err refusal) = Unit

abbrev pub SmallReplaying : Replaying → Type 0
SmallReplaying replaying = SmallCounts replaying.verdict × (replaying.entries < 4294967296)
