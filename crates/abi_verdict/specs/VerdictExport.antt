-- The promise of the verdict call's export: the library's answer, its fields, and the library's promise.
use Rattle.std.specs.Prelude.{◌≡◌, List, ℕ, get_or, Ok, Result, Err}
use Rattle.table.specs.Answers.{Answer, accepted, refused}
use Rattle.abi_answer.specs.Fields.{turned_down, table_fields, SmallCounts}
use Rattle.abi_answer.specs.declared.RaskjomiAnswer.{RaskjomiAnswer}
use Rattle.verdict.specs.VerdictCall.{VerdictCall}
use Rattle.table.specs.declared.Refusal.{Refusal}
use Rattle.verdict.specs.declared.Verdict.{Verdict}

-- the same answer with whether it is shown
abbrev pub with_shown : ℕ → RaskjomiAnswer → RaskjomiAnswer
with_shown shown answer =
    record {
      number = answer.number;
      passes = answer.passes;
      classes = answer.classes;
      vertices = answer.vertices;
      edges = answer.edges;
      different = answer.different;
      positions = answer.positions;
      links = answer.links;
      entries = answer.entries;
      place = answer.place;
      shown = shown;
    }

-- the classes, the reduction's vertices and edges, and 1 for "wins"; 0 for "not shown" and with every refusal
abbrev pub verdict_fields : Answer → RaskjomiAnswer
verdict_fields (accepted counts) = with_shown (get_or counts 3 0) (table_fields (accepted counts))
verdict_fields (refused number place) = turned_down number place

-- counts that fit the answer's fields
abbrev pub SmallVerdict : Result Verdict Refusal → Type 0
SmallVerdict (Ok (Verdict.Wins counts)) = SmallCounts (Ok counts)
SmallVerdict (Ok (Verdict.NotShown counts)) = SmallCounts (Ok counts)
SmallVerdict (Err refusal) = Unit

pub record VerdictExport (game : List ℕ) (vertex player : ℕ) (plan marks spare classes reduction : List ℕ) (r : RaskjomiAnswer)
    (marks' spare' classes' reduction' : List ℕ) : Type 0 where
  pub answer : Answer
  pub fields : r ≡ verdict_fields answer
  pub call : VerdictCall game vertex player plan marks spare classes reduction answer marks' spare' classes' reduction'
