-- The verdict of a call that fills a game table or reads one, in document 01's numbers: accepted with the table's vertices and edges, or refused.
use Rattle.std.specs.Prelude.{[], ◌∷◌, Result, Ok, Err}
use Rattle.table.specs.Answers.{Answer, accepted, refused}
use Rattle.table.specs.declared.Refusal.{Refusal}
use Rattle.table.specs.declared.FilledSizes.{FilledSizes}

abbrev pub filling_answer : Result FilledSizes Refusal → Answer
filling_answer (Ok t) = accepted (t.vertices ∷ t.edges ∷ [])
filling_answer (Err f) = refused f.number f.place

-- the refusal in the verdict, for a call to hand on; number 0 where there is none
abbrev pub refusal_of : Result FilledSizes Refusal → Refusal
refusal_of (Ok t) = record { number = 0; place = 0 }
refusal_of (Err f) = f
