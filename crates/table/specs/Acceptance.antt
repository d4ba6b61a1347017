-- An acceptor's verdict, in document 01's numbers: accepted without counts, or refused.
use Rattle.std.specs.Prelude.{[], Result, Ok, Err}
use Rattle.table.specs.Answers.{Answer, accepted, refused}
use Rattle.table.specs.declared.Refusal.{Refusal}
use Rattle.table.specs.declared.NoCounts.{NoCounts}

abbrev pub acceptance_answer : Result NoCounts Refusal → Answer
acceptance_answer (Ok c) = accepted []
acceptance_answer (Err f) = refused f.number f.place
