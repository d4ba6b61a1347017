-- What the proof of a search needs that tests the numbers of a range in turn and returns the first that passes, or else the range's end.
use borrow.Author.Tests.{le-leb, lt-leb}
use Rattle.theory.proofs.Logic.RangeLaws.{first_step, first_hit, first_end_lem}

pub ruleset search_steps = (first_step, first_hit, first_end_lem, le-leb, lt-leb)
