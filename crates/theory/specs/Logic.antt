-- Bounded quantifiers, counting and lists, computed and in terms of logic.

-- bounded "each", "some", "the first", "how many", "the c-th"
pub mod Bools
pub mod Range
