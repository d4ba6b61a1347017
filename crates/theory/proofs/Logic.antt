-- bounded "each", "some", "the first", "how many", "the c-th"
pub mod BoolsLaws
pub mod RangeLaws
-- counting, and the `pigeonhole`; sums; lists
pub mod CountLaws
pub mod SumLaws
pub mod ListLaws
