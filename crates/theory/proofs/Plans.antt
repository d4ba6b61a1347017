-- plans, their links and walks
pub mod LinkLaws
pub mod WalkLaws
-- closed walks of the wrong parity, by positions that return: `wrong_walk_return`
pub mod ReturnsLaws
-- what is reached by links, and that a test computes it: `reaches_in`, `reaches_out`
pub mod ReachLaws
-- plays and strategies of document 004: `along_won`, `play_one_winner`, `outcome`; `strategy_along`, `won_strategy`
pub mod PlaysLaws
pub mod StrategyLaws
-- a test of plans that is computed; only examples use it: `surely_wins_lem`
pub mod PlanTestLaws
