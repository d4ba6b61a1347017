-- Plans: document 01, "Plans" and refusal 16; document 004, section 2.1.

-- plans, their links and walks
pub mod Plan
-- closed walks of the wrong parity, by positions that return: `wrong_walk_return`
pub mod Returns
-- what is reached by links, and that a test computes it: `reaches_in`, `reaches_out`
pub mod Reach
-- plays and strategies of document 004: `along_won`, `play_one_winner`, `outcome`; `strategy_along`, `won_strategy`
pub mod Plays
-- a test of plans that is computed; only examples use it: `surely_wins_lem`
pub mod PlanTest
