-- no vertex is won by both: `one_winner`
pub mod WinnerLaws
-- the transfer of a plan, core and step: `winning_projects` (core), `step_own`, `step_opponent` (step)
pub mod TransferLaws
-- demand 3 about games: all of it
pub mod KeptWinners
-- the winner is the same: `winner_up`, `winner_down`, `winner_quotient`, `winner_reduced`
pub mod SameWinner
-- exactly one winner at each vertex of a total game, and who it is: `winner_is`, `determined`, `won_small`, `won_lost`, `won_decided`; `Region` is
-- for this proof and the laws of `solutions` alone
pub mod RegionLaws
pub mod AttractorLaws
pub mod RegionPlanLaws
pub mod Winner
pub mod DeterminacyLaws
