-- Who wins: demand 3 about games, and that exactly one player wins at each vertex.

-- exactly one winner at each vertex of a total game, and who it is: `winner_is`, `determined`, `won_small`, `won_lost`, `won_decided`; `Region` is
-- for this proof and the laws of `solutions` alone
pub mod Region
