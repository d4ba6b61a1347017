-- a winner at each vertex and the edges that the winners keep; each named winner is the winner: `solved_won`, `solved_lost`, `solved_winner`
pub mod SolutionLaws
-- an order of the vertices that certifies a solution (`ordered_good`), and that every right solution has one: `good_ordered`
pub mod PlacesLaws
pub mod PlacesExist
