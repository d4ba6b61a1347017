-- Classes, quotient and reduced game: document 01, the section of that name; document 004, definition 4.1 and table 4; document 02, CR 10 and 11.

-- classes, quotient, reduced game; their edges in terms of logic: `edge_above`, `reduced_above`; `class_into`, `class_from`, `reduced_total`;
-- `mixed_single`
pub mod Reduction
pub mod ClassEdges
-- members of a class, edges of a vertex: `sum_member_count`, `sum_out_degree`
pub mod Totals
-- the smallest game that represents a game: `represents_in`, `represents_out`, `reduced_represents`, `reduced_smallest`
pub mod Minimal
