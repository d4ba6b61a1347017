-- classes, quotient, reduced game; their edges in terms of logic: `edge_above`, `reduced_above`; `class_into`, `class_from`, `reduced_total`;
-- `mixed_single`
pub mod ClassLaws
pub mod MaximalLaws
pub mod QuotientLaws
pub mod ReductionLaws
pub mod SizeLaws
pub mod MixedLaws
-- members of a class, edges of a vertex: `sum_member_count`, `sum_out_degree`
pub mod TotalsLaws
-- the smallest game that represents a game: `represents_in`, `represents_out`, `reduced_represents`, `reduced_smallest`
pub mod MinimalLaws
-- the reduced game reduced again: `reduced_order`, `reduced_compares`, `reduced_antisymmetric`, `reduced_class`, `reduced_twice`;
-- `quotient_class`, `quotient_twice`
pub mod FixedPointLaws
