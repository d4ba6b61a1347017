-- breadth-first search over pairs: `all_done`
pub mod BreadthFirstLaws
-- the carried plan, from a plan on the game and from one on its reduced game: `kept_all`, `carried_wins`, `transfer`, `carried_plan_wins`,
-- `carried_class_plan_wins`; `carried_at_lowest`; games that agree: `agree_carried_plan`, `agree_carried_class_plan`
pub mod CarryLaws
pub mod CarryClassLaws
pub mod CarryAgreementLaws
