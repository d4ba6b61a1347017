-- passes over any test: `pass_falls`, `rounds_marks`, `final_fixed`, `final_contains`, `largest_fixed`, `largest_contains`
pub mod PassesLaws
-- direct simulation between two games: `simulation_dual`, `simulation_compose`
pub mod SimulationLaws
-- the order: `order_in`, `order_out`, `order_simulation`, `order_largest`, `order_refl`, `order_trans`, `order_passes_le`
pub mod OrderLaws
-- governed bisimulation beside the order: `governed_in`, `governed_out`, `governed_bisimulation`, `governed_largest`, `governed_equivalence`,
-- `governed_class`, `governed_winner`, `governed_passes_le`
pub mod GovernedLaws
-- passes as rounds over relations; only inner functions promise them: `after_start`, `after_next`, `last_passes`, `last_marks`, `cleared_le`,
-- `counts_add`, `last_clears`
pub mod RoundsLaws
-- rounds by rows of a relation, likewise: `test_rows`, `fall_is`, `loses_none`, `round_passes`, `round_start`, `round_next`, `round_count`,
-- `mirrored_next`, `last_count`, `last_left`, `order_counts`
pub mod RowsLaws
