-- `merged_up`, `merged_down`, `merged_won`, `merged_winner`, `onto_total`; two in a row: `merged_compose`, `onto_compose`; maps that
-- agree: `merged_agree`, `onto_agree`
pub mod MergedLaws
-- quotients by a governed bisimulation: `quotient_merged`, `quotient_onto`, `merged_quotient`; vertices of one class: `merged_bisimilar`,
-- `merged_order`, `merged_class`
pub mod GovernedMergeLaws
