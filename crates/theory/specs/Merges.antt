-- Vertices merged: a map of a game onto a smaller one that keeps who wins at each vertex, whoever made it; and that it is the quotient by a
-- governed bisimulation. Document 000, section 7.2; document 02, CR 12.

-- `merged_up`, `merged_down`, `merged_won`, `merged_winner`, `onto_total`; two in a row: `merged_compose`, `onto_compose`; maps that
-- agree: `merged_agree`, `onto_agree`
pub mod Merged
