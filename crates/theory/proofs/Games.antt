-- players and games
pub mod GameLaws
-- games that agree on their vertices, in all or but for priorities: `agree_by_wins`, `agree_wins`, `agree_winner`, `agree_order_marks`,
-- `agree_passes`, `agree_class`, `agree_quotient`, `agree_reduced`
pub mod AgreementLaws
-- maps of priorities that keep the winner; only laws use them: `seen_parity`, `highest_lowest`, `lowest_highest`
pub mod ParityMapLaws
