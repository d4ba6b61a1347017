-- The sentences follow from what the call promises.
use Rattle.claims_winners.proofs.WinnersLaws as laws
use Rattle.claims_winners.proofs.orders.Goals as goal

pub returns : goal.returns
returns c = laws.order_decides c.write_order.ensures
