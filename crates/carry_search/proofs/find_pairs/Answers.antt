-- The first pair, and the search from it.
use Rattle.carry_search.specs.FreshLaws.{first_pair}
use Rattle.carry_search.proofs.find_pairs.Goals as goal

pub run-requires : goal.run-requires
run-requires c = let s = c.requires.readable.links.board.formed.sized in
    record { readable = c.requires.readable; w_bound = (c.requires.w_bound.0, first_pair _ _ _ s.some s.positions c.requires.w_bound.1 _ c.add_pair.ensures) }
