-- Only a vertex with a successor whose row changed can lose something, so the losses of `near` are all of them;
-- with the reverses that `mirror` asks, they are what the round takes out and counts.
use mathlib.Core.Path.{refl}
use Rattle.words.specs.Word.{word_bits}
use Rattle.order_sets.specs.RoundsLaws.{round_of}
use Rattle.order_small_rounds.proofs.round.Goals as goal

pub returns : goal.returns
returns c = λ G s f m.
    round_of word_bits G _ _ _ _ _ _ _ _ _ s f (λ x h. refl) c.unite-near.ensures c.lose_all-losing.ensures
    _ _ _ c.complete-losing.ensures m _ _ _ _ c.take_all-cleared.ensures
