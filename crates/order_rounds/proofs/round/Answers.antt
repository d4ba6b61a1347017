-- Only a vertex with a successor whose row changed can lose something, so the losses of `near` are all of them;
-- with the reverses that `mirror` asks, they are what the round takes out and counts.
use mathlib.Core.Path.{sym, ◌∙◌}
use native.Mathlib.Omega.{arith}
use Rattle.words.specs.Words.{has}
use Rattle.order_rows.specs.MatrixLaws.{row_alone}
use Rattle.words.specs.WordsLaws.{has_zero}
use Rattle.order_rows.specs.Bits.{row_bits, row_words}
use Rattle.order_sets.specs.RoundsLaws.{round_of}
use Rattle.std.proofs.Common.{rules}
use Rattle.order_rounds.proofs.round.Goals as goal

pub lose_all-requires : goal.lose_all-requires
lose_all-requires c = let fit = c.requires.rows_fit in record { edge_words_in_bounds = (c.requires.edge_words_in_bounds.0, fit.0, fit.1, fit.2); row_words_in_bounds = (search rules, fit.3, omega (arith, c.requires.edge_words_in_bounds, c.put.auto.words)); by_index = λ x h. sym (c.put.ensures.here x h) ∙ has_zero row_words x }

pub complete-requires : goal.complete-requires
complete-requires c = let p = c.requires in
    let k = c.lose_all.auto in
    (omega (arith, p.rows_fit, k), omega (arith, p.edge_words_in_bounds, c.put.auto.words, k))

pub take_all-requires : goal.take_all-requires
take_all-requires c = let p = c.requires in
    let fit = p.rows_fit in
    let k = c.lose_all.auto in
    let q = c.complete.auto in
    record { edge_words_in_bounds = (p.edge_words_in_bounds.0, omega (arith, fit, k, q), omega (arith, p.edge_words_in_bounds, c.put.auto.words, k, q)); relation_words_in_bounds = (fit.0, fit.1, fit.2) }

pub returns : goal.returns
returns c = λ G r f m.
    round_of row_bits G _ _ _ _ (has _) (has _) (has _) _ (has _) r f (row_alone _ _ c.row-before.ensures) c.unite-near.ensures c.lose_all.ensures _ _ (has _) c.complete.ensures m _ _ _ _ c.take_all.ensures
