-- A row of `losing` gains the pair. The words of another row don't count, so it is emptied first, and holds this pair alone.
use mathlib.Core.Path.{sym, ◌∙◌}
use Rattle.words.specs.Words.{has}
use Rattle.order_rows.specs.Bits.{row_bits, row_words}
use Rattle.words.specs.WordsLaws.{has_zero}
use Rattle.order_rows.specs.MatrixLaws.{cell_row, added_alone}
use Rattle.order_sets.specs.ReversesLaws.{pair_added, pair_new}
use Rattle.order_removal.proofs.reverses.lose_pair.Goals as goal

pub returns-then-holds : goal.returns-then-holds
returns-then-holds c = let a = c.args in
    let on = sym c.holds.ensures ∙ c.if-holds.true in
    pair_added row_bits _ _ (has _) _ _ c.requires.2 (sym (cell_row a.losing.now a.w) ∙ on) c.add.ensures

pub returns : goal.returns
returns c = let a = c.args in
    let off = sym c.holds.ensures ∙ c.if-holds.false in
    pair_new row_bits _ _ _ (has _) (has _) (has _) _ _ c.requires.2 (sym (cell_row a.losing.now a.w) ∙ off) (has_zero row_words) c.put.ensures c.add-2.ensures (added_alone _ _ _ _ c.add-3.ensures)
