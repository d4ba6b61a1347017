-- The tests, one after the other.
use mathlib.Core.Path.{sym, ◌∙◌}
use Rattle.plan_blocks.specs.RefiningLaws.{fits_gone, fits_unnumbered, fits_below, fits_links}
use Rattle.plan_blocks.proofs.Links.fits.Goals as goal

pub returns-then-word_at : goal.returns-then-word_at
returns-then-word_at c = sym (fits_gone _ _ _ _ _ _ _ (sym c.word_at.ensures ∙ c.if-word_at.true))

pub returns-then-number : goal.returns-then-number
returns-then-number c = sym (fits_unnumbered _ _ _ _ _ _ _ (λ e. c.if-word_at.false (c.word_at.ensures ∙ e)) (sym c.word_at-number.ensures ∙ c.if-number.true))

pub returns-then-word_at-2 : goal.returns-then-word_at-2
returns-then-word_at-2 c = sym (fits_below _ _ _ _ _ _ _ (λ e. c.if-word_at.false (c.word_at.ensures ∙ e)) (λ e. c.if-number.false (c.word_at-number.ensures ∙ e)) (rw (c.word_at-2.ensures, c.word_at-3.ensures, c.word_at-number.ensures) at c.if-word_at-2.true))

pub returns : goal.returns
returns c = rw (c.leads_to.ensures, c.word_at-number.ensures)
    (sym (fits_links _ _ _ _ _ _ _ (λ e. c.if-word_at.false (c.word_at.ensures ∙ e)) (λ e. c.if-number.false (c.word_at-number.ensures ∙ e)) (rw (c.word_at-2.ensures, c.word_at-3.ensures, c.word_at-number.ensures) at c.if-word_at-2.false)))
