-- The parity, then the priority.
use mathlib.Core.Path.{sym, ap, ◌∙◌}
use Prim.Native.Nat.{ℕ, ◌%◌}
use Rattle.plan_blocks.specs.RefiningLaws.{lowest_wrong, lowest_right}
use Rattle.plan_blocks.proofs.Links.lowest.Goals as goal

pub returns-then-priority-self : goal.returns-then-priority-self
returns-then-priority-self c = sym (lowest_wrong _ _ _ _ _ (λ e. c.if-priority-self.true (ap (λ (x : ℕ). x % 2) c.word_at-priority.ensures ∙ e)))

pub returns : goal.returns
returns c = let first = c.word_at-priority.ensures in
    rw (c.word_at-2.ensures, c.word_at.ensures, first)
    (sym (lowest_right _ _ _ _ _ (sym (ap (λ (x : ℕ). x % 2) first) ∙ c.if-priority-self.false)))
