-- All of the fall is enough, and without a predecessor of Even's nothing is asked. Else the mask is the union of the rows of these predecessors,
-- which holds all that they ask for.
use Rattle.std.specs.Prelude.{Bool, List, ℕ}
use mathlib.Core.Path.{sym, ap₂, ◌∙◌}
use mathlib.Core.Bool.{not}
use Rattle.theory.specs.Logic.Bools.{◌&◌}
use Rattle.theory.proofs.Logic.BoolsLaws.{and_one}
use Rattle.words.specs.Words.{has}
use Rattle.order_sets.specs.RemovalLaws.{asking_covers, none_asked}
use Rattle.order_rows.specs.Bits.{row_bits, RowIs, cell}
use Rattle.order_removal.proofs.rows.asked_fall.Goals as goal

-- Even's predecessors of a
evens : (e p q : List ℕ) {f g : ℕ → Bool} → RowIs e (λ v. has p v & not (has q v)) → RowIs p f → RowIs q g → RowIs e (λ v. f v & not (g v))
evens _ _ _ e p q v h = e v h ∙ ap₂ (λ b d. b & not d) (p v h) (q v h)

pub returns-then-few : goal.returns-then-few
returns-then-few c = λ G s v w hv h t o r. c.fall_of.ensures G s w h

pub returns-then-not-is_some : goal.returns-then-not-is_some
returns-then-not-is_some c = let a = c.args in
    λ G s.
    none_asked row_bits G (cell a.edges.now) (cell a.related.now) (has _) (has a.out) (has a.left) (has _) a.a c.requires.2 s (evens _ _ _ c.without-evens.ensures c.row.ensures c.row-2.ensures)
    (sym c.is_some.ensures ∙ c.if-not-is_some.true)

pub returns : goal.returns
returns c = let a = c.args in
    λ G s v w hv h t o r.
    c.fall_within.ensures G s w h
    ∙ and_one _
    (asking_covers row_bits G (cell a.edges.now) (cell a.related.now) (has _) (has _) a.a c.requires.2 s (evens _ _ _ c.without-evens.ensures c.row.ensures c.row-2.ensures) c.unite.ensures v w hv h t o r)
