-- By whether the vertex is the player's.
use mathlib.Core.Path.{sym, ◌∙◌}
use Rattle.carry_search.specs.Search.{most_links}
use Rattle.carry_search.proofs.most_links.Goals as goal

pub returns-then-owns : goal.returns-then-owns
unfolding most_links
returns-then-owns c = rw (sym c.owns.ensures ∙ c.if-owns.true)

pub returns : goal.returns
unfolding most_links
returns c = rw (sym c.owns.ensures ∙ c.if-owns.false)
