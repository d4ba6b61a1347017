-- The target of the link and the vertex as which it compares are read; the marks hold the order.
use mathlib.Core.Path.{◌∙◌}
use Rattle.table.specs.Table.{game_of}
use Rattle.carry_replies.specs.RepliesLaws.{needed_is}
use Rattle.carry_replies.proofs.SeatedPlan.link_keeps.Goals as goal

pub no_better-requires : goal.no_better-requires
unfolding game_of
no_better-requires c = let s = c.requires.seated in
    (s.inside _ (s.formed.targets c.args.k c.requires.k_bound.0), c.requires.k_bound.1, s.well.vertices, s.ordered.long)

pub returns : goal.returns
returns c = let s = c.requires.seated in
    c.no_better.ensures ∙ needed_is _ _ _ s.ordered _ _ (s.inside _ (s.formed.targets c.args.k c.requires.k_bound.0)) c.requires.k_bound.1
