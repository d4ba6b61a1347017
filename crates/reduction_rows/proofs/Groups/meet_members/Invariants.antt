use Rattle.table.specs.Table.{game_of}
use Rattle.reduction_rows.specs.Reached.{MembersMet}
use Rattle.reduction_rows.proofs.Groups.meet_members.Given as goal

abbrev pub invariant-loop-v : goal.invariant-loop-v
invariant-loop-v l = MembersMet (game_of l.self.game.now) l.self.width l.v l.initial.words l.words
