-- The words of each column, one behind the other.
use Rattle.std.proofs.Common.{arith}
use Rattle.edit_run.specs.GatheredLaws.{gathered}
use Rattle.edit_run.proofs.gather_pairs.Goals as goal

pub overflow_cast-count : goal.overflow_cast-count
overflow_cast-count c = omega (arith, c.requires.trace_len.1)

pub returns : goal.returns
returns c =
    gathered c.args.buffer.now c.args.trace.now c.requires.formed.0 c.requires.trace_len.0 _ c.requires.formed.2 c.join.ensures c.join-2.ensures
