-- The table's words up to its sources stay; the source, the targets and the target are put behind them.
use Rattle.std.proofs.Common.{refl, arith, rules}
use lib.ListN.{length-set}
use Rattle.edit_rules.proofs.EditPartsLaws.{arrival_made}
use Rattle.edit_buffer.proofs.arrive.Goals as goal

pub bounds-buffer-at : goal.bounds-buffer-at
bounds-buffer-at c = simp length-set (omega (arith, c.requires.m_in_bounds))

pub copy-requires-2 : goal.copy-requires-2
copy-requires-2 c = (simp length-set (omega (arith, c.requires.m_in_bounds)), search rules)

pub returns : goal.returns
returns c = arrival_made _ _ _ c.requires.formed.0 _ _ _ _ _ _ _ _ _ refl c.requires.m_in_bounds c.copy.ensures refl refl c.copy-2.ensures refl
