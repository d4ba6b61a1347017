-- The reduced game has no more vertices and edges than the game, so the counts fit their fields.
use Rattle.theory.specs.Classes.Reduction.{reduced}
use Rattle.theory.proofs.Classes.SizeLaws.{reduced_size, reduced_edges}
use Rattle.abi_answer.specs.FieldsLaws.{tabulation_small}
use Rattle.abi.proofs.raskjomi_reduce.Goals as goal

pub of_tabulation-requires : goal.of_tabulation-requires
of_tabulation-requires c = tabulation_small reduced reduced_size reduced_edges _ _ _ _ _ c.write_reduced.result _ _ _ _ c.write_reduced.ensures
