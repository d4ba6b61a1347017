-- The quotient has no more vertices and edges than the game, so the counts fit their fields.
use Rattle.theory.specs.Classes.Reduction.{quotient}
use Rattle.theory.proofs.Classes.SizeLaws.{quotient_size, quotient_edges}
use Rattle.abi_answer.specs.FieldsLaws.{tabulation_small}
use Rattle.abi.proofs.raskjomi_quotient.Goals as goal

pub of_tabulation-requires : goal.of_tabulation-requires
of_tabulation-requires c = tabulation_small quotient quotient_size quotient_edges _ _ _ _ _ c.write_quotient.result _ _ _ _ c.write_quotient.ensures
