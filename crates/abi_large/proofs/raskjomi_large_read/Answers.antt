-- The sizes are words of 32 bits, so they fit their fields.
use Rattle.abi_large.specs.LargeFieldsLaws.{large_small}
use Rattle.abi_large.proofs.raskjomi_large_read.Goals as goal

pub of_filling-requires : goal.of_filling-requires
of_filling-requires c = large_small _ c.type_inv.game c.read.result c.read.ensures
