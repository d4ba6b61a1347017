-- An accepted table has small sizes, so they fit their fields.
use mathlib.Core.Path.{ap, ◌∙◌}
use Rattle.abi_answer.specs.Fields.{read_fields}
use Rattle.abi_answer.specs.FieldsLaws.{reading_small}
use Rattle.abi.proofs.raskjomi_read.Goals as goal

pub of_reading-requires : goal.of_reading-requires
of_reading-requires c = reading_small _ c.read.result c.read.ensures

pub returns : goal.returns
returns c = c.of_reading.ensures ∙ ap read_fields c.read.ensures
