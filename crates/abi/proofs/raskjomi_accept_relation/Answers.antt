-- The fields are those of the call's answer.
use mathlib.Core.Path.{ap, ◌∙◌}
use Rattle.abi_answer.specs.Fields.{accept_fields}
use Rattle.abi.proofs.raskjomi_accept_relation.Goals as goal

pub returns : goal.returns
returns c = c.of_acceptance.ensures ∙ ap accept_fields c.accept_relation.ensures
