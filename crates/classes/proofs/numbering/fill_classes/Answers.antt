-- There are representatives for as many classes as there can be vertices.
use Rattle.classes.specs.NumberingLaws.{numbered_total}
use Rattle.classes.proofs.numbering.fill_classes.Goals as goal

pub returns : goal.returns
returns c = let n = c.number_classes.ensures in record { value = numbered_total n.numbered; classes_value = n.classes_value }
