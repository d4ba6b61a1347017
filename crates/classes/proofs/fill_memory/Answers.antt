-- Without `mirror`, the marks, the number of classes and the class words are by definition those of the order.
use Rattle.theory.specs.Order.Governed.{marks_by, relation_by}
use Rattle.theory.specs.Classes.Reduction.{class_of}
use Rattle.table.specs.Table.{game_of}
use Rattle.classes.specs.ClassesCall.{class_total, class_words, total_of, words_of}
use Rattle.classes.proofs.fill_memory.Goals as goal

pub returns : goal.returns
unfolding marks_by relation_by game_of class_total class_words class_of total_of words_of
returns c = c.fill_numbered.ensures
