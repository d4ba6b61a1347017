-- An empty word has none; else the marks of the word are compared with it.
use Rattle.reduction_edges.proofs.WordsLaws.{word_none, word_both}
use Rattle.reduction_edges.proofs.little_brothers.Targets.beaten_word.Goals as goal

pub returns-then-here-eq0 : goal.returns-then-here-eq0
returns-then-here-eq0 c = word_none _ _ _ _ _ c.requires.2 c.if-here-eq0.true

pub returns : goal.returns
returns c = word_both _ _ _ _ _ _ c.requires.2 c.word_of.ensures
