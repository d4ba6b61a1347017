-- Eight bytes are as many marks as a word has bits; of fewer, the rest lies beyond the buffer, where nothing is marked.
use Rattle.marks.specs.MarkReadingLaws.{read_all}
use Rattle.marks.proofs.reading.read_word.Goals as goal

pub returns-then-count-ge8 : goal.returns-then-count-ge8
returns-then-count-ge8 c = c.read_whole.ensures.0

pub returns : goal.returns
returns c = λ k h. read_all c.args.marks.now c.args.first _ c.requires c.read_whole-2.ensures k
