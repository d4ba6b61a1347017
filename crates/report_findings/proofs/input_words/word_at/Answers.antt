-- Past the last byte the definition reads 0, the high byte of a half word.
use Rattle.std.proofs.Common.{rules, arith}
use Rattle.report_findings.specs.Words.{word_at}
use Rattle.report_findings.specs.WordsLaws.{half_word}
use Rattle.report_findings.proofs.input_words.word_at.Goals as goal

pub returns-then-at-bytes : goal.returns-then-at-bytes
unfolding word_at
returns-then-at-bytes c = search rules

pub returns-else-at-bytes : goal.returns-else-at-bytes
returns-else-at-bytes c = let a = c.args in
    omega (arith, c.word-else-at-bytes.ensures, half_word a.bytes.now a.i (omega arith))
