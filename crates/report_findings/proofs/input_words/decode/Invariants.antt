-- The first i words are written, and the others are as before.
use Rattle.std.proofs.Common.{◌≡◌}
use Rattle.theory.specs.Logic.Range.{tabulate}
use Rattle.table.specs.Answers.{written}
use Rattle.report_findings.specs.Words.{word_at}
use Rattle.report_findings.proofs.input_words.decode.Given as goal

abbrev pub invariant-loop-i : goal.invariant-loop-i
invariant-loop-i l = l.words ≡ written (tabulate l.i (word_at l.bytes)) l.initial.words
