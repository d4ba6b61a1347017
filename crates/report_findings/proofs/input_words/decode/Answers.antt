-- Past the last byte all words are written.
use Rattle.std.proofs.Common.{◌≡◌, arith}
use Rattle.theory.proofs.Logic.ListLaws.{length_tabulate}
use Rattle.table.specs.AnswersLaws.{written_start, written_more}
use Rattle.report_findings.specs.Words.{word_at, words_in, words_of}
use Rattle.report_findings.specs.WordsLaws.{words_end}
use Rattle.report_findings.proofs.input_words.decode.Goals as goal

pub loop-i-init : goal.loop-i-init
loop-i-init c = written_start _ _

pub loop-i-preserved : goal.loop-i-preserved
loop-i-preserved c =
    let l = c.loop-i in
    rw (l.invariant, c.word_at.ensures) (written_more _ l.i _ (omega arith))

pub returns : goal.returns
unfolding words_of
returns c =
    let l = c.loop-i in
    let bytes = c.args.bytes.now in
    let e : l.i ≡ words_in bytes = words_end bytes l.i (omega arith) (omega arith) in
    (rw (length_tabulate (words_in bytes) (word_at bytes)) (omega arith), rw e at l.invariant)
