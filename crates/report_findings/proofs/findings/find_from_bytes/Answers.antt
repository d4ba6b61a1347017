-- The first `count` words after decoding are the words of the bytes.
use Rattle.std.proofs.Common.{sym, length-take-le}
use Rattle.report_findings.specs.FindingsLaws.{reported_same}
use Rattle.report_findings.specs.WordsLaws.{decoded_inside, decoded_words}
use Rattle.report_findings.proofs.findings.find_from_bytes.Goals as goal

pub slice_bounds-find-end : goal.slice_bounds-find-end
slice_bounds-find-end c = decoded_inside _ _ _ _ c.decode-count.ensures.0 c.decode-count.ensures.1

pub slice_bounds-find-end-2 : goal.slice_bounds-find-end-2
slice_bounds-find-end-2 c = sym (length-take-le _ _ (decoded_inside _ _ _ _ c.decode-count.ensures.0 c.decode-count.ensures.1))

pub returns : goal.returns
returns c = reported_same (decoded_words _ _ _ _ c.decode-count.ensures.0 c.decode-count.ensures.1) c.find.ensures
