-- No number before the place is in the words; the place goes to the next digit or to the next word.
use native.Mathlib.Omega.{arith}
use mathlib.Core.List.{List}
use mathlib.Core.Path.{◌≡◌}
use Prim.Native.Nat.{ℕ, ◌+◌, ◌*◌, ◌/◌, ◌%◌, ◌≤◌}
use lib.ListN.{get_or}
use Rattle.theory.specs.Logic.Range.{first}
use Rattle.theory.proofs.Logic.RangeLaws.{first_ge, first_le}
use Rattle.words.specs.Word.{digit}
use Rattle.words.specs.MembersLaws.{NoneIn, first_past, none_more, first_here}
use Rattle.words.proofs.members.next_member.Goals as goal
use Rattle.words.proofs.members.next_member.Lts as lts
use Rattle.words.proofs.members.next_member.Reads as reads
use Rattle.words.proofs.members.next_member.Tie as tie

pub loop-at-init : goal.loop-at-init
loop-at-init c = (omega arith, λ i l m. absurd (omega arith))

abbrev words_of : lts.At-loop tie.the-claims reads.Pre reads.Post goal.the-invariant-loop-at goal.the-decreases-loop-at → List ℕ
words_of c = c.args.words.now

pub overflow_add-at : goal.overflow_add-at
overflow_add-at c = let at = c.loop-at.at in
    let l = first_le (digit (get_or (words_of c.before.before.before.before) (at / 64) 0)) (at % 64) 64 (omega arith) in
    omega (arith, l, c.first_from-bit.ensures, c.requires.2, c.loop-at-test.true)

pub returns-then-at-end : goal.returns-then-at-end
returns-then-at-end c = let f = c.first_from-bit.ensures in
    rw f (first_here (words_of c.before.before.before.before.before.before) c.loop-at.at _ _ c.loop-at.invariant.0 c.loop-at.invariant.1 (omega (arith, f, c.if-bit-lt64.true)) (omega (arith, f, c.if-at-end.true)))

-- nothing is in the words before the place that the word's search gives
again : (words : List ℕ) (a at bit : ℕ) → bit ≡ first (digit (get_or words (at / 64) 0)) (at % 64) 64 → a ≤ at → NoneIn words a at
    → (a ≤ at / 64 * 64 + bit) × NoneIn words a (at / 64 * 64 + bit)
again words a at bit f h none =
    (omega (arith, h, f, first_ge (digit (get_or words (at / 64) 0)) (at % 64) 64), none_more words at a bit f none)

pub loop-at-preserved-else-at-end : goal.loop-at-preserved-else-at-end
loop-at-preserved-else-at-end c =
    again (words_of c.before.before.before.before.before.before) c.args.from c.loop-at.at _ c.first_from-bit.ensures c.loop-at.invariant.0 c.loop-at.invariant.1

pub loop-at-preserved : goal.loop-at-preserved
loop-at-preserved c =
    again (words_of c.before.before.before.before.before) c.args.from c.loop-at.at _ c.first_from-bit.ensures c.loop-at.invariant.0 c.loop-at.invariant.1

pub returns : goal.returns
returns c = first_past (words_of c.before.before) _ c.loop-at.at _ c.requires.0 c.loop-at-test.false c.loop-at.invariant.1
