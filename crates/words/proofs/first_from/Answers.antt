-- Bit t of the word shifted by k is bit k + t of the word, so its lowest set bit gives the first from k on; if it is 0, there is none.
use Prim.Native.Nat.{◌+◌, ◌/◌, ◌^◌, ◌<◌}
use lib.Count.{count_trailing_zeros}
use Rattle.words.specs.Word.{word_bits, digit}
use native.Mathlib.Omega.{arith}
use Rattle.words.specs.WordLaws.{first_none_left, first_inside, first_digit}
use Rattle.theory.proofs.Logic.RangeLaws.{first_end_lem}
use Rattle.words.proofs.first_from.Goals as goal
use Rattle.words.proofs.first_from.Lts as lts
use Rattle.words.proofs.first_from.Reads as reads

pub returns-then-k-ge64 : goal.returns-then-k-ge64
returns-then-k-ge64 c = omega (arith, c.requires, c.if-k-ge64.true, first_end_lem (digit c.args.word) c.args.k word_bits c.if-k-ge64.true)

pub returns-then-rest-eq0 : goal.returns-then-rest-eq0
returns-then-rest-eq0 c = first_none_left _ _ c.requires c.if-rest-eq0.true

-- the bit is below 64
inside : (c : lts.Else2 reads.Pre reads.Post) → let s = c.args in s.k + count_trailing_zeros 64 (s.word / 2 ^ s.k) < word_bits
inside c = first_inside _ _ c.ranges.word.fits (omega (arith, c.if-k-ge64.false)) c.if-rest-eq0.false

pub overflow_cast-result : goal.overflow_cast-result
overflow_cast-result c = omega (arith, inside c)

pub overflow_add-result : goal.overflow_add-result
overflow_add-result c = omega (arith, inside c)

pub returns : goal.returns
returns c = first_digit _ _ c.ranges.word.fits (omega (arith, c.if-k-ge64.false)) c.if-rest-eq0.false
