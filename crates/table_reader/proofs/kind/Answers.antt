-- Each arm knows how the number lies to the ends of the ranges before it.
use mathlib.Core.Path.{◌≡◌}
use Prim.Native.Nat.{ℕ, ◌≤◌}
use native.Mathlib.Omega.{arith}
use Rattle.table.specs.Kind.{kind_of}
use Rattle.table.specs.KindLaws.{within_in, within_fails}
use Rattle.table_reader.proofs.kind.Goals as goal

pub returns-in-1-to-8 : goal.returns-in-1-to-8
unfolding kind_of
returns-in-1-to-8 c = let k = c.args.number in rw (within_in 1 8 k (omega arith) (omega arith))

pub returns-in-9-to-10 : goal.returns-in-9-to-10
unfolding kind_of
returns-in-9-to-10 c = let k = c.args.number in rw (within_fails 1 8 k (omega arith), within_in 9 10 k (omega arith) (omega arith))

pub returns-in-11-to-16 : goal.returns-in-11-to-16
unfolding kind_of
returns-in-11-to-16 c = let k = c.args.number in
    rw (within_fails 1 8 k (omega arith), within_fails 9 10 k (omega arith), within_in 11 16 k (omega arith) (omega arith))

pub returns-in-21-to-24 : goal.returns-in-21-to-24
unfolding kind_of
returns-in-21-to-24 c = let k = c.args.number in
    rw (within_fails 1 8 k (omega arith), within_fails 9 10 k (omega arith), within_fails 11 16 k (omega arith), within_in 21 24 k (omega arith) (omega arith))

pub returns-in-31-to-99 : goal.returns-in-31-to-99
unfolding kind_of
returns-in-31-to-99 c = let k = c.args.number in
    rw (within_fails 1 8 k (omega arith), within_fails 9 10 k (omega arith), within_fails 11 16 k (omega arith), within_fails 21 24 k (omega arith), within_in 31 99 k (omega arith) (omega arith))

-- a number in none of the ranges
none : (k : ℕ) → (1 ≤ k → k ≤ 8 → ⊥) → (9 ≤ k → k ≤ 10 → ⊥) → (11 ≤ k → k ≤ 16 → ⊥) → (21 ≤ k → k ≤ 24 → ⊥) → (31 ≤ k → k ≤ 99 → ⊥) → 0 ≡ kind_of k
unfolding kind_of
none k a b c d e = rw (within_fails 1 8 k a, within_fails 9 10 k b, within_fails 11 16 k c, within_fails 21 24 k d, within_fails 31 99 k e)

pub returns-in_default : goal.returns-in_default
returns-in_default c = none c.args.number (omega arith) (omega arith) (omega arith) (omega arith) (omega arith)

pub returns-in_default-2 : goal.returns-in_default-2
returns-in_default-2 c = none c.args.number (omega arith) (omega arith) (omega arith) (omega arith) (omega arith)

pub returns-in_default-3 : goal.returns-in_default-3
returns-in_default-3 c = none c.args.number (omega arith) (omega arith) (omega arith) (omega arith) (omega arith)

pub returns-in_default-4 : goal.returns-in_default-4
returns-in_default-4 c = none c.args.number (omega arith) (omega arith) (omega arith) (omega arith) (omega arith)
