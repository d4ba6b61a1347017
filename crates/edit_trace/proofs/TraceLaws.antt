-- Laws of a trace: its row at each way out of the code, and its entries one by one.
use Rattle.std.specs.Prelude.{◌≡◌, ℕ, suc, ◌+◌, ◌-◌, ◌*◌, ◌≤◌, ◌<◌, eqb, ltb, length}
use Rattle.std.proofs.Math.Path.{sym, ap}
use Rattle.std.proofs.Common.{ap₂, arith}
use Rattle.std.proofs.Math.Bool.{not}
use mathlib.Core.List.{List, [], ◌∷◌}
use borrow.Author.Tests.{eqb-true, ltb-false, not-false, eq-eqb, ne_eqb, lt-ltb, le-ltb}
use Rattle.theory.specs.Logic.Bools.{◌or◌}
use Rattle.theory.proofs.Logic.BoolsLaws.{not_in, or_left, or_right, or_fails}
use Rattle.theory.specs.Logic.Range.{tabulate}
use Rattle.theory.proofs.Logic.ListLaws.{tabulate_ext}
use Rattle.table.specs.Answers.{accepted, refused, judge, Clean}
use Rattle.table.specs.AnswersLaws.{judge_hit, judge_clean}
use Rattle.edit_trace.specs.Trace.{entry_limit, entry_count, entry_at, entries_in, entries_from, trace_rows}

-- ---- 40

module _ (trace : List ℕ) where
  abbrev needed : ℕ
  needed = 1 + 2 * entry_count trace

  pub no_words : length trace ≡ 0 → refused 40 0 ≡ judge (trace_rows trace) []
  unfolding trace_rows
  no_words h =
      sym (judge_hit _ [] []
      (or_left (ltb entry_limit (entry_count trace)) (or_left (not (eqb (length trace) needed)) (eq-eqb (length trace) 0 h))))

  pub other_length : (length trace ≡ needed → ⊥) → refused 40 0 ≡ judge (trace_rows trace) []
  unfolding trace_rows
  other_length d =
      sym (judge_hit _ [] []
      (or_left (ltb entry_limit (entry_count trace)) (or_right (eqb (length trace) 0) (not_in (ne_eqb (length trace) needed d)))))

  pub too_many : entry_limit < entry_count trace → refused 40 0 ≡ judge (trace_rows trace) []
  unfolding trace_rows
  too_many h =
      sym (judge_hit _ [] []
      (or_right (eqb (length trace) 0 or not (eqb (length trace) needed)) (lt-ltb entry_limit (entry_count trace) h)))

  pub trace_clean : length trace ≡ needed → entry_count trace ≤ entry_limit → Clean (trace_rows trace)
  unfolding trace_rows
  trace_clean e h = (
    (or_fails _ _).1 (
      (or_fails _ _).1 (ne_eqb (length trace) 0 (λ z. omega arith), ap not (eq-eqb (length trace) needed e)),
      le-ltb entry_limit (entry_count trace) h,
    ),
    tt,
  )

  pub trace_accepted : length trace ≡ needed → entry_count trace ≤ entry_limit → accepted [] ≡ judge (trace_rows trace) []
  trace_accepted e h = sym (judge_clean (trace_rows trace) [] (trace_clean e h))

pub trace_length : (trace : List ℕ) → Clean (trace_rows trace) → length trace ≡ 1 + 2 * entry_count trace
unfolding trace_rows
trace_length trace c = eqb-true (length trace) _ (not-false _ ((or_fails _ _).0 ((or_fails _ _).0 c.0).0).1)

pub trace_few : (trace : List ℕ) → Clean (trace_rows trace) → entry_count trace ≤ entry_limit
unfolding trace_rows
trace_few trace c = ltb-false entry_limit (entry_count trace) ((or_fails _ _).0 c.0).1

-- ---- entries

pub entries_all : (trace : List ℕ) → entries_in trace ≡ entries_from trace 0
unfolding entries_in
entries_all trace =
    let e : entry_count trace - 0 ≡ entry_count trace = omega arith in
    rw e (tabulate_ext {A = ℕ × ℕ} (entry_count trace) (entry_at trace) (λ k. entry_at trace (0 + k)) (λ i h. ap (entry_at trace) (omega arith)))

pub entries_next : (trace : List ℕ) (i : ℕ) → i < entry_count trace → entries_from trace i ≡ entry_at trace i ∷ entries_from trace (i + 1)
unfolding tabulate
entries_next trace i h =
    let e : entry_count trace - i ≡ suc (entry_count trace - (i + 1)) = omega arith in
    let first : entry_at trace (i + 0) ≡ entry_at trace i = ap (entry_at trace) (omega arith) in
    rw e
    (ap₂ ◌∷◌ first
    (tabulate_ext {A = ℕ × ℕ} (entry_count trace - (i + 1)) (λ k. entry_at trace (i + suc k)) (λ k. entry_at trace (i + 1 + k))
    (λ k l. ap (entry_at trace) (omega arith))))

pub entries_none : (trace : List ℕ) (i : ℕ) → entry_count trace ≤ i → entries_from trace i ≡ []
unfolding tabulate
entries_none trace i h = let e : entry_count trace - i ≡ 0 = omega arith in rw e
