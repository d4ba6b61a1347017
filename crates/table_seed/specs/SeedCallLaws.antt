-- Laws of the seed call: its promise at each way out.
use Rattle.std.specs.Prelude.{◌≡◌, ℕ, ◌*◌, ◌<◌, ◌≤◌, false, List, [], ◌∷◌, length}
use Rattle.std.proofs.Math.Path.{sym}
use Rattle.std.proofs.Common.{◌∙◌, lt-ltb, le-ltb}
use Rattle.std.proofs.Math.Bool.{So}
use Rattle.table.specs.Table.{table_length}
use Rattle.table.specs.Answers.{memory_row, accepted, refused, written, judge}
use Rattle.table.specs.AnswersLaws.{judge_hit, judge_next, after_accepted, after_refused}
use Rattle.table_seed.specs.SeedTable.{seed_table}
use Rattle.table_seed.specs.SeedCall.{unfit, seed_rows, seed_answer, SeedCall}

module _ (s n d c : ℕ) (output : List ℕ) where
  seed_old : (k p : ℕ) → seed_answer n d c output ≡ refused k p → SeedCall s n d c output (refused k p) output
  unfolding seed_answer
  seed_old k p e = record { verdict = sym e; output_after = sym (after_refused (seed_rows n d c output) _ (seed_table s n d c) output e) }

  pub seed_unfit : So (unfit n d c) → SeedCall s n d c output (refused 31 0) output
  seed_unfit h = seed_old 31 0 (unfold seed_answer seed_rows in judge_hit _ _ _ h)

  module _ (h : unfit n d c ≡ false) where
    memory : seed_answer n d c output ≡ judge (memory_row 32 (table_length n (n * d)) output ∷ []) (n ∷ n * d ∷ [])
    unfolding seed_answer seed_rows
    memory = judge_next _ _ _ h

    pub seed_short : length output < table_length n (n * d) → SeedCall s n d c output (refused 32 (table_length n (n * d))) output
    seed_short k = seed_old 32 (table_length n (n * d)) (memory ∙ judge_hit _ _ _ (lt-ltb (length output) _ k))

    pub seed_done : table_length n (n * d) ≤ length output → SeedCall s n d c output (accepted (n ∷ n * d ∷ [])) (written (seed_table s n d c) output)
    unfolding seed_answer judge
    seed_done k =
        let a : seed_answer n d c output ≡ accepted (n ∷ n * d ∷ []) = memory ∙ judge_next _ [] _ (le-ltb (length output) _ k) in
        record { verdict = sym a; output_after = sym (after_accepted (seed_rows n d c output) _ (seed_table s n d c) output a) }
