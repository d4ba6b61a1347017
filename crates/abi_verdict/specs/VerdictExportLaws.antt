-- The verdict call's counts are those of the reduced-game call, so they fit the answer's fields.
use Rattle.std.specs.Prelude.{◌≡◌, refl, List, [], ◌∷◌, ℕ, take, Ok, Result, Err}
use Rattle.std.proofs.Common.{sym, ap, subst}
use Rattle.theory.specs.Classes.Reduction.{reduced}
use Rattle.theory.proofs.Classes.SizeLaws.{reduced_size, reduced_edges}
use Rattle.table.specs.Answers.{Answer, accepted}
use Rattle.reduction.specs.TableCall.{table_counts, TableCall}
use Rattle.reduction.specs.declared.TableCounts.{TableCounts}
use Rattle.abi_answer.specs.Fields.{SmallCounts}
use Rattle.abi_answer.specs.FieldsLaws.{tabulation_small}
use Rattle.verdict.specs.VerdictCall.{verdict_answer, VerdictCall}
use Rattle.verdict.proofs.VerdictRulesLaws.{front_fits, verdict_accepted, verdict_table}
use Rattle.table.specs.declared.Refusal.{Refusal}
use Rattle.verdict.specs.declared.Verdict.{Verdict}
use Rattle.abi_verdict.specs.VerdictExport.{SmallVerdict}

module _ (game : List ℕ) (vertex player : ℕ) (plan marks spare classes reduction : List ℕ) (marks' spare' classes' reduction' : List ℕ) where
  abbrev Call : Answer → Type 0
  Call answer = VerdictCall game vertex player plan marks spare classes reduction answer marks' spare' classes' reduction'

  counts_small : (c : TableCounts) (x : ℕ) → Call (accepted (c.classes ∷ c.vertices ∷ c.edges ∷ x ∷ [])) → SmallCounts (Ok c)
  counts_small c x call =
      let (f, q) = verdict_accepted call _ refl in
      let e : table_counts reduced game ≡ c.classes ∷ c.vertices ∷ c.edges ∷ [] = sym (ap (λ (xs : List ℕ). take 3 xs) q) in
      tabulation_small reduced reduced_size reduced_edges game marks spare classes reduction (Ok c) marks' spare' classes' reduction'
      (subst (λ (xs : List ℕ). TableCall reduced game marks spare classes reduction (accepted xs) marks' spare' classes' reduction') e
      (verdict_table call (front_fits game vertex marks spare classes reduction f.table_fits f.vertex_in)))

  pub verdict_small : (r : Result Verdict Refusal) → Call (verdict_answer r) → SmallVerdict r
  verdict_small (Ok (Verdict.Wins c)) call = counts_small c 1 call
  verdict_small (Ok (Verdict.NotShown c)) call = counts_small c 0 call
  verdict_small (Err f) call = tt
