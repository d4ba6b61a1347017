-- Laws of a table made of its columns: its length, and its words by place.
use Rattle.std.specs.Prelude.{◌≡◌, List, ◌∷◌, ◌++◌, ℕ, suc, ◌+◌, ◌*◌, ◌<◌, length, get_or}
use Rattle.std.proofs.Common.{ap, ◌∙◌, arith, length-append, get_or-append-add}
use Rattle.std.proofs.Math.ListN.{get_or-append}
use Rattle.table.specs.Table.{priority_at, owner_at, source_at, target_at, table_length}

-- priorities, owners, sources, targets, as long as the sizes say
pub record Columns (n m : ℕ) (P O S U : List ℕ) : Type 0 where
  pub priorities : length P ≡ n
  pub owners : length O ≡ n
  pub sources : length S ≡ m
  pub targets : length U ≡ m

abbrev pub columns : ℕ → ℕ → List ℕ → List ℕ → List ℕ → List ℕ → List ℕ
columns n m P O S U = n ∷ m ∷ (P ++ (O ++ (S ++ U)))

past_sizes : (n m : ℕ) (ws : List ℕ) (i : ℕ) → get_or (n ∷ m ∷ ws) (2 + i) 0 ≡ get_or ws i 0
past_sizes n m ws i = let e : 2 + i ≡ suc (suc i) = omega arith in rw e

past : (us vs : List ℕ) (n i : ℕ) → length us ≡ n → get_or (us ++ vs) (n + i) 0 ≡ get_or vs i 0
past us vs n i e = rw (← e) (get_or-append-add us vs i 0)

module _ {n m : ℕ} {P O S U : List ℕ} (c : Columns n m P O S U) where
  abbrev table : List ℕ
  table = columns n m P O S U

  pub length_columns : length table ≡ table_length n m
  length_columns = simp length-append (omega arith)

  pub priority_column : (v : ℕ) → v < n → priority_at table v ≡ get_or P v 0
  priority_column v h = past_sizes n m (P ++ (O ++ (S ++ U))) v ∙ get_or-append P (O ++ (S ++ U)) 0 v (omega arith)

  past_priorities : (i : ℕ) → get_or table (2 + (n + i)) 0 ≡ get_or (O ++ (S ++ U)) i 0
  past_priorities i = past_sizes n m (P ++ (O ++ (S ++ U))) (n + i) ∙ past P (O ++ (S ++ U)) n i c.priorities

  past_owners : (i : ℕ) → get_or table (2 + (n + (n + i))) 0 ≡ get_or (S ++ U) i 0
  past_owners i = past_priorities (n + i) ∙ past O (S ++ U) n i c.owners

  -- the word at a place, by another name of the place
  at : {i k : ℕ} → i ≡ k → get_or table i 0 ≡ get_or table k 0
  at e = ap (λ (i : ℕ). get_or table i 0) e

  pub owner_column : (v : ℕ) → v < n → owner_at table v ≡ get_or O v 0
  owner_column v h =
      let e : 2 + n + v ≡ 2 + (n + v) = omega arith in
      at e ∙ past_priorities v ∙ get_or-append O (S ++ U) 0 v (omega arith)

  pub source_column : (j : ℕ) → j < m → source_at table j ≡ get_or S j 0
  source_column j h =
      let e : 2 + 2 * n + j ≡ 2 + (n + (n + j)) = omega arith in
      at e ∙ past_owners j ∙ get_or-append S U 0 j (omega arith)

  pub target_column : (j : ℕ) → j < m → target_at table j ≡ get_or U j 0
  target_column j h =
      let e : 2 + 2 * n + m + j ≡ 2 + (n + (n + (m + j))) = omega arith in
      at e ∙ past_owners (m + j) ∙ past S U m j c.sources
