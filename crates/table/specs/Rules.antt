-- A table of refusals in terms of logic: what a row's condition and place mean, stated and not computed.
use Rattle.std.specs.Prelude.{◌≡◌, ◌↔◌, List, [], ◌∷◌, ℕ, ◌≤◌, ◌<◌, length}
use Rattle.std.proofs.Math.Bool.{So}
use Rattle.table.specs.Answers.{Row}

-- a row as document 01 has it: number, condition, and which place it names
pub record Rule : Type 1 where
  pub number : ℕ
  pub Holds : Type 0
  pub At : ℕ → Type 0

-- some number from a on, below e, has P
abbrev pub Some : (ℕ → Type 0) → ℕ → ℕ → Type 0
Some P a e = (k : ℕ) × (a ≤ k) × (k < e) × P k

-- k is the first of them
pub record First (P : ℕ → Type 0) (a e k : ℕ) : Type 0 where
  pub from : a ≤ k
  pub below : k < e
  pub holds : P k
  pub before : (j : ℕ) → a ≤ j → j < k → ¬ P j

-- a condition with one place
abbrev pub placed : ℕ → Type 0 → ℕ → Rule
placed k C x = record { number = k; Holds = C; At = λ p. x ≡ p }

-- lent memory shorter than needed, as 21 to 24; the place is the length needed
abbrev pub memory_rule : ℕ → ℕ → List ℕ → Rule
memory_rule number needed memory = placed number (length memory < needed) needed

-- some number from a on, below e, has P; the place of the first such j is `at j`
abbrev pub first_such : ℕ → (ℕ → Type 0) → ℕ → ℕ → (ℕ → ℕ) → Rule
first_such k P a e at = record { number = k; Holds = Some P a e; At = λ p. (j : ℕ) × First P a e j × (at j ≡ p) }

-- the first rule whose condition holds has number k and names place p
pub data FirstRule : List Rule → ℕ → ℕ → Type 1 where
  here : {q : Rule} {qs : List Rule} {k p : ℕ} → q.Holds → q.number ≡ k → q.At p → FirstRule (q ∷ qs) k p
  later : {q : Rule} {qs : List Rule} {k p : ℕ} → ¬ q.Holds → FirstRule qs k p → FirstRule (q ∷ qs) k p

-- no rule's condition holds
pub data NoRule : List Rule → Type 1 where
  no_rule : NoRule []
  fails : {q : Rule} {qs : List Rule} → ¬ q.Holds → NoRule qs → NoRule (q ∷ qs)

-- a computed row renders a rule: the same number, condition and place
pub record Renders (r : Row) (q : Rule) : Type 0 where
  pub number : r.number ≡ q.number
  pub holds : So r.condition ↔ q.Holds
  pub place : So r.condition → (p : ℕ) → (r.place ≡ p) ↔ q.At p

pub data Rendered : List Row → List Rule → Type 1 where
  none : Rendered [] []
  next : {r : Row} {q : Rule} {rs : List Row} {qs : List Rule} → Renders r q → Rendered rs qs → Rendered (r ∷ rs) (q ∷ qs)
