-- Losses that gain pairs: the reverses of what a round takes out are taken out too.
use Rattle.std.specs.Prelude.{◌≡◌, Bool, ℕ, ◌+◌, ◌<◌, eqb}
use Rattle.std.proofs.Math.Bool.{So}
use Rattle.theory.specs.Logic.Bools.{◌&◌, ◌or◌}
use Rattle.theory.specs.Logic.Range.{any_below}
use Rattle.theory.specs.Order.Passes.{Rel}
use Rattle.theory.specs.Order.Rows.{mirrored_by}
use Rattle.words.specs.Word.{word_bits, digit}
use Rattle.order_sets.specs.Sets.{struck}

-- the pairs of p are losses too, and no row leaves those that lose something
pub record MoreIn (B : ℕ) (p next : Rel) (losing : ℕ → Bool) (next' : Rel) (losing' : ℕ → Bool) : Type 0 where
  pub pairs : (u y : ℕ) → u < B → y < B → struck losing' next' u y ≡ (struck losing next u y or p u y)
  pub grows : (u : ℕ) → u < B → So (losing u) → So (losing' u)

-- the pair (w, v)
abbrev pub one_pair : ℕ → ℕ → Rel
one_pair w v u y = eqb u w & eqb y v

-- the pairs of a word's bits with v; its bit 0 is for row `base`
abbrev pub word_pairs : ℕ → ℕ → ℕ → Rel
word_pairs base which v u y = any_below word_bits (λ k. digit which k & one_pair (base + k) v u y)

-- the pairs of all in `which` with v
abbrev pub column_pairs : (ℕ → Bool) → ℕ → Rel
column_pairs which v u y = which u & eqb y v

-- the losses are those before and, with `mirror`, their reverses
abbrev pub CompletedIn : ℕ → Bool → Rel → (ℕ → Bool) → Rel → (ℕ → Bool) → Type 0
CompletedIn B mirror next losing next' losing' =
    (u y : ℕ) → u < B → y < B → struck losing' next' u y ≡ mirrored_by mirror (struck losing next) u y
