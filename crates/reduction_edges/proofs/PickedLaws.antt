-- Laws of the numbers that pass, listed ascending.
use Rattle.std.specs.Prelude.{◌≡◌, Bool}
use Rattle.std.proofs.Math.Path.{refl, sym, ap, ap₂}
use Rattle.std.proofs.Common.{◌∙◌, add-zero, suc-mul, le_refl, add-one}
use Rattle.std.proofs.Math.Bool.{true, false, cond, So}
use mathlib.Core.List.{List, [], ◌∷◌, ◌++◌, map, append-nil, append_assoc, map-append}
use Prim.Native.Nat.{ℕ, zero, suc, ◌+◌, ◌*◌, ◌≤◌, ◌<◌}
use Rattle.std.proofs.Math.Decide.{ℕ_discrete}
use native.Mathlib.Omega.{arith}
use Rattle.std.proofs.Math.Arith.{digits_div, digits_mod}
use Rattle.std.proofs.Math.ListN.{length, length-append}
use Rattle.std.proofs.lemmas.List.{length-map}
use Rattle.theory.specs.Logic.Bools.{◌&◌, bit}
use Rattle.theory.specs.Logic.Range.{tabulate, pairs_below, count, nth}
use Rattle.theory.proofs.Logic.CountLaws.{count_grows, count_lt, nth_count}
use Rattle.table.specs.Listing.{sources_of, targets_of}
use Rattle.reduction_edges.specs.Rows.{picked, edge_to}

module _ (p : ℕ → Bool) where
  pub picked_more : (n : ℕ) → picked (n + 1) p ≡ picked n p ++ cond (p n) (n ∷ []) []
  unfolding picked
  picked_more n = rw (add-one n)

  picked_length : (n : ℕ) → length (picked n p) ≡ count n p
  unfolding picked count bit
  picked_length zero = refl
  picked_length (suc n) = length-append (picked n p) _ ∙ ap₂ ◌+◌ (picked_length n) (one (p n))
    where
      one : (b : Bool) → length (cond b (n ∷ []) []) ≡ bit b
      one true = refl
      one false = refl

  pub picked_grows : (a b : ℕ) → a ≤ b → length (picked a p) ≤ length (picked b p)
  picked_grows a b h = omega (arith, picked_length a, picked_length b, count_grows a b p h)

  -- one that passes has room
  pub picked_room : (d n : ℕ) → d < n → So (p d) → length (picked d p) < length (picked n p)
  picked_room d n h t = omega (arith, picked_length d, picked_length n, count_lt n p d h t)

  -- none that passes from a on, below b
  pub picked_skip : (a b : ℕ) → a ≤ b → ((i : ℕ) → a ≤ i → i < b → p i ≡ false) → picked a p ≡ picked b p
  unfolding picked
  picked_skip a zero l none = let e : a ≡ 0 = omega arith in ap (λ (n : ℕ). picked n p) e
  picked_skip a (suc b) l none = elim (ℕ_discrete a (suc b)) [
    | yes e ↦ ap (λ (n : ℕ). picked n p) e
    | no m ↦ picked_skip a b (omega arith) (λ i x y. none i x (omega arith)) ∙ sym (rw (none b (omega arith) (omega arith)) (append-nil (picked b p)))
  ]

pub picked_ext : (n : ℕ) (p q : ℕ → Bool) → ((i : ℕ) → i < n → p i ≡ q i) → picked n p ≡ picked n q
unfolding picked
picked_ext zero p q f = refl
picked_ext (suc n) p q f = rw (picked_ext n p q (λ i h. f i (omega arith)), f n (omega arith))

-- numbers that are among those of `low`, given by their number there
module _ (N : ℕ) (low E : ℕ → Bool) (f : ℕ → ℕ) (e : (x : ℕ) → x < N → So (low x) → f x ≡ count x low) where
  pub picked_numbers : (n : ℕ) → n ≤ N → map f (picked n (λ x. low x & E x)) ≡ picked (count n low) (λ d. E (nth N low d))
  unfolding picked count bit ◌&◌
  picked_numbers zero h = refl
  picked_numbers (suc n) h = go (low n) refl (picked_numbers n (omega arith))
    where
      last : So (low n) → (b : Bool) → map f (cond b (n ∷ []) []) ≡ cond b (count n low ∷ []) []
      last t true = ap (λ (x : ℕ). x ∷ []) (e n h t)
      last t false = refl

      go : (b : Bool) → low n ≡ b → map f (picked n (λ x. low x & E x)) ≡ picked (count n low) (λ d. E (nth N low d))
          → map f (picked n (λ x. low x & E x) ++ cond (b & E n) (n ∷ []) []) ≡ picked (count n low + bit b) (λ d. E (nth N low d))
      go true t ih =
          map-append f (picked n (λ x. low x & E x)) _
          ∙ ap₂ ◌++◌ ih (last t (E n) ∙ ap (λ b. cond b (count n low ∷ []) []) (ap E (sym (nth_count N low n h t))))
          ∙ sym (picked_more (λ d. E (nth N low d)) (count n low))
      go false t ih = rw (append-nil (picked n (λ x. low x & E x)), add-zero (count n low)) ih

-- the pairs of row c stand behind those of the rows before it
module _ (k : ℕ) (r : ℕ → ℕ → Bool) (c : ℕ) where
  pairs_part : (d : ℕ) → d ≤ k → pairs_below k r (c * k + d) ≡ pairs_below k r (c * k) ++ map (edge_to c) (picked d (r c))
  unfolding pairs_below picked
  pairs_part zero h = rw (add-zero (c * k)) (sym (append-nil (pairs_below k r (c * k))))
  pairs_part (suc d) h =
      let l : d < k = omega arith in
      let e : c * k + suc d ≡ suc (c * k + d) = omega arith in
      rw (e, digits_div c l, digits_mod c l, pairs_part d (omega arith), map-append (edge_to c) (picked d (r c)) (cond (r c d) (d ∷ []) []))
      (append_assoc (pairs_below k r (c * k)) _ _ ∙ ap (λ (l : List (ℕ × ℕ)). pairs_below k r (c * k) ++ (map (edge_to c) (picked d (r c)) ++ l)) (one (r c d)))
    where
      one : (b : Bool) → cond {A = List (ℕ × ℕ)} b ((c, d) ∷ []) [] ≡ map (edge_to c) (cond b (d ∷ []) [])
      one true = refl
      one false = refl

  pub pairs_row : pairs_below k r ((c + 1) * k) ≡ pairs_below k r (c * k) ++ map (edge_to c) (picked k (r c))
  pairs_row = rw (add-one c, suc-mul c k) (pairs_part k (le_refl k))

-- ---- their sources and their targets

pub row_sources : (c : ℕ) (xs : List ℕ) → sources_of (map (edge_to c) xs) ≡ tabulate (length xs) (λ i. c)
unfolding tabulate
row_sources c [] = refl
row_sources c (x ∷ xs) = ap (λ (l : List ℕ). c ∷ l) (row_sources c xs)

row_targets : (c : ℕ) (xs : List ℕ) → targets_of (map (edge_to c) xs) ≡ xs
row_targets c [] = refl
row_targets c (x ∷ xs) = ap (λ (l : List ℕ). x ∷ l) (row_targets c xs)

module _ (k : ℕ) (r : ℕ → ℕ → Bool) (c : ℕ) where
  pub sources_row : sources_of (pairs_below k r ((c + 1) * k)) ≡ sources_of (pairs_below k r (c * k)) ++ tabulate (length (picked k (r c))) (λ i. c)
  sources_row = ap sources_of (pairs_row k r c) ∙ map-append _ (pairs_below k r (c * k)) _ ∙ ap (λ (l : List ℕ). sources_of (pairs_below k r (c * k)) ++ l) (row_sources c (picked k (r c)))

  pub targets_row : targets_of (pairs_below k r ((c + 1) * k)) ≡ targets_of (pairs_below k r (c * k)) ++ picked k (r c)
  targets_row = ap targets_of (pairs_row k r c) ∙ map-append _ (pairs_below k r (c * k)) _ ∙ ap (λ (l : List ℕ). targets_of (pairs_below k r (c * k)) ++ l) (row_targets c (picked k (r c)))

  pub row_size : length (pairs_below k r ((c + 1) * k)) ≡ length (pairs_below k r (c * k)) + length (picked k (r c))
  row_size =
      let p = ap length (pairs_row k r c) in
      omega (arith, p, length-append (pairs_below k r (c * k)) (map (edge_to c) (picked k (r c))), length-map (picked k (r c)) (edge_to c))
