-- Laws of lists by index.
use Rattle.std.specs.Prelude.{◌≡◌, length, get_or, take, drop, set, replicate}
use Rattle.std.proofs.Math.Path.{refl, ap, ap₂}
use Rattle.std.proofs.Common.{sym, ◌∙◌, subst, not-suc-le-zero, le_of_suc-le-suc, arith, take-append-drop, length-drop, ext_get_or, get_or-set_same, get_or-set_other, length-take-le, get_or-take, get_or-drop, drop-drop}
use mathlib.Core.List.{List, [], ◌∷◌, ◌++◌, map}
use Prim.Native.Nat.{ℕ, zero, suc, ◌+◌, ◌≤◌, ◌<◌}
use Rattle.std.proofs.Math.Decide.{ℕ_discrete}
use Rattle.theory.specs.Logic.Range.{tabulate}

module _ {A : Type 0} where
  pub length_tabulate : (n : ℕ) (f : ℕ → A) → length (tabulate n f) ≡ n
  unfolding tabulate
  length_tabulate zero f = refl
  length_tabulate (suc n) f = ap suc (length_tabulate n (λ i. f (suc i)))

  pub get_d_tabulate : (n : ℕ) (f : ℕ → A) (d : A) (i : ℕ) → i < n → get_or (tabulate n f) i d ≡ f i
  unfolding tabulate
  get_d_tabulate zero f d i h = absurd (not-suc-le-zero h)
  get_d_tabulate (suc n) f d zero h = refl
  get_d_tabulate (suc n) f d (suc i) h = get_d_tabulate n (λ j. f (suc j)) d i (le_of_suc-le-suc h)

  -- a list with these values
  pub tabulate_by : (n : ℕ) (f : ℕ → A) (d : A) (l : List A) → length l ≡ n → ((i : ℕ) → i < n → get_or l i d ≡ f i) → l ≡ tabulate n f
  tabulate_by n f d l e g =
      ext_get_or d l (tabulate n f) (e ∙ sym (length_tabulate n f)) (λ i h. let k : i < n = omega arith in g i k ∙ sym (get_d_tabulate n f d i k))

  -- it goes by the values
  pub tabulate_ext : (n : ℕ) (f g : ℕ → A) → ((i : ℕ) → i < n → f i ≡ g i) → tabulate n f ≡ tabulate n g
  unfolding tabulate
  tabulate_ext zero f g h = refl
  tabulate_ext (suc n) f g h = ap₂ ◌∷◌ (h zero (omega arith)) (tabulate_ext n (λ i. f (suc i)) (λ i. g (suc i)) (λ i l. h (suc i) (omega arith)))

  -- one value more
  pub tabulate_snoc : (n : ℕ) (f : ℕ → A) → tabulate (suc n) f ≡ tabulate n f ++ (f n ∷ [])
  unfolding tabulate
  tabulate_snoc zero f = refl
  tabulate_snoc (suc n) f = ap {B = List A} (λ l. f zero ∷ l) (tabulate_snoc n (λ i. f (suc i)))

-- a function of the values
pub map_tabulate : {A B : Type 0} (f : A → B) (n : ℕ) (g : ℕ → A) → map f (tabulate n g) ≡ tabulate n (λ i. f (g i))
unfolding tabulate
map_tabulate f zero g = refl
map_tabulate {B = B} f (suc n) g = ap (λ (l : List B). f (g zero) ∷ l) (map_tabulate f n (λ i. g (suc i)))

-- what is left of a list, k values of it first
pub drop_tabulate : (l : List ℕ) (a k : ℕ) → a + k ≤ length l → drop a l ≡ tabulate k (λ i. get_or l (a + i) 0) ++ drop (a + k) l
drop_tabulate l a k h =
    let t : take k (drop a l) ≡ tabulate k (λ i. get_or l (a + i) 0) =
    tabulate_by k _ 0 (take k (drop a l)) (length-take-le k (drop a l) (simp length-drop (omega arith)))
    (λ i m. get_or-take k (drop a l) i 0 m ∙ get_or-drop a l i 0) in
    sym (take-append-drop k (drop a l)) ∙ ap₂ ◌++◌ t (drop-drop k a l)

-- a zeroed list
pub zeros : (n i : ℕ) → get_or {A = ℕ} (replicate n 0) i 0 ≡ 0
zeros zero i = refl
zeros (suc n) zero = refl
zeros (suc n) (suc i) = zeros n i

-- what stands in a list after a store
pub after_set {ℓ} : (P : ℕ → ℕ → Type ℓ) (l : List ℕ) (i x : ℕ) → i < length l → P i x → ((k : ℕ) → (k ≡ i → ⊥) → P k (get_or l k 0)) → (k : ℕ) → P k (get_or (set l i x) k 0)
after_set P l i x h here other k = elim (ℕ_discrete k i) [
  | yes e ↦ subst (λ (j : ℕ). P j (get_or (set l i x) j 0)) (sym e) (rw (get_or-set_same l i x 0 h) here)
  | no d ↦ rw (get_or-set_other l i k x 0 d) (other k d)
]
