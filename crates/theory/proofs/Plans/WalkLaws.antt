-- Laws of walks: joining, splitting at a position, the lowest priority seen, and walks over walks.
use Rattle.std.specs.Prelude.{◌≡◌, ◌⊎◌, Bool}
use Rattle.std.proofs.Math.Path.{refl, ap₂}
use Rattle.std.proofs.Math.Logic.{inl, inr}
use Rattle.std.proofs.Math.Bool.{So}
use mathlib.Core.List.{List, [], ◌∷◌, ◌++◌, map}
use Prim.Native.Nat.{ℕ, ◌≤◌, min}
use Rattle.std.proofs.Math.Decide.{dec_lt}
use Rattle.std.proofs.Common.{arith}
use Rattle.theory.specs.Plans.Plan.{Walk, seen}
use Rattle.theory.specs.Plans.Returns.{In}

In_append : (i : ℕ) (ks ls : List ℕ) → In i (ks ++ ls) → In i ks ⊎ In i ls
In_append i [] ls m = inr m
In_append i (k ∷ ks) ls (inl e) = inl (inl e)
In_append i (k ∷ ks) ls (inr m) = go (In_append i ks ls m)
  where
    go : In i ks ⊎ In i ls → In i (k ∷ ks) ⊎ In i ls
    go (inl x) = inl (inr x)
    go (inr y) = inr y

module _ (link : ℕ → ℕ → Bool) where
  pub walk_join : (i : ℕ) (ks : List ℕ) (j : ℕ) (ls : List ℕ) (e : ℕ) → Walk link i ks j → Walk link j ls e → Walk link i (ks ++ j ∷ ls) e
  walk_join i [] j ls e w u = (w, u)
  walk_join i (k ∷ ks) j ls e w u = (w.0, walk_join k ks j ls e w.1 u)

  -- a walk over ks that passes i, in two parts
  pub record Split (s : ℕ) (ks : List ℕ) (e i : ℕ) : Type 0 where
    pub before : List ℕ
    pub after : List ℕ
    pub walk_before : Walk link s before i
    pub walk_after : Walk link i after e
    pub parts : (k : ℕ) → In k before ⊎ In k after → In k ks

  pub walk_split : (s : ℕ) (ks : List ℕ) (e i : ℕ) → Walk link s ks e → In i ks → Split s ks e i
  walk_split s [] e i w m = absurd m
  walk_split s (k ∷ ks) e i w (inl q) = record {
    before = [];
    after = ks;
    walk_before = rw q w.0;
    walk_after = rw q w.1;
    parts = λ x y. last x y;
  }
    where
      last : (x : ℕ) → In x [] ⊎ In x ks → In x (k ∷ ks)
      last x (inl m) = absurd m
      last x (inr m) = inr m
  walk_split s (k ∷ ks) e i w (inr m) = go (walk_split k ks e i w.1 m)
    where
      go : Split k ks e i → Split s (k ∷ ks) e i
      go r = record {
        before = k ∷ r.before;
        after = r.after;
        walk_before = (w.0, r.walk_before);
        walk_after = r.walk_after;
        parts = part;
      }
        where
          part : (x : ℕ) → In x (k ∷ r.before) ⊎ In x r.after → In x (k ∷ ks)
          part x (inl (inl q)) = inl q
          part x (inl (inr y)) = inr (r.parts x (inl y))
          part x (inr z) = inr (r.parts x (inr z))

  -- a closed walk over ks that passes i, started at i; it passes nothing new
  pub record Rotated (s : ℕ) (ks : List ℕ) (i : ℕ) : Type 0 where
    pub between : List ℕ
    pub walk : Walk link i between i
    pub parts : (k : ℕ) → In k between → In k (s ∷ ks)

  pub walk_rotate : (s : ℕ) (ks : List ℕ) (i : ℕ) → Walk link s ks s → In i (s ∷ ks) → Rotated s ks i
  walk_rotate s ks i w (inl q) = record { between = ks; walk = rw q w; parts = λ k m. inr m }
  walk_rotate s ks i w (inr m) = go (walk_split s ks s i w m)
    where
      go : Split s ks s i → Rotated s ks i
      go r = record { between = r.after ++ s ∷ r.before; walk = walk_join i r.after s r.before i r.walk_after r.walk_before; parts = part }
        where
          part' : (k : ℕ) → In k r.after ⊎ In k (s ∷ r.before) → In k (s ∷ ks)
          part' k (inl x) = inr (r.parts k (inr x))
          part' k (inr (inl q)) = inl q
          part' k (inr (inr y)) = inr (r.parts k (inl y))

          part : (k : ℕ) → In k (r.after ++ s ∷ r.before) → In k (s ∷ ks)
          part k x = part' k (In_append k r.after (s ∷ r.before) x)

-- ---- the lowest priority of a walk

module _ (c : ℕ → ℕ) where
  pub seen_le : (i : ℕ) (ks : List ℕ) (k : ℕ) → In k (i ∷ ks) → seen min c i ks ≤ c k
  unfolding seen
  seen_le i [] k (inl e) = rw e (omega arith)
  seen_le i [] k (inr m) = absurd m
  seen_le i (l ∷ ls) k (inl e) = rw e (omega arith)
  seen_le i (l ∷ ls) k (inr m) = omega (arith, seen_le l ls k m)

  pub seen_ge : (q i : ℕ) (ks : List ℕ) → ((k : ℕ) → In k (i ∷ ks) → q ≤ c k) → q ≤ seen min c i ks
  unfolding seen
  seen_ge q i [] f = f i (inl refl)
  seen_ge q i (l ∷ ls) f = omega (arith, f i (inl refl), seen_ge q l ls (λ k m. f k (inr m)))

  -- some position of the walk has it
  pub seen_at : (i : ℕ) (ks : List ℕ) → (k : ℕ) × In k (i ∷ ks) × (c k ≡ seen min c i ks)
  unfolding seen
  seen_at i [] = (i, inl refl, refl)
  seen_at i (l ∷ ls) = go (seen_at l ls)
    where
      go : (k : ℕ) × In k (l ∷ ls) × (c k ≡ seen min c l ls) → (k : ℕ) × In k (i ∷ l ∷ ls) × (c k ≡ min (c i) (seen min c l ls))
      go (k, m, e) = elim (dec_lt (c i) (seen min c l ls)) [ yes h ↦ (i, inl refl, omega arith) | no h ↦ (k, inr m, omega arith) ]

-- ---- a walk over another one: each link stands over a link, and what the positions see is the same

module _ (link link' : ℕ → ℕ → Bool) (pos : ℕ → ℕ) (over : (k l : ℕ) → So (link' k l) → So (link (pos k) (pos l))) where
  pub walk_over : (k : ℕ) (ls : List ℕ) (m : ℕ) → Walk link' k ls m → Walk link (pos k) (map pos ls) (pos m)
  walk_over k [] m t = over k m t
  walk_over k (l ∷ ls) m t = (over k l t.0, walk_over l ls m t.1)

  pub seen_over : (op : ℕ → ℕ → ℕ) (c c' : ℕ → ℕ) → ((k l : ℕ) → So (link' k l) → c' k ≡ c (pos k))
      → (k : ℕ) (ls : List ℕ) (m : ℕ) → Walk link' k ls m → seen op c' k ls ≡ seen op c (pos k) (map pos ls)
  unfolding seen
  seen_over op c c' e k [] m t = e k m t
  seen_over op c c' e k (l ∷ ls) m t = ap₂ op (e k l t.0) (seen_over op c c' e l ls m t.1)
