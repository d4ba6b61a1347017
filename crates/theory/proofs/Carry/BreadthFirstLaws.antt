-- Laws of the search: what holds of the start and along moves holds of every pair; with as many steps as there can be pairs, it ends with
-- the moves of every pair followed (`all_done`). Then its steps, one pair at a time.
use Rattle.std.specs.Prelude.{◌≡◌, ◌⊎◌, Bool, length, get_or}
use Rattle.std.proofs.Math.Path.{refl, ap}
use Rattle.std.proofs.Common.{sym, ◌∙◌, subst, inl, not-suc-le-zero, le_trans, arith, length-append}
use Rattle.std.proofs.Math.Logic.{inr}
use Rattle.std.proofs.Math.Bool.{true, false, cond, So}
use Rattle.std.proofs.lemmas.Bool.{false≢true}
use mathlib.Core.List.{List, [], ◌∷◌, ◌++◌}
use Prim.Native.Nat.{ℕ, zero, suc, ◌+◌, ◌≤◌, ◌<◌, zero-le}
use Rattle.std.proofs.Math.Nat.{le_refl}
use Rattle.std.proofs.Math.Decide.{dec_lt}
use Rattle.std.proofs.Math.Dec.{ltb}
use Rattle.std.proofs.Math.ListN.{get_or-append}
use Rattle.std.proofs.Math.Seq.{get_or-append_seam}
use borrow.Author.Tests.{eqb-true, eq-eqb, ltb-true, ltb-false, lt-ltb, le-ltb}
use Rattle.theory.proofs.Logic.BoolsLaws.{and_in, and_out}
use Rattle.theory.proofs.Logic.RangeLaws.{below_suc, first_le, first_passes, first_least}
use Rattle.theory.proofs.Logic.CountLaws.{count_inject, count_all}
use Rattle.theory.specs.Plans.Plan.{linked}
use Rattle.theory.proofs.Plans.LinkLaws.{linked_left, linked_right, linked_append, linked_one, linked_one_out, pair_is_lem, Single, pairs_snoc}
use Rattle.theory.specs.Carry.BreadthFirst.{Found, start_at, is_at, number_of, visit, visits, search}

abbrev pub size : Found → ℕ
size s = length s.pairs

abbrev pub pair_at : Found → ℕ → ℕ × ℕ
pair_at s k = get_or s.pairs k (0, 0)

-- x is in the list
abbrev pub Among : ℕ × ℕ → List (ℕ × ℕ) → Type 0
Among x xs = So (linked xs x.0 x.1)

among_here : (x y : ℕ × ℕ) (xs : List (ℕ × ℕ)) → y ≡ x → Among y (x ∷ xs)
among_here x y xs e = rw e (linked_left (x ∷ []) xs x.0 x.1 (linked_one x.0 x.1))

among_there : (x y : ℕ × ℕ) (xs : List (ℕ × ℕ)) → Among y xs → Among y (x ∷ xs)
among_there x y xs t = linked_right (x ∷ []) xs y.0 y.1 t

among_cons : (x y : ℕ × ℕ) (xs : List (ℕ × ℕ)) → Among y (x ∷ xs) → (y ≡ x) ⊎ Among y xs
among_cons x y xs t = elim (linked_append (x ∷ []) xs y.0 y.1 t) [
  | inl a ↦ (let q = linked_one_out x.0 x.1 y.0 y.1 a in inl (sym (pair_is_lem q.0 q.1)))
  | inr b ↦ inr b
]

-- ---- the number of a pair

module _ (xs : List (ℕ × ℕ)) (i u : ℕ) where
  pub is_at_in : (k : ℕ) → get_or xs k (0, 0) ≡ (i, u) → So (is_at xs i u k)
  unfolding is_at
  is_at_in k e = and_in (eq-eqb _ i (ap (λ (x : ℕ × ℕ). x.0) e)) (eq-eqb _ u (ap (λ (x : ℕ × ℕ). x.1) e))

  pub is_at_out : (k : ℕ) → So (is_at xs i u k) → get_or xs k (0, 0) ≡ (i, u)
  unfolding is_at
  is_at_out k t = let q = and_out t in pair_is_lem (eqb-true _ i q.0) (eqb-true _ u q.1)

  pub number_le : number_of xs i u ≤ length xs
  unfolding number_of
  number_le = first_le (is_at xs i u) 0 (length xs) zero-le

  number_at : number_of xs i u < length xs → get_or xs (number_of xs i u) (0, 0) ≡ (i, u)
  unfolding number_of
  number_at h = is_at_out (number_of xs i u) (first_passes (is_at xs i u) 0 (length xs) zero-le h)

  number_least : (k : ℕ) → get_or xs k (0, 0) ≡ (i, u) → number_of xs i u ≤ k
  unfolding number_of
  number_least k e = first_least (is_at xs i u) 0 (length xs) k zero-le (is_at_in k e)

-- ---- a move

-- the pairs xs' are xs, or xs with x at the end; x has the number there that it had, or got
pub record Grown (xs : List (ℕ × ℕ)) (x : ℕ × ℕ) (xs' : List (ℕ × ℕ)) : Type 0 where
  pub more : length xs ≤ length xs'
  pub keeps : (k : ℕ) → k < length xs → get_or xs' k (0, 0) ≡ get_or xs k (0, 0)
  pub inside : number_of xs x.0 x.1 < length xs'
  pub there : get_or xs' (number_of xs x.0 x.1) (0, 0) ≡ x
  pub new : (k : ℕ) → k < length xs' → (k < length xs) ⊎ (get_or xs' k (0, 0) ≡ x)
  pub single : Single xs → Single xs'

pub grown : (xs : List (ℕ × ℕ)) (x : ℕ × ℕ) → Grown xs x (cond (ltb (number_of xs x.0 x.1) (length xs)) xs (xs ++ (x ∷ [])))
grown xs x = go (ltb (number_of xs x.0 x.1) (length xs)) refl
  where
    go : (b : Bool) → ltb (number_of xs x.0 x.1) (length xs) ≡ b → Grown xs x (cond b xs (xs ++ (x ∷ [])))
    go true e =
        let h = ltb-true _ (length xs) e in
        let t = number_at xs x.0 x.1 h in
        record { more = le_refl (length xs); keeps = λ k h. refl; inside = h; there = t; new = λ k h. inl h; single = λ d. d }
    go false e =
        let h = ltb-false (number_of xs x.0 x.1) (length xs) e in
        let q : number_of xs x.0 x.1 ≡ length xs = omega (arith, number_le xs x.0 x.1, h) in
        let n : length (xs ++ (x ∷ [])) ≡ suc (length xs) = length-append xs (x ∷ []) ∙ omega arith in record {
          more = omega arith;
          keeps = λ k h. get_or-append xs (x ∷ []) (0, 0) k h;
          inside = omega arith;
          there = rw q (get_or-append_seam xs x [] (0, 0));
          new = λ k h.
              below_suc (λ (k : ℕ). (k < length xs) ⊎ (get_or (xs ++ (x ∷ [])) k (0, 0) ≡ x)) (λ i h. inl h)
              (inr (get_or-append_seam xs x [] (0, 0))) k (rw n at h);
          single = λ d. pairs_snoc (λ y z. y ≡ z → ⊥) xs x d (λ k h w. omega (arith, number_least xs x.0 x.1 k w));
        }

-- s' is s after the moves xs of pair k
pub record Visited (k : ℕ) (s : Found) (xs : List (ℕ × ℕ)) (s' : Found) : Type 0 where
  pub more : size s ≤ size s'
  pub keeps : (i : ℕ) → i < size s → pair_at s' i ≡ pair_at s i
  pub old : (i j : ℕ) → So (linked s.links i j) → So (linked s'.links i j)
  pub fresh : (i j : ℕ) → So (linked s'.links i j) → So (linked s.links i j) ⊎ ((i ≡ k) × (j < size s') × Among (pair_at s' j) xs)
  pub all : (x : ℕ × ℕ) → Among x xs → (j : ℕ) × (j < size s') × (pair_at s' j ≡ x) × So (linked s'.links k j)
  pub new : (i : ℕ) → i < size s' → (i < size s) ⊎ Among (pair_at s' i) xs
  pub single : Single s.pairs → Single s'.pairs

pub visited : (k : ℕ) (s : Found) (xs : List (ℕ × ℕ)) → Visited k s xs (visits k s xs)
unfolding visits visit linked
visited k s [] = record {
  more = le_refl (size s);
  keeps = λ i h. refl;
  old = λ i j t. t;
  fresh = λ i j t. inl t;
  all = λ x t. absurd (false≢true t);
  new = λ i h. inl h;
  single = λ d. d;
}
visited k s (x ∷ xs) = go (grown s.pairs x) (visited k (visit k s x) xs)
  where
    s' : Found
    s' = visits k (visit k s x) xs

    num : ℕ
    num = number_of s.pairs x.0 x.1

    go : Grown s.pairs x (visit k s x).pairs → Visited k (visit k s x) xs s' → Visited k s (x ∷ xs) s'
    go g v = record {
      more = le_trans g.more v.more;
      keeps = λ i h. v.keeps i (le_trans h g.more) ∙ g.keeps i h;
      old = λ i j t. v.old i j (linked_left s.links ((k, num) ∷ []) i j t);
      fresh = λ i j t. elim (v.fresh i j t) [
        | inl w ↦ elim (linked_append s.links ((k, num) ∷ []) i j w) [
          | inl y ↦ inl y
          | inr y ↦ (let q = linked_one_out k num i j y in inr (
            sym q.0,
            subst (λ (j : ℕ). j < size s') q.1 (le_trans g.inside v.more),
            among_here x (pair_at s' j) xs (subst (λ (j : ℕ). pair_at s' j ≡ x) q.1 at_x),
          ))
        ]
        | inr w ↦ inr (w.0, w.1, among_there x (pair_at s' j) xs w.2)
      ];
      all = λ y t. elim (among_cons x y xs t) [
        | inl e ↦ (
            let t = linked_right s.links ((k, num) ∷ []) k num (linked_one k num) in
            (num, le_trans g.inside v.more, at_x ∙ sym e, v.old k num t))
        | inr t' ↦ v.all y t'
      ];
      new = λ i h. elim (v.new i h) [
        | inl w ↦ elim (g.new i w) [ inl y ↦ inl y | inr y ↦ inr (among_here x (pair_at s' i) xs (v.keeps i w ∙ y)) ]
        | inr w ↦ inr (among_there x (pair_at s' i) xs w)
      ];
      single = λ d. v.single (g.single d);
    }
      where
        at_x : pair_at s' num ≡ x
        at_x = v.keeps num g.inside ∙ g.there

-- ---- the search: P holds of the start, and along moves

module _ (moves : ℕ × ℕ → List (ℕ × ℕ)) (P : ℕ × ℕ → Type 0) (closed : (x y : ℕ × ℕ) → P x → Among y (moves x) → P y) (start : ℕ × ℕ) where
  -- the moves of the pairs below k are followed, and no others
  pub record Done (k : ℕ) (s : Found) : Type 0 where
    pub some : 0 < size s
    pub first : pair_at s 0 ≡ start
    pub upto : k ≤ size s
    pub single : Single s.pairs
    pub holds : (i : ℕ) → i < size s → P (pair_at s i)
    pub sound : (i j : ℕ) → So (linked s.links i j) → (i < k) × (j < size s) × Among (pair_at s j) (moves (pair_at s i))
    pub whole : (i : ℕ) (x : ℕ × ℕ) → i < k → Among x (moves (pair_at s i))
        → (j : ℕ) × (j < size s) × (pair_at s j ≡ x) × So (linked s.links i j)

  pub done_start : P start → Done 0 (start_at start)
  unfolding linked
  done_start p = record {
    some = le_refl 1;
    first = refl;
    upto = zero-le;
    single = λ i j h l e. omega arith;
    holds = λ i h. below_suc (λ (i : ℕ). P (get_or (start ∷ []) i (0, 0))) (λ i l. absurd (not-suc-le-zero l)) p i h;
    sound = λ i j t. absurd (false≢true t);
    whole = λ i x h. absurd (not-suc-le-zero h);
  }

  pub done_step : (k : ℕ) (s : Found) → k < size s → Done k s → Done (suc k) (visits k s (moves (pair_at s k)))
  done_step k s l d = go (visits k s (moves (pair_at s k))) (visited k s (moves (pair_at s k)))
    where
      go : (s' : Found) → Visited k s (moves (pair_at s k)) s' → Done (suc k) s'
      go s' v = record {
        some = le_trans d.some v.more;
        first = v.keeps 0 d.some ∙ d.first;
        upto = le_trans l v.more;
        single = v.single d.single;
        holds = λ i h. elim (v.new i h) [
          | inl o ↦ subst P (sym (v.keeps i o)) (d.holds i o)
          | inr a ↦ closed (pair_at s k) (pair_at s' i) (d.holds k l) a
        ];
        sound = λ i j t. elim (v.fresh i j t) [
          | inl o ↦ (
              let q = d.sound i j o in (
                omega (arith, q.0),
                le_trans q.1 v.more,
                rw (v.keeps j q.1, v.keeps i (omega (arith, q.0))) q.2,
              ))
          | inr a ↦ (omega (arith, a.0), a.1, rw (a.0, v.keeps k l) a.2)
        ];
        whole = λ i x h a.
            below_suc (λ (i : ℕ). Among x (moves (pair_at s' i)) → (j : ℕ) × (j < size s') × (pair_at s' j ≡ x) × So (linked s'.links i j))
            (λ i o a.
            let q = d.whole i x o (rw (v.keeps i (omega arith)) at a) in
            (q.0, le_trans q.1 v.more, v.keeps q.0 q.1 ∙ q.2, v.old i q.0 q.3))
            (λ a. v.all x (rw (v.keeps k l) at a))
            i h a;
      }

  -- the search ends with all pairs done, or has done as many as it may
  record Ended (f : ℕ) (s : Found) : Type 0 where
    upto : ℕ
    done : Done upto s
    why : (upto ≡ size s) ⊎ (f ≤ upto)

  ended : (f k : ℕ) (s : Found) → Done k s → Ended (f + k) (search moves f k s)
  unfolding search
  ended zero k s d = record { upto = k; done = d; why = inr (omega arith) }
  ended (suc f) k s d = go (ltb k (size s)) refl (ended f (suc k) (visits k s (moves (pair_at s k))))
    where
      r : Found
      r = search moves f (suc k) (visits k s (moves (pair_at s k)))

      go : (b : Bool) → ltb k (size s) ≡ b → (Done (suc k) (visits k s (moves (pair_at s k))) → Ended (f + suc k) r) → Ended (suc f + k) (cond b r s)
      go true e ih = subst (λ (k : ℕ). Ended k r) (omega arith) (ih (done_step k s (ltb-true k (size s) e) d))
      go false e ih = record { upto = k; done = d; why = inl (omega (arith, d.upto, ltb-false k (size s) e)) }

  -- moves that are the same where P holds find the same pairs and links
  pub search_ext : (moves' : ℕ × ℕ → List (ℕ × ℕ)) → ((x : ℕ × ℕ) → P x → moves x ≡ moves' x) → (f k : ℕ) (s : Found) → Done k s
      → search moves f k s ≡ search moves' f k s
  unfolding search
  search_ext moves' same zero k s d = refl
  search_ext moves' same (suc f) k s d = go (ltb k (size s)) refl (search_ext moves' same f (suc k) (visits k s (moves (pair_at s k))))
    where
      go : (b : Bool) → ltb k (size s) ≡ b
          → (Done (suc k) (visits k s (moves (pair_at s k)))
          → search moves f (suc k) (visits k s (moves (pair_at s k))) ≡ search moves' f (suc k) (visits k s (moves (pair_at s k))))
          → cond b (search moves f (suc k) (visits k s (moves (pair_at s k)))) s ≡ cond b (search moves' f (suc k) (visits k s (moves' (pair_at s k)))) s
      go true e ih =
          let l = ltb-true k (size s) e in
          ih (done_step k s l d) ∙ ap (λ (xs : List (ℕ × ℕ)). search moves' f (suc k) (visits k s xs)) (same (pair_at s k) (d.holds k l))
      go false e ih = refl

  -- a number below `most` for each pair with P: so there are at most that many, and with that many steps all are done
  module _ (most : ℕ) (number : ℕ × ℕ → ℕ) (room : (x : ℕ × ℕ) → P x → number x < most)
      (one : (x y : ℕ × ℕ) → P x → P y → number x ≡ number y → x ≡ y) where
    pub few : (k : ℕ) (s : Found) → Done k s → size s ≤ most
    few k s d =
        let c =
        count_inject (size s) most (λ i. true) (λ i. true) (λ i x. number (pair_at s i) ≡ x)
        (λ i h t. (number (pair_at s i), room (pair_at s i) (d.holds i h), refl, refl))
        (λ i i' x h h' k q q'. same i i' h h' (one (pair_at s i) (pair_at s i') (d.holds i h) (d.holds i' h') (q ∙ sym q'))) in
        omega (arith, c, count_all (size s), count_all most)
      where
        same : (i j : ℕ) → i < size s → j < size s → pair_at s i ≡ pair_at s j → i ≡ j
        same i j h l e = elim (dec_lt i j) [
          | yes a ↦ absurd (d.single i j a l e)
          | no a ↦ elim (dec_lt j i) [ yes b ↦ absurd (d.single j i b h (sym e)) | no b ↦ omega arith ]
        ]

    pub all_done : P start → let s = search moves most 0 (start_at start) in Done (size s) s
    all_done p = go (search moves most 0 (start_at start)) (ended most 0 (start_at start) (done_start p))
      where
        go : (s : Found) → Ended (most + 0) s → Done (size s) s
        go s e = elim e.why [
          | inl q ↦ subst (λ (k : ℕ). Done k s) q e.done
          | inr q ↦ subst (λ (k : ℕ). Done k s) (omega (arith, q, e.done.upto, few e.upto s e.done)) e.done
        ]

-- ---- steps of the search

pub visits_append : (k : ℕ) (s : Found) (xs ys : List (ℕ × ℕ)) → visits k s (xs ++ ys) ≡ visits k (visits k s xs) ys
unfolding visits
visits_append k s [] ys = refl
visits_append k s (x ∷ xs) ys = visits_append k (visit k s x) xs ys

visits_links : (k : ℕ) (s : Found) (xs : List (ℕ × ℕ)) → length s.links ≤ length (visits k s xs).links
unfolding visits visit
visits_links k s [] = le_refl (length s.links)
visits_links k s (x ∷ xs) =
    omega (arith, length-append s.links ((k, number_of s.pairs x.0 x.1) ∷ []), visits_links k (visit k s x) xs)

-- s' has at least as many pairs and links as s: a limit that is passed on the way is passed at the end
pub record NoFewer (s s' : Found) : Type 0 where
  pub pairs : size s ≤ size s'
  pub links : length s.links ≤ length s'.links

pub visits_no_fewer : (k : ℕ) (s : Found) (xs : List (ℕ × ℕ)) → NoFewer s (visits k s xs)
visits_no_fewer k s xs = record { pairs = (visited k s xs).more; links = visits_links k s xs }

pub no_fewer_trans : {s s' s'' : Found} → NoFewer s s' → NoFewer s' s'' → NoFewer s s''
no_fewer_trans a b = record { pairs = le_trans a.pairs b.pairs; links = le_trans a.links b.links }

module _ (moves : ℕ × ℕ → List (ℕ × ℕ)) where
  pub search_step : (f k : ℕ) (s : Found) → k < size s → search moves (suc f) k s ≡ search moves f (suc k) (visits k s (moves (pair_at s k)))
  unfolding search
  search_step f k s l = rw (lt-ltb k (size s) l)

  pub search_end : (f k : ℕ) (s : Found) → size s ≤ k → search moves f k s ≡ s
  unfolding search
  search_end zero k s l = refl
  search_end (suc f) k s l = rw (le-ltb k (size s) l)

  pub search_no_fewer : (f k : ℕ) (s : Found) → NoFewer s (search moves f k s)
  unfolding search
  search_no_fewer zero k s = record { pairs = le_refl (size s); links = le_refl (length s.links) }
  search_no_fewer (suc f) k s =
      go (ltb k (size s)) (no_fewer_trans (visits_no_fewer k s (moves (pair_at s k))) (search_no_fewer f (suc k) (visits k s (moves (pair_at s k)))))
    where
      go : (b : Bool) {r : Found} → NoFewer s r → NoFewer s (cond b r s)
      go true l = l
      go false l = record { pairs = le_refl (size s); links = le_refl (length s.links) }
