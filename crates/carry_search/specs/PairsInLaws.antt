-- Laws of the entries of two parallel arrays.
use Rattle.std.specs.Prelude.{◌≡◌, false, List, [], ◌∷◌, ◌++◌, ℕ, ◌+◌, ◌<◌, length, set}
use Rattle.std.proofs.Common.{sym, ap, ◌∙◌, add-one, arith, get_or-set_same, get_or-set_other}
use Rattle.std.proofs.Math.Bool.{So}
use Rattle.std.proofs.Math.ListN.{get_or}
use Rattle.theory.proofs.Logic.BoolsLaws.{So_not}
use Rattle.theory.proofs.Logic.ListLaws.{length_tabulate, get_d_tabulate, tabulate_ext, tabulate_snoc}
use Rattle.theory.proofs.Plans.LinkLaws.{pair_is_lem}
use Rattle.theory.specs.Carry.BreadthFirst.{is_at}
use Rattle.theory.proofs.Carry.BreadthFirstLaws.{is_at_in, is_at_out}
use Rattle.carry_search.specs.Chains.{pairs_in}

module _ (xs ys : List ℕ) (c : ℕ) where
  pub length_pairs_in : length (pairs_in xs ys c) ≡ c
  unfolding pairs_in
  length_pairs_in = length_tabulate c (λ k. (get_or xs k 0, get_or ys k 0))

  pub get_d_pairs_in : (k : ℕ) → k < c → get_or (pairs_in xs ys c) k (0, 0) ≡ (get_or xs k 0, get_or ys k 0)
  unfolding pairs_in
  get_d_pairs_in k h = get_d_tabulate c (λ k. (get_or xs k 0, get_or ys k 0)) (0, 0) k h

  -- pair k is (i, u), by the arrays
  pub here : (i u k : ℕ) → k < c → get_or xs k 0 ≡ i → get_or ys k 0 ≡ u → So (is_at (pairs_in xs ys c) i u k)
  here i u k h e f = is_at_in (pairs_in xs ys c) i u k (get_d_pairs_in k h ∙ pair_is_lem e f)

  pub not_here : (i u k : ℕ) → k < c → (get_or xs k 0 ≡ i → get_or ys k 0 ≡ u → ⊥) → is_at (pairs_in xs ys c) i u k ≡ false
  not_here i u k h f = So_not (λ t.
      let e = sym (get_d_pairs_in k h) ∙ is_at_out (pairs_in xs ys c) i u k t in
      f (ap (λ (x : ℕ × ℕ). x.0) e) (ap (λ (x : ℕ × ℕ). x.1) e))

  -- one entry more
  pairs_in_more : pairs_in xs ys (c + 1) ≡ pairs_in xs ys c ++ ((get_or xs c 0, get_or ys c 0) ∷ [])
  unfolding pairs_in
  pairs_in_more = rw (add-one c) (tabulate_snoc c (λ k. (get_or xs k 0, get_or ys k 0)))

-- a store past the entries
pairs_in_set : (xs ys : List ℕ) (c x y : ℕ) → pairs_in (set xs c x) (set ys c y) c ≡ pairs_in xs ys c
unfolding pairs_in
pairs_in_set xs ys c x y =
    tabulate_ext c _ _ (λ i h. pair_is_lem (get_or-set_other xs c i x 0 (λ e. omega arith)) (get_or-set_other ys c i y 0 (λ e. omega arith)))

pub pairs_in_push : (xs ys : List ℕ) (c x y : ℕ) → c < length xs → c < length ys
    → pairs_in (set xs c x) (set ys c y) (c + 1) ≡ pairs_in xs ys c ++ ((x, y) ∷ [])
pairs_in_push xs ys c x y h l =
    pairs_in_more (set xs c x) (set ys c y) c ∙ rw (pairs_in_set xs ys c x y, get_or-set_same xs c x 0 h, get_or-set_same ys c y 0 l)
