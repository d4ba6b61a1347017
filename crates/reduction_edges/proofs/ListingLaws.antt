-- Laws of listed edges: class by class they become the ascending list, which has no more edges than the game.
use Rattle.std.specs.Prelude.{◌≡◌, Bool, not, ℕ, ◌+◌, ◌-◌, ◌*◌, ◌/◌, ◌%◌, ◌≤◌, ◌<◌, eqb, length, get_or, set, take, drop}
use Rattle.std.proofs.Math.Path.{refl, sym, ap}
use Rattle.std.proofs.Common.{◌∙◌, zero-mul, le_refl, length-append, length-drop, get_or-set_same, get_or-set_other, get_or-take, get_or-drop, length-take-le, eqb-true}
use Rattle.std.proofs.Math.Bool.{true, false, So, cond}
use mathlib.Core.List.{List, [], ◌∷◌, ◌++◌, map, map-append}
use Rattle.std.proofs.Math.Nat.{mul-le-mul_right}
use Rattle.std.proofs.Math.Decide.{ℕ_discrete}
use native.Mathlib.Omega.{arith}
use Rattle.std.proofs.lemmas.List.{length-map}
use Rattle.theory.specs.Logic.Bools.{◌&◌}
use Rattle.theory.proofs.Logic.BoolsLaws.{and_one, and_first}
use Rattle.theory.specs.Logic.Range.{tabulate, pairs_below, pairs_of, first, count}
use Rattle.theory.proofs.Logic.RangeLaws.{first_ge, first_before}
use Rattle.theory.proofs.Logic.CountLaws.{count_grows}
use Rattle.theory.proofs.Plans.LinkLaws.{length_pairs_below}
use Rattle.theory.specs.Games.Game.{Game, even, odd, edge_count}
use Rattle.theory.specs.Order.Order.{order}
use Rattle.theory.specs.Classes.Reduction.{is_lowest, class_count, class_number, representative, class_game, quotient, reduced}
use Rattle.theory.proofs.Classes.SizeLaws.{quotient_edges, reduced_edges}
use Rattle.words.specs.Words.{has}
use Rattle.table.specs.Table.{table_edges, owner_at, player_of, game_of}
use Rattle.table.specs.TableLaws.{edges_listed}
use Rattle.table.specs.TableWordsLaws.{length_edges_of}
use Rattle.table.specs.PlacingLaws.{placed_start, placed_one, placed_join}
use Rattle.classes.specs.Numbering.{classes_in}
use Rattle.reduction_rows.specs.Reached.{in_row, RowsFit, RowsReach}
use Rattle.reduction_rows.specs.MetLaws.{row_bit}
use Rattle.reduction_edges.specs.LittleBrothers.{dropped_by}
use Rattle.reduction_edges.proofs.LittleBrothersLaws.{kept_all, kept_best}
use Rattle.reduction_edges.specs.Rows.{keeps, picked, number_of, game_by, edge_by, Prepared, Put, Listed}
use Rattle.reduction_edges.proofs.PickedLaws.{picked_more, picked_skip, picked_ext, picked_numbers, targets_row, row_size}

-- ---- words behind words

pub put_none : (e : ℕ) (ends : List ℕ) → Put [] e ends ends e
unfolding tabulate
put_none e ends = record { count = omega arith; after = placed_start e (λ i. i) ends }

pub put_one : (d e : ℕ) (ends : List ℕ) → e < length ends → Put (d ∷ []) e ends (set ends e d) (e + 1)
put_one d e ends h = record { count = refl; after = placed_one e d ends h }

pub put_join : (xs ys : List ℕ) (a e r : ℕ) (t₀ t₁ t₂ : List ℕ) → a + length xs ≤ length t₀ → Put xs a t₀ t₁ e → Put ys e t₁ t₂ r → Put (xs ++ ys) a t₀ t₂ r
put_join xs ys a e r t₀ t₁ t₂ h p q = record {
  count = omega (arith, p.count, q.count, length-append xs ys);
  after = q.after ∙ rw (p.after, p.count) (placed_join a xs ys t₀ h);
}

-- ---- row after row

module _ (k : ℕ) (E : ℕ → ℕ → Bool) (at : ℕ) where
  pub rows_none : (ends stops : List ℕ) → Listed k E at 0 ends ends stops at
  unfolding pairs_below
  rows_none ends stops = record { targets = rw (zero-mul k) (put_none at ends); stop = λ j h. absurd (omega arith) }

  pub rows_more : (c e r : ℕ) (t₀ t₁ t₂ stops : List ℕ) → at + length (pairs_below k E (c * k)) ≤ length t₀ → c < length stops
      → Listed k E at c t₀ t₁ stops e → Put (picked k (E c)) e t₁ t₂ r → Listed k E at (c + 1) t₀ t₂ (set stops c r) r
  rows_more c e r t₀ t₁ t₂ stops h l p q =
      let n = length-map (pairs_below k E (c * k)) (λ (x : ℕ × ℕ). x.1) in
      let t = put_join _ _ _ _ _ _ _ _ (omega arith) p.targets q in
      record { targets = rw (targets_row k E c) t; stop = stop_at }
    where
      stop_at : (j : ℕ) → j < c + 1 → get_or (set stops c r) j 0 ≡ at + length (pairs_below k E ((j + 1) * k))
      stop_at j g = elim (ℕ_discrete j c) [
        | yes same ↦ rw same (get_or-set_same stops c r 0 l ∙ omega (arith, p.targets.count, q.count, length-map (pairs_below k E (c * k)) (λ (x : ℕ × ℕ). x.1), row_size k E c))
        | no other ↦ get_or-set_other stops c j r 0 other ∙ p.stop j (omega arith)
      ]

-- ---- the edges of a row, from one in it to the next

module _ (row dropped : List ℕ) (n : ℕ) (f : ℕ → ℕ) where
  kept_none : (a : ℕ) (i : ℕ) → a ≤ i → i < first (has row) a n → keeps row dropped i ≡ false
  unfolding keeps
  kept_none a i l h = and_first (not (has dropped i)) (first_before (has row) a n i l h)

  pub row_start_lem : [] ≡ map f (picked (first (has row) 0 n) (keeps row dropped))
  unfolding picked
  row_start_lem = ap (map f) (picked_skip (keeps row dropped) 0 (first (has row) 0 n) (omega arith) (kept_none 0))

  pub row_next : (d : ℕ) → So (has row d)
      → map f (picked d (keeps row dropped)) ++ cond (not (has dropped d)) (f d ∷ []) [] ≡ map f (picked (first (has row) (d + 1) n) (keeps row dropped))
  unfolding keeps
  row_next d t =
      ap (λ (l : List ℕ). map f (picked d (keeps row dropped)) ++ l) (one (not (has dropped d)))
      ∙ sym (map-append f (picked d (keeps row dropped)) _)
      ∙ ap (map f) (ap (λ b. picked d (keeps row dropped) ++ cond b (d ∷ []) []) (sym (and_one (not (has dropped d)) t)) ∙ sym (picked_more (keeps row dropped) d)
      ∙ picked_skip (keeps row dropped) (d + 1) (first (has row) (d + 1) n) (first_ge (has row) (d + 1) n) (kept_none (d + 1)))
    where
      one : (b : Bool) → cond b (f d ∷ []) [] ≡ map f (cond b (d ∷ []) [])
      one true = refl
      one false = refl

-- ---- they are those of the class

-- a row among the words
row_part : (width : ℕ) (words : List ℕ) (r x : ℕ) → x < width * 64
    → has (take (r * width + width - r * width) (drop (r * width) words)) x ≡ in_row width words r x
unfolding has
row_part width words r x h =
    let e : r * width + width - r * width ≡ width = omega arith in
    rw (e, get_or-take width (drop (r * width) words) (x / 64) 0 (omega arith), get_or-drop (r * width) words (x / 64) 0) (sym (row_bit width words r x))

pub row_length : (width : ℕ) (words : List ℕ) (r : ℕ) → r * width + width ≤ length words
    → length (take (r * width + width - r * width) (drop (r * width) words)) ≡ width
row_length width words r h =
    let e : r * width + width - r * width ≡ width = omega arith in
    rw e (length-take-le width (drop (r * width) words) (omega (arith, length-drop (r * width) words, h)))

game_by_edge : (drop : Bool) (G : Game) (c d : ℕ)
    → edge_by drop G (representative G.n (order G) c) (representative G.n (order G) d) ≡ (game_by drop G).edge c d
unfolding game_by edge_by quotient reduced class_game
game_by_edge true G c d = refl
game_by_edge false G c d = refl

module _ {game marks classes reps : List ℕ} (prepared : Prepared game marks classes reps) (c : ℕ) (hc : c < classes_in (game_of game))
    (r : ℕ) (low : r ≡ representative (game_of game).n (order (game_of game)) c)
    (width : ℕ) (words : List ℕ) (fit : RowsFit game width words) (reach : RowsReach (game_of game) width words) (drops : Bool) (dropped : List ℕ) where
  abbrev row : List ℕ
  row = take (r * width + width - r * width) (drop (r * width) words)

  row_targets : (x : ℕ) → x < (game_of game).n → has row x ≡ is_lowest (game_of game).n (order (game_of game)) x & edge_by false (game_of game) r x
  unfolding game_of edge_by
  row_targets x h = row_part width words r x (omega (arith, fit.wide)) ∙ rw low (reach.at c x hc h)

  owner_is : (game_of game).owner r ≡ cond (eqb (owner_at game r) 0) even odd
  unfolding game_of player_of
  owner_is = refl

  number_is : (x : ℕ) → x < (game_of game).n → So (is_lowest (game_of game).n (order (game_of game)) x)
      → number_of classes x ≡ count x (is_lowest (game_of game).n (order (game_of game)))
  unfolding class_number is_lowest
  number_is x h t = prepared.grouped.classed.numbers x h ∙ ap (λ (y : ℕ). count y (is_lowest (game_of game).n (order (game_of game)))) (eqb-true _ x t)

  module _ (is : (x : ℕ) → x < (game_of game).n → has dropped x ≡ drops & dropped_by (eqb (owner_at game r) 0) (game_of game).n marks row x) where
    row_kept : (x : ℕ) → x < (game_of game).n → keeps row dropped x ≡ is_lowest (game_of game).n (order (game_of game)) x & edge_by drops (game_of game) r x
    unfolding edge_by
    row_kept x h = go drops is
      where
        go : (b : Bool) → ((x : ℕ) → x < (game_of game).n → has dropped x ≡ b & dropped_by (eqb (owner_at game r) 0) (game_of game).n marks row x)
            → keeps row dropped x ≡ is_lowest (game_of game).n (order (game_of game)) x & edge_by b (game_of game) r x
        go true e = kept_best (game_of game) marks row r prepared.ordered.marked row_targets (eqb (owner_at game r) 0) owner_is dropped e x h
        go false e = kept_all (game_of game) marks row r prepared.ordered.marked row_targets (eqb (owner_at game r) 0) owner_is dropped e x h

    pub class_row : map (number_of classes) (picked (game_of game).n (keeps row dropped)) ≡ picked (classes_in (game_of game)) ((game_by drops (game_of game)).edge c)
    unfolding class_count representative
    class_row =
        ap (map (number_of classes)) (picked_ext (game_of game).n _ _ row_kept)
        ∙ picked_numbers (game_of game).n (is_lowest (game_of game).n (order (game_of game))) (edge_by drops (game_of game) r) (number_of classes)
        number_is (game_of game).n (le_refl (game_of game).n)
        ∙ picked_ext (classes_in (game_of game)) _ _ (λ d h. rw low (game_by_edge drops (game_of game) c d))

    -- and as many
    pub class_size : length (picked (game_of game).n (keeps row dropped)) ≡ length (picked (classes_in (game_of game)) ((game_by drops (game_of game)).edge c))
    class_size = sym (length-map (picked (game_of game).n (keeps row dropped)) (number_of classes)) ∙ ap length class_row

-- ---- as many as the game of classes has, and so no more than the table

pub game_by_n : (drop : Bool) (G : Game) → (game_by drop G).n ≡ classes_in G
unfolding game_by quotient reduced class_game
game_by_n true G = refl
game_by_n false G = refl

game_by_edges : (drop : Bool) (G : Game) → edge_count (game_by drop G) ≤ edge_count G
unfolding game_by
game_by_edges true G = reduced_edges G
game_by_edges false G = quotient_edges G

module _ (game : List ℕ) (drop : Bool) (k : ℕ) (e : k ≡ classes_in (game_of game)) where
  abbrev E : ℕ → ℕ → Bool
  E = (game_by drop (game_of game)).edge

  pub edges_few : length (pairs_of k E) ≤ table_edges game
  edges_few =
      let n = ap (λ (n : ℕ). length (pairs_of n E)) (e ∙ sym (game_by_n drop (game_of game))) in
      omega (arith, n, length_edges_of (game_by drop (game_of game)), game_by_edges drop (game_of game), edges_listed game)

  -- the rows up to c
  pub rows_few : (c : ℕ) → c < k → length (pairs_below k E (c * k)) + length (picked k (E c)) ≤ table_edges game
  unfolding pairs_of
  rows_few c h =
      let up : (c + 1) * k ≤ k * k = mul-le-mul_right k (omega arith) in
      omega (
        arith,
        row_size k E c,
        length_pairs_below k E ((c + 1) * k),
        length_pairs_below k E (k * k),
        count_grows ((c + 1) * k) (k * k) (λ i. E (i / k) (i % k)) up,
        edges_few,
      )
