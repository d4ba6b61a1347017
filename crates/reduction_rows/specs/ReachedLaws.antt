-- Laws of what is reached: the places of the edges are the rows' bits, and met rows hold the quotient edges.
use Rattle.std.specs.Prelude.{◌≡◌, Bool, List, ℕ, ◌+◌, ◌*◌, ◌/◌, ◌%◌, ◌≤◌, ◌<◌, eqb, length, get_or}
use Rattle.std.proofs.Math.Path.{refl, ap, ap₂}
use Rattle.std.proofs.Common.{sym, ◌∙◌, mul_assoc, arith}
use Rattle.std.proofs.Math.Bool.{So}
use Rattle.std.proofs.Math.Nat.{mul-le-mul, mul-le-mul_right, suc-mul}
use borrow.Author.Tests.{eqb-true, eq-eqb}
use Rattle.theory.specs.Logic.Bools.{◌&◌, ◌or◌, imp}
use Rattle.theory.proofs.Logic.BoolsLaws.{So_ext, and_in, and_out, imp_out}
use Rattle.theory.specs.Logic.Range.{all_below, any_below}
use Rattle.theory.proofs.Logic.RangeLaws.{all_out, all_ext, any_in, any_out, any_ext, any_more}
use Rattle.theory.proofs.Logic.CountLaws.{digits_one}
use Rattle.theory.specs.Games.Game.{Game}
use Rattle.theory.specs.Order.Order.{any_next, order}
use Rattle.theory.proofs.Order.OrderLaws.{any_next_in, any_next_out}
use Rattle.theory.specs.Classes.Reduction.{same_class, lowest, is_lowest, class_number, representative, quotient_edge}
use Rattle.theory.proofs.Classes.ClassLaws.{same_class_sym, lowest_lt, lowest_same, lowest_one, is_lowest_lowest, class_number_lt, representative_at, representative_class}
use Rattle.theory.proofs.Classes.QuotientLaws.{order_preorder}
use Rattle.words.specs.WordLaws.{digit_zero}
use Rattle.words.specs.Words.{has}
use Rattle.table.specs.Limits.{pair_limit}
use Rattle.table.specs.Table.{vertex_count, table_edges, source_at, target_at, game_of}
use Rattle.table.specs.TableLaws.{game_n, edge_in, edge_out, edge_succ}
use Rattle.table.specs.Flags.{Raised}
use Rattle.classes.specs.Numbering.{classes_in}
use Rattle.reduction_rows.specs.Reached.{words_for, in_row, RowsFit, lowest_of, Grouped, reaches, edge_place, Reaching, MembersMet, RowsReach}

-- ---- the lowest member of a vertex's class, by class numbers and representatives

module _ {game classes reps : List ℕ} (grouped : Grouped game classes reps) (v : ℕ) (h : v < vertex_count game) where
  abbrev G : Game
  G = game_of game

  inside : v < G.n
  inside = rw (game_n game) h

  number : get_or classes v 0 ≡ class_number G.n (order G) v
  number = grouped.classed.numbers v inside

  few : get_or classes v 0 < classes_in G
  few = omega (arith, number, class_number_lt G.n (order G) (order_preorder G) v inside)

  pub class_inside : (v < length classes) × (get_or classes v 0 < length reps)
  class_inside = (omega (arith, inside, grouped.classed.long), omega (arith, few, grouped.represented.long))

  pub lowest_read : get_or reps (get_or classes v 0) 0 ≡ lowest_of G v
  unfolding lowest_of
  lowest_read =
      grouped.represented.lowest _ few ∙ ap (representative G.n (order G)) number
      ∙ representative_class G.n (order G) (order_preorder G) v inside

  pub lowest_inside : lowest_of G v < vertex_count game
  unfolding lowest_of
  lowest_inside = rw (← game_n game) (lowest_lt G.n (order G) (order_preorder G) v inside)

-- a row is within the words
pub row_inside : {game words : List ℕ} {width : ℕ} → RowsFit game width words → (v : ℕ) → v < vertex_count game → v * width + width ≤ length words
row_inside {game = game} {width = width} fit v h = omega (arith, suc-mul v width, mul-le-mul_right width h, fit.long)

-- ---- edge by edge

-- the words hold the places of the edges below j
pub record Placed (game : List ℕ) (width j : ℕ) (words : List ℕ) : Type 0 where
  pub at : (y : ℕ) → has words y ≡ any_below j (λ i. eqb (edge_place game width i) y)

pub placed_none : (game : List ℕ) (width : ℕ) (words : List ℕ) → ((i : ℕ) → get_or words i 0 ≡ 0) → Placed game width 0 words
unfolding has any_below
placed_none game width words z = record { at = λ y. rw (z (y / 64)) (digit_zero (y % 64)) }

pub placed_more : (game : List ℕ) (width j : ℕ) (words words' : List ℕ) → Placed game width j words → Raised words words' (edge_place game width j) → Placed game width (j + 1) words'
placed_more game width j words words' p r = record {
  at = λ y. r y ∙ ap (λ b. b or eqb (edge_place game width j) y) (p.at y) ∙ sym (any_more j (λ i. eqb (edge_place game width i) y));
}

module _ {game classes reps : List ℕ} (grouped : Grouped game classes reps) (width : ℕ) (wide : width ≡ words_for (vertex_count game)) where
  -- a place tells its row and its bit
  place_one : (s t v x : ℕ) → t < width * 64 → x < width * 64 → s * width * 64 + t ≡ v * width * 64 + x → (s ≡ v) × (t ≡ x)
  place_one s t v x ht hx e = digits_one {n = width * 64} ht hx (rw (mul_assoc s width 64, mul_assoc v width 64) at e)

  pub place_inside : (words : List ℕ) → vertex_count game * width ≤ length words → (j : ℕ) → j < table_edges game
      → edge_place game width j / 64 < length words
  unfolding edge_place
  place_inside words l j h =
      let s = grouped.well.sources j h in
      let t = lowest_inside grouped (target_at game j) (grouped.well.targets j h) in
      omega (arith, t, suc-mul (source_at game j) width, mul-le-mul_right width s, wide)

  pub place_few : (j : ℕ) → j < table_edges game → edge_place game width j < pair_limit
  unfolding edge_place
  place_few j h =
      let s = grouped.well.sources j h in
      let t = lowest_inside grouped (target_at game j) (grouped.well.targets j h) in
      let n = grouped.well.vertices in
      let a : source_at game j ≤ 511 = omega (arith, s, n) in
      let b : width ≤ 8 = omega (arith, wide, n) in
      let m = mul-le-mul a b in
      omega (arith, m, t, n)

  places_are : (v x : ℕ) → v < vertex_count game → x < width * 64
      → any_below (table_edges game) (λ j. eqb (edge_place game width j) (v * width * 64 + x)) ≡ reaches (game_of game) v x
  unfolding edge_place reaches
  places_are v x hv hx =
      So_ext
      (λ t.
      let r = any_out t in
      let l = lowest_inside grouped (target_at game r.0) (grouped.well.targets r.0 r.1) in
      let q = place_one (source_at game r.0) _ v x (omega (arith, l, wide)) hx (eqb-true _ _ r.2) in
      any_next_in (game_of game) v _ (target_at game r.0)
      (edge_succ game grouped.well v (target_at game r.0) (edge_in game v (target_at game r.0) r.0 (record { inside = r.1; source = q.0; target = refl })))
      (eq-eqb _ x q.1))
      (λ t.
      let r = any_next_out (game_of game) v _ t in
      let e = edge_out game v r.0 r.1.along in
      let q : edge_place game width e.0 ≡ v * width * 64 + x =
      ap₂ (λ (s d : ℕ). s * width * 64 + d) e.1.source (ap (lowest_of (game_of game)) e.1.target ∙ eqb-true (lowest_of (game_of game) r.0) x r.2) in
      any_in (table_edges game) _ e.0 e.1.inside (eq-eqb (edge_place game width e.0) (v * width * 64 + x) q))

  pub placed_reach : (words : List ℕ) → Placed game width (table_edges game) words → Reaching (game_of game) width words
  unfolding in_row
  placed_reach words p = record { at = λ v x hv hx. p.at (v * width * 64 + x) ∙ places_are v x (rw (← game_n game) hv) hx }

-- ---- met rows hold the quotient edges

module _ (G : Game) where
  -- u is the lowest member of w's class exactly if it shares it
  low_same : (u w : ℕ) → u < G.n → w < G.n → So (is_lowest G.n (order G) u) → eqb (lowest_of G w) u ≡ same_class (order G) w u
  unfolding lowest_of is_lowest
  low_same u w hu hw t =
      So_ext
      (λ s. same_class_sym (order G) u w (rw (← eqb-true (lowest G.n (order G) w) u s) (lowest_same G.n (order G) (order_preorder G) w hw)))
      (λ s. eq-eqb _ u (lowest_one G.n (order G) (order_preorder G) w u hw hu s ∙ eqb-true _ u t))

  -- a test of successors goes by what it says of the vertices
  next_ext : (v : ℕ) (p q : ℕ → Bool) → ((w : ℕ) → w < G.n → p w ≡ q w) → any_next G v p ≡ any_next G v q
  unfolding any_next
  next_ext v p q f = any_ext G.n _ _ (λ w h. ap (λ (b : Bool). G.edge v w & b) (f w h))

  quotient_low : (u x : ℕ) → u < G.n → x < G.n → So (is_lowest G.n (order G) u) → So (is_lowest G.n (order G) x)
      → all_below G.n (λ w. imp (eqb (lowest_of G w) u) (reaches G w x)) ≡ quotient_edge G (order G) u x
  unfolding quotient_edge reaches
  quotient_low u x hu hx lu lx =
      all_ext G.n _ _ (λ w h. rw (low_same u w hu h lu, next_ext w _ _ (λ y l. low_same x y hx l lx)))

  -- what is reached is the lowest member of a class
  reached_low : (v x : ℕ) → So (reaches G v x) → So (is_lowest G.n (order G) x)
  unfolding reaches lowest_of
  reached_low v x t =
      let r = any_next_out G v _ t in
      rw (← eqb-true (lowest G.n (order G) r.0) x r.2) (is_lowest_lowest G.n (order G) (order_preorder G) r.0 r.1.inside)

  module _ (width : ℕ) (mid new : List ℕ) (wide : width ≡ words_for G.n) (reach : Reaching G width mid) (met : MembersMet G width G.n mid new) where
    met_reach : (u x : ℕ) → u < G.n → x < G.n
        → in_row width new u x ≡ reaches G u x & all_below G.n (λ w. imp (eqb (lowest_of G w) u) (reaches G w x))
    met_reach u x hu hx =
        let l : x < width * 64 = omega arith in
        met.at u x l ∙ rw (reach.at u x hu l, all_ext G.n _ _ (λ w h. ap (imp (eqb (lowest_of G w) u)) (reach.at w x h l)))

    pub rows_reach : RowsReach G width new
    unfolding is_lowest lowest_of
    rows_reach = record {
      at = λ c x hc hx.
          let r = representative_at G.n (order G) (order_preorder G) c hc in
          let u = representative G.n (order G) c in
          met_reach u x r.inside hx
          ∙ So_ext
          (λ t. let p = and_out t in
          let low = reached_low u x p.0 in
          and_in low (rw (← quotient_low u x r.inside hx r.passes low) p.1))
          (λ t. let p = and_out t in
          let all = rw (← quotient_low u x r.inside hx r.passes p.0) at p.1 in
          and_in (imp_out ((all_out all).at u r.inside) r.passes) all);
    }
