-- Laws of the sources and of the targets that were listed in their place: by the places where the edges of each class stop, each class stands as
-- often as it has edges; and targets that are put again behind that leave no other word changed, once the sources are written over the first.
use Rattle.std.specs.Prelude.{◌≡◌, refl, Bool, set, take, drop}
use Rattle.std.proofs.Math.Path.{sym, ap₂}
use Rattle.std.proofs.Common.{ap, ◌∙◌, zero-mul, add-one, arith, length-append, length-drop, length-take-le, get_or-drop, get_or-take, drop_at, drop-drop}
use mathlib.Core.List.{List, ◌++◌, append_assoc}
use Prim.Native.Nat.{ℕ, zero, suc, ◌+◌, ◌-◌, ◌*◌, ◌≤◌, ◌<◌}
use Rattle.std.proofs.Math.ListN.{length, get_or, length-map, get_or-append}
use Rattle.theory.specs.Logic.Range.{tabulate, pairs_below, pairs_of}
use Rattle.theory.proofs.Logic.ListLaws.{tabulate_by, length_tabulate}
use Rattle.table.specs.Table.{table_edges, game_of}
use Rattle.table.specs.Answers.{written}
use Rattle.table.specs.Placing.{placed}
use Rattle.table.specs.PlacingLaws.{placed_start, placed_more, placed_join}
use Rattle.table.specs.Listing.{sources_of}
use Rattle.classes.specs.Numbering.{classes_in}
use Rattle.reduction_edges.specs.Rows.{game_by, picked, Listed}
use Rattle.reduction_edges.proofs.PickedLaws.{sources_row, row_size}
use Rattle.reduction_edges.proofs.ListingLaws.{rows_few}
use Rattle.reduction.specs.Tables.{start_of, spread, Ascending}

-- ---- class after class

pub spread_none : (at : ℕ) (stops old : List ℕ) → old ≡ placed at (spread at stops 0) old
unfolding spread tabulate
spread_none at stops old = placed_start at (λ i. i) old

pub start_more : (at : ℕ) (stops : List ℕ) (c : ℕ) → start_of at stops (c + 1) ≡ get_or stops c 0
unfolding start_of
start_more at stops c = rw (add-one c)

pub spread_more : (at : ℕ) (stops : List ℕ) (c : ℕ) → spread at stops (c + 1) ≡ spread at stops c ++ tabulate (get_or stops c 0 - start_of at stops c) (λ i. c)
unfolding spread
spread_more at stops c = rw (add-one c)

-- the sources of class c are put behind those of the classes before it
module _ (at : ℕ) (stops : List ℕ) (c start : ℕ) (old o₁ o₂ : List ℕ) (here : start ≡ start_of at stops c) (count : start ≡ at + length (spread at stops c))
    (up : start_of at stops c ≤ get_or stops c 0) where
  abbrev next : List ℕ
  next = tabulate (get_or stops c 0 - start_of at stops c) (λ (i : ℕ). c)

  pub count_more : get_or stops c 0 ≡ at + length (spread at stops (c + 1))
  count_more = rw (spread_more at stops c) (omega (arith, length-append (spread at stops c) next, length_tabulate (get_or stops c 0 - start_of at stops c) (λ (i : ℕ). c)))

  pub spread_put : start ≤ length old → o₁ ≡ placed at (spread at stops c) old → o₂ ≡ placed start (tabulate (get_or stops c 0 - start) (λ (i : ℕ). c)) o₁
      → o₂ ≡ placed at (spread at stops (c + 1)) old
  spread_put l q₁ q₂ =
      q₂ ∙ ap₂ (λ (s m : ℕ). placed s (tabulate m (λ (i : ℕ). c)) o₁) count (ap (λ (s : ℕ). get_or stops c 0 - s) here)
      ∙ ap (placed (at + length (spread at stops c)) next) q₁ ∙ placed_join at (spread at stops c) next old (omega arith)
      ∙ ap (λ (l : List ℕ). placed at l old) (sym (spread_more at stops c))

-- ---- by the places that were listed

module _ {k : ℕ} {E : ℕ → ℕ → Bool} {at : ℕ} {ends ends' stops : List ℕ} {r : ℕ} (listed : Listed k E at k ends ends' stops r) where
  start_at_lem : (c : ℕ) → c ≤ k → start_of at stops c ≡ at + length (pairs_below k E (c * k))
  unfolding start_of pairs_below
  start_at_lem zero h = rw (zero-mul k) (omega arith)
  start_at_lem (suc c) h = rw (add-one c) at (listed.stop c (omega arith))

  sources_below : (c : ℕ) → c ≤ k → spread at stops c ≡ sources_of (pairs_below k E (c * k))
  unfolding spread pairs_below
  sources_below zero h = rw (zero-mul k)
  sources_below (suc c) h =
      let n : get_or stops c 0 - start_of at stops c ≡ length (picked k (E c)) = omega (arith, start_at_lem c (omega arith), listed.stop c (omega arith), row_size k E c) in
      let s = rw (add-one c) at (sources_row k E c) in
      ap₂ ◌++◌ (sources_below c (omega arith)) (ap (λ (m : ℕ). tabulate m (λ i. c)) n) ∙ sym s

  pub sources_spread : spread at stops k ≡ sources_of (pairs_of k E)
  unfolding pairs_of
  sources_spread = sources_below k (omega arith)

  -- as many as there are
  pub listed_count : r ≡ at + length (pairs_of k E)
  unfolding pairs_of
  listed_count = omega (arith, listed.targets.count, length-map (pairs_below k E (k * k)) (λ (x : ℕ × ℕ). x.1))

  pub stops_up : (c : ℕ) → c < k → start_of at stops c ≤ get_or stops c 0
  stops_up c h = omega (arith, start_at_lem c (omega arith), listed.stop c h, row_size k E c)

pub stops_ascend : (game : List ℕ) (b : Bool) {k at : ℕ} {ends ends' stops : List ℕ} {r limit : ℕ} → k ≡ classes_in (game_of game)
    → Listed k (game_by b (game_of game)).edge at k ends ends' stops r → at + table_edges game ≤ limit → Ascending at stops k limit
stops_ascend game b {k} t l h = record {
  start = omega arith;
  up = stops_up l;
  end = λ c g. omega (arith, l.stop c g, row_size k (game_by b (game_of game)).edge c, rows_few game b k t c g);
}

-- ---- words that are put again behind themselves

-- before the place all is old
placed_before : (at : ℕ) (new old : List ℕ) (i : ℕ) → i < at → at ≤ length old → get_or (placed at new old) i 0 ≡ get_or old i 0
unfolding placed
placed_before at new old i h l = get_or-append (take at old) _ 0 i (omega (arith, length-take-le at old l)) ∙ get_or-take at old i 0 h

-- one word more
pub again_more : (at count i : ℕ) (old words : List ℕ) → i < count → at + count + count ≤ length old
    → words ≡ placed (at + count) (tabulate i (λ j. get_or old (at + j) 0)) old
    → set words (at + count + i) (get_or words (at + i) 0) ≡ placed (at + count) (tabulate (i + 1) (λ j. get_or old (at + j) 0)) old
again_more at count i old words h l q =
    rw (q, placed_before (at + count) (tabulate i (λ j. get_or old (at + j) 0)) old (at + i) (omega arith) (omega arith))
    (placed_more (at + count) (λ j. get_or old (at + j) 0) i old (omega arith))

drop_placed : (at : ℕ) (new old : List ℕ) → at ≤ length old → drop at (placed at new old) ≡ new ++ drop (at + length new) old
unfolding placed
drop_placed at new old h = drop_at (take at old) _ at (length-take-le at old h)

drop_beyond : (at : ℕ) (new old : List ℕ) (n : ℕ) → at ≤ length old → drop (at + length new + n) (placed at new old) ≡ drop (at + length new + n) old
drop_beyond at new old n h =
    sym (drop-drop n (at + length new) (placed at new old))
    ∙ ap (drop n) (sym (drop-drop (length new) at (placed at new old)) ∙ ap (drop (length new)) (drop_placed at new old h) ∙ drop_at new _ (length new) refl)
    ∙ drop-drop n (at + length new) old

length_placed : (at : ℕ) (new old : List ℕ) → at + length new ≤ length old → length (placed at new old) ≡ length old
unfolding placed
length_placed at new old h = simp (length-append, length-drop) (omega (arith, length-take-le at old (omega arith)))

-- what was put reads back
again : (at : ℕ) (new old : List ℕ) → at ≤ length old → tabulate (length new) (λ i. get_or (placed at new old) (at + i) 0) ≡ new
again at new old h =
    sym (tabulate_by (length new) _ 0 new refl (λ i g.
    sym (sym (get_or-drop at (placed at new old) i 0) ∙ ap (λ (l : List ℕ). get_or l i 0) (drop_placed at new old h) ∙ get_or-append new _ 0 i g)))

-- written over by as many words as stand before the second
pub written_over : (at e : ℕ) (new old head o₁ o₂ o₃ : List ℕ) → e ≡ length new → length head ≡ at + e → at + e + e ≤ length old → o₁ ≡ placed at new old
    → o₂ ≡ placed (at + e) (tabulate e (λ i. get_or o₁ (at + i) 0)) o₁ → o₃ ≡ written head o₂ → o₃ ≡ written (head ++ new) old
unfolding written
written_over at e new old head o₁ o₂ o₃ n l room q₁ q₂ q₃ =
    let a : o₂ ≡ placed (at + length new) new (placed at new old) =
    q₂ ∙ rw (q₁, n, again at new old (omega arith)) in
    let d : drop (length head) o₂ ≡ new ++ drop (at + length new + length new) old =
    rw (a, l, n) (drop_placed (at + length new) new (placed at new old) (omega (arith, length_placed at new old (omega arith)))
    ∙ ap (λ (t : List ℕ). new ++ t) (drop_beyond at new old (length new) (omega arith))) in
    let m : length (head ++ new) ≡ at + length new + length new = omega (arith, length-append head new) in
    q₃ ∙ ap (λ (t : List ℕ). head ++ t) d ∙ rw m (sym (append_assoc head new _))
