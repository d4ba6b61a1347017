-- Sizes of the quotient and the reduced game: at most as many classes as vertices, and at most as many edges as the game has.
use Rattle.std.specs.Prelude.{◌≡◌, ℕ, ◌+◌, ◌*◌, ◌/◌, ◌%◌, ◌≤◌}
use Rattle.std.proofs.Common.{sym, ◌∙◌}
use Rattle.std.proofs.Math.Bool.{So}
use Rattle.std.proofs.Math.Nat.{le_trans}
use Rattle.std.proofs.Math.Arith.{digits_lt, digits_div, digits_mod}
use Rattle.theory.proofs.Logic.CountLaws.{count_mono, count_inject, row_lt, col_lt, pair_ext}
use Rattle.theory.specs.Games.Game.{Game, edge_count}
use Rattle.theory.specs.Order.Order.{order}
use Rattle.theory.specs.Classes.Reduction.{same_class, class_count, representative, class_game, quotient, reduced}
use Rattle.theory.proofs.Classes.ClassLaws.{same_class_sym, same_class_refl, same_class_trans, class_count_le, representative_one, representatives_apart}
use Rattle.theory.proofs.Classes.QuotientLaws.{order_preorder, rep_lt, quotient_edge_out, reduced_edge_quotient}

module _ (g : Game) where
  pub quotient_size : (quotient g).n ≤ g.n
  unfolding quotient class_game
  quotient_size = class_count_le g.n (order g) (order_preorder g)

  pub reduced_size : (reduced g).n ≤ g.n
  unfolding reduced class_game
  reduced_size = class_count_le g.n (order g) (order_preorder g)

  abbrev k : ℕ
  k = class_count g.n (order g)

  abbrev rep : ℕ → ℕ
  rep = representative g.n (order g)

  -- a quotient edge has an edge of the game's for a partner: from the representative to a successor in the other class
  pub quotient_edges : edge_count (quotient g) ≤ edge_count g
  unfolding edge_count quotient class_game
  quotient_edges =
      count_inject (k * k) (g.n * g.n) _ _
      (λ i j. (j / g.n ≡ rep (i / k)) × So (same_class (order g) (j % g.n) (rep (i % k))))
      (λ i h t.
      let x = rep (i / k) in
      let hx = rep_lt g (i / k) (row_lt k k i h) in
      let (y, s, q) = quotient_edge_out g x (rep (i % k)) t x hx (same_class_refl g.n (order g) (order_preorder g) x hx) in
      let row = digits_div x s.inside in
      let column = digits_mod x s.inside in
      (x * g.n + y, digits_lt hx s.inside, rw (row, column) s.along, (row, rw column q)))
      (λ i i' j h h' l p q.
      let hd = col_lt k k i h in
      let hd' = col_lt k k i' h' in
      pair_ext k i i'
      (representative_one g.n (order g) (order_preorder g) (i / k) (i' / k) (row_lt k k i h) (row_lt k k i' h') (sym p.0 ∙ q.0))
      (representatives_apart g.n (order g) (order_preorder g) (i % k) (i' % k) hd hd'
      (same_class_trans g.n (order g) (order_preorder g) (rep (i % k)) (j % g.n) (rep (i' % k))
      (rep_lt g (i % k) hd) (col_lt g.n g.n j l) (rep_lt g (i' % k) hd')
      (same_class_sym (order g) (j % g.n) (rep (i % k)) p.1) q.1)))

  pub reduced_edges : edge_count (reduced g) ≤ edge_count g
  unfolding edge_count reduced quotient class_game
  reduced_edges = le_trans (count_mono _ _ _ (λ i h t. reduced_edge_quotient g _ _ t)) quotient_edges
