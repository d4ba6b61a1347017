-- The members of all classes are the game's vertices, and the edges of all vertices the game's edges.
use Rattle.std.specs.Prelude.{◌≡◌, ◌/◌, ◌%◌}
use Rattle.std.proofs.Common.{sym, ◌∙◌}
use Rattle.std.proofs.Math.Arith.{digits_div, digits_mod}
use Rattle.theory.specs.Logic.Range.{sum}
use Rattle.theory.proofs.Logic.CountLaws.{count_ext}
use Rattle.theory.proofs.Logic.SumLaws.{sum_ext, sum_counts_all, count_rows}
use Rattle.theory.specs.Games.Game.{Game, edge_count}
use Rattle.theory.specs.Order.Order.{order}
use Rattle.theory.specs.Classes.Reduction.{class_count, class_of}
use Rattle.theory.proofs.Classes.ClassLaws.{class_number_lt}
use Rattle.theory.proofs.Classes.QuotientLaws.{order_preorder}
use Rattle.theory.specs.Classes.Totals.{member_count, out_degree}

-- every vertex has one class
pub sum_member_count : (g : Game) → sum (class_count g.n (order g)) (member_count g) ≡ g.n
unfolding member_count class_of
sum_member_count g = sum_counts_all (class_of g) g.n (class_count g.n (order g)) (class_number_lt g.n (order g) (order_preorder g))

-- every edge leaves one vertex
pub sum_out_degree : (G : Game) → sum G.n (out_degree G) ≡ edge_count G
unfolding out_degree edge_count
sum_out_degree G =
    sym (count_rows G.n G.n (λ i. G.edge (i / G.n) (i % G.n))
    ∙ sum_ext G.n _ _ (λ v h. count_ext G.n _ _ (λ w l. rw (digits_div v l, digits_mod v l))))
