-- The lowest member of the target is below n, so the place lies in the row of the source.
use mathlib.Core.Path.{◌≡◌, ap, ◌∙◌}
use Prim.Native.Nat.{ℕ, ◌+◌, ◌*◌, ◌<◌}
use native.Mathlib.Omega.{arith}
use mathlib.Core.List.{List}
use lib.ListN.{get_or}
use Rattle.table.specs.Table.{table_edges, source_at, target_at}
use Rattle.reduction_rows.specs.Reached.{Grouped, edge_place}
use Rattle.reduction_rows.specs.ReachedLaws.{class_inside, lowest_read, place_inside, place_few}
use Rattle.reduction_rows.proofs.Groups.reach_edge.Goals as goal

-- what is raised is the place of the edge
place : {game classes reps : List ℕ} {j d : ℕ} (width : ℕ)
    → Grouped game classes reps
    → j < table_edges game
    → d ≡ get_or reps (get_or classes (target_at game j) 0) 0
    → source_at game j * width * 64 + d ≡ edge_place game width j
unfolding edge_place
place {game = game} {j = j} width grouped h e =
    ap (λ (x : ℕ). source_at game j * width * 64 + x) (e ∙ lowest_read grouped (target_at game j) (grouped.well.targets j h))

pub lowest_of-d-requires : goal.lowest_of-d-requires
lowest_of-d-requires c = class_inside c.requires.grouped.0 (target_at c.args.self.game.now c.args.j) (c.requires.grouped.0.well.targets c.args.j c.requires.j_bound)

pub overflow_mul-s-2 : goal.overflow_mul-s-2
overflow_mul-s-2 c =
    let g = c.requires.grouped in
    let h = c.requires.j_bound in
    omega (arith, place c.args.self.width g.0 h c.lowest_of-d.ensures, place_few g.0 _ g.1.wide c.args.j h)

pub overflow_mul-s-3 : goal.overflow_mul-s-3
overflow_mul-s-3 c =
    let g = c.requires.grouped in
    let h = c.requires.j_bound in
    omega (arith, place c.args.self.width g.0 h c.lowest_of-d.ensures, place_few g.0 _ g.1.wide c.args.j h)

pub overflow_add-s-3 : goal.overflow_add-s-3
overflow_add-s-3 c =
    let g = c.requires.grouped in
    let h = c.requires.j_bound in
    omega (arith, place c.args.self.width g.0 h c.lowest_of-d.ensures, place_few g.0 _ g.1.wide c.args.j h)

pub raise-requires : goal.raise-requires
raise-requires c =
    let g = c.requires.grouped in
    let h = c.requires.j_bound in
    rw (place c.args.self.width g.0 h c.lowest_of-d.ensures) (place_inside g.0 _ g.1.wide c.args.words.now g.1.long c.args.j h)

pub returns : goal.returns
returns c = rw (place c.args.self.width c.requires.grouped.0 c.requires.j_bound c.lowest_of-d.ensures) at c.raise.ensures
