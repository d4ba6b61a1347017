-- The ends of the link stand at vertices of the game, and the flag of their pair says whether it is an edge.
use mathlib.Core.Path.{◌≡◌, ap, ap₂, ◌∙◌}
use mathlib.Core.Bool.{not}
use mathlib.Core.List.{List}
use Prim.Native.Nat.{ℕ, ◌<◌}
use Rattle.table.specs.Table.{game_of}
use Rattle.plan_links.specs.PlanTable.{link_count, vertex_at, link_source, link_target}
use Rattle.plan_links.specs.PlanFormed.{PlanFormed}
use Rattle.plan_links.specs.Refusals.{strays}
use Rattle.plan_links.proofs.strays.Goals as goal

-- the ends of link k stand at vertices of the game
source_lt : {n : ℕ} {plan : List ℕ} {k : ℕ} → PlanFormed n plan → k < link_count plan → vertex_at plan (link_source plan k) < n
source_lt {k = k} f h = f.vertices _ (f.sources k h)

target_lt : {n : ℕ} {plan : List ℕ} {k : ℕ} → PlanFormed n plan → k < link_count plan → vertex_at plan (link_target plan k) < n
target_lt {k = k} f h = f.vertices _ (f.targets k h)

pub vertex_of-v-requires : goal.vertex_of-v-requires
vertex_of-v-requires c = let f = c.requires.0.formed in
    (f.sized, rw c.source_of.ensures (f.sources c.args.k c.requires.1))

pub vertex_of-x-requires : goal.vertex_of-x-requires
vertex_of-x-requires c = let f = c.requires.0.formed in
    (f.sized, rw c.target_of.ensures (f.targets c.args.k c.requires.1))

pub is_edge-requires : goal.is_edge-requires
is_edge-requires c =
    let p = c.requires.0 in
    let h = c.requires.1 in (
      rw (c.vertex_of-v.ensures, c.source_of.ensures) (source_lt p.formed h),
      rw (c.vertex_of-x.ensures, c.target_of.ensures) (target_lt p.formed h),
      p.game.vertices,
      p.flags.long,
    )

pub returns : goal.returns
unfolding strays
returns c =
    let a = c.args in
    let p = c.requires.0 in
    let h = c.requires.1 in
    let v : c.vertex_of-v.result ≡ vertex_at a.plan.now (link_source a.plan.now a.k) = c.vertex_of-v.ensures ∙ ap (vertex_at a.plan.now) c.source_of.ensures in
    let x : c.vertex_of-x.result ≡ vertex_at a.plan.now (link_target a.plan.now a.k) = c.vertex_of-x.ensures ∙ ap (vertex_at a.plan.now) c.target_of.ensures in
    ap not
    (c.is_edge.ensures
    ∙ p.flags.edge _ _ (rw v (source_lt p.formed h)) (rw x (target_lt p.formed h))
    ∙ ap₂ (game_of a.game.now).edge v x)
