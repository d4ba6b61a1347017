-- A well-formed plan's link ends are positions.
use native.Mathlib.Omega.{arith}
use Rattle.plan_links.specs.LinkIndexLaws.{link_sources, link_targets}
use Rattle.plan_links.proofs.index_links.Goals as goal

pub bounds-plan-0 : goal.bounds-plan-0
bounds-plan-0 c = omega (arith, c.requires.by_index.1.sized.size)

pub overflow_cast-p : goal.overflow_cast-p
overflow_cast-p c = omega (arith, c.requires.by_index.1.sized.positions)

pub bounds-plan-1 : goal.bounds-plan-1
bounds-plan-1 c = let s = c.requires.by_index.1.sized in omega (arith, s.size, s.some)

pub overflow_cast-l : goal.overflow_cast-l
overflow_cast-l c = omega (arith, c.requires.by_index.1.sized.links)

pub overflow_add-sources : goal.overflow_add-sources
overflow_add-sources c = omega (arith, c.requires.by_index.1.sized.positions)

pub overflow_add-sources-2 : goal.overflow_add-sources-2
overflow_add-sources-2 c = let s = c.requires.by_index.1.sized in omega (arith, s.positions, s.links)

pub build-requires : goal.build-requires
build-requires c =
    let f = c.requires.by_index.1 in
    record { column = (link_sources f, link_targets f); n_in_bounds = c.requires.plan_in_bounds; by_index = c.requires.by_index_2 }

pub returns : goal.returns
returns c = c.build.ensures
