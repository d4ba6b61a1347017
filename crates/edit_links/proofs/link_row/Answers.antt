-- Invariant: the walk is at pair p - 1.
use Rattle.std.proofs.Common.{◌≡◌, ◌+◌, ◌-◌, ◌<◌, ℕ, List, get_or, refl, arith}
use lib.ListN.{length-set}
use Rattle.edit_links.specs.Links.{Chained, last_of, of_source}
use Rattle.edit_links.specs.LinksLaws.{Walk, walk_start, walk_on, walk_end, last_le}
use Rattle.edit_links.proofs.link_row.Goals as goal

-- the pair that is taken
inside : {S T : List ℕ} {m N n v : ℕ} {old head links : List ℕ} {p : ℕ} → Walk S T m N n v old head links p → 0 < p → p - 1 < N
inside w h = omega (arith, w.within, h)

-- the one before it
back : {S T : List ℕ} {m N n v : ℕ} {old head links : List ℕ} {p : ℕ} {heads before : List ℕ} → Walk S T m N n v old head links p → Chained S N heads before → 0 < p
    → get_or before (p - 1) 0 ≡ last_of (of_source S v) (p - 1)
back w k h = rw (w.mine h) at (k.link _ (inside w h))

pub overflow_cast-p : goal.overflow_cast-p
overflow_cast-p c = let p = c.requires.pairs in
    omega (arith, p.2.head c.args.v, last_le (of_source c.args.sources.now c.args.v) c.args.count, p.0.few)

pub loop-p-init : goal.loop-p-init
loop-p-init c = let q = c.requires.by_index in
    (refl, refl, rw (c.requires.pairs.2.head c.args.v) (walk_start _ _ _ _ _ _ _ _ q.0 q.1))

pub bounds-targets-x : goal.bounds-targets-x
bounds-targets-x c = omega (arith, inside c.loop-p.invariant.2 c.loop-p-test.true, c.requires.pairs.0.targets)

pub overflow_cast-w : goal.overflow_cast-w
overflow_cast-w c = omega (arith, c.requires.pairs.0.target _ (inside c.loop-p.invariant.2 c.loop-p-test.true))

pub offset_bounds-head-w : goal.offset_bounds-head-w
offset_bounds-head-w c = omega (arith, c.requires.pairs.0.target _ (inside c.loop-p.invariant.2 c.loop-p-test.true))

pub bounds-head-w : goal.bounds-head-w
bounds-head-w c = omega (arith, c.requires.pairs.0.target _ (inside c.loop-p.invariant.2 c.loop-p-test.true), c.loop-p.invariant.0, c.requires.n_in_bounds)

pub bounds-links-x : goal.bounds-links-x
bounds-links-x c = omega (arith, inside c.loop-p.invariant.2 c.loop-p-test.true, c.loop-p.invariant.1, c.requires.n_in_bounds)

pub entry_or-requires : goal.entry_or-requires
entry_or-requires c = omega (arith, inside c.loop-p.invariant.2 c.loop-p-test.true, c.requires.pairs.0.few)

pub offset_bounds-head-w-in-loop-p : goal.offset_bounds-head-w-in-loop-p
offset_bounds-head-w-in-loop-p c = omega (arith, c.requires.pairs.0.target _ (inside c.loop-p.invariant.2 c.loop-p-test.true))

pub bounds-head-w-in-loop-p : goal.bounds-head-w-in-loop-p
bounds-head-w-in-loop-p c =
    omega (arith, c.requires.pairs.0.target _ (inside c.loop-p.invariant.2 c.loop-p-test.true), c.loop-p.invariant.0, c.requires.n_in_bounds)

pub overflow_cast-p-in-loop-p : goal.overflow_cast-p-in-loop-p
overflow_cast-p-in-loop-p c =
    let w = c.loop-p.invariant.2 in
    let h = c.loop-p-test.true in
    let k = c.requires.pairs in
    omega (arith, back w k.2 h, last_le (of_source c.args.sources.now c.args.v) (c.loop-p.p - 1), inside w h, k.0.few)

pub loop-p-smaller : goal.loop-p-smaller
loop-p-smaller c =
    let h = c.loop-p-test.true in
    omega (arith, back c.loop-p.invariant.2 c.requires.pairs.2 h, last_le (of_source c.args.sources.now c.args.v) (c.loop-p.p - 1), h)

pub loop-p-preserved : goal.loop-p-preserved
loop-p-preserved c =
    let l = c.loop-p in
    let h = c.loop-p-test.true in
    let p = c.requires.n_in_bounds in
    let target = c.requires.pairs.0.target _ (inside l.invariant.2 h) in
    let e : l.p ≡ l.p - 1 + 1 = omega (arith, h) in (
      simp length-set l.invariant.0,
      simp length-set l.invariant.1,
      rw (back l.invariant.2 c.requires.pairs.2 h, c.entry_or.ensures)
          (walk_on _ _ _ _ _ _ _ _ _ _ (rw e at l.invariant.2) target c.requires.by_index.1 (omega (arith, l.invariant.0, p)) (omega (arith, l.invariant.1, p))),
    )

pub returns : goal.returns
returns c = let l = c.loop-p in
    let e : l.p ≡ 0 = omega arith in
    walk_end _ _ _ _ _ _ _ _ _ (rw e at l.invariant.2)
