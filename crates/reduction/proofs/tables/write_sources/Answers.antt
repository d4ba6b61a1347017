-- Invariant: the sources of the classes before c are put, and those of class c start where they stop.
use mathlib.Core.Path.{◌≡◌, refl, sym}
use mathlib.Core.List.{List, []}
use Prim.Native.Nat.{ℕ, ◌+◌, ◌≤◌, ◌<◌}
use native.Mathlib.Omega.{arith}
use lib.ListN.{length, get_or}
use Rattle.reduction.specs.Tables.{start_of, spread, Ascending}
use Rattle.reduction.proofs.SourcesLaws.{spread_none, start_more, count_more, spread_put}
use Rattle.reduction.proofs.tables.write_sources.Goals as goal

-- nothing is put before the loop
none : (at : ℕ) (stops : List ℕ) → (at ≡ start_of at stops 0) × (at ≡ at + length (spread at stops 0))
unfolding start_of spread
none at stops = (refl, omega arith)

-- class c stops no earlier than it starts, and within the limit
stops_at : {at : ℕ} {stops : List ℕ} {k limit c start : ℕ} → Ascending at stops k limit → start ≡ start_of at stops c → c < k
    → (start ≤ get_or stops c 0) × (get_or stops c 0 ≤ limit)
stops_at {c = c} a e t = (omega (arith, e, a.up c t), a.end c t)

pub loop-c-init : goal.loop-c-init
loop-c-init c = let z = none c.args.at c.args.stops.now in
    (z.0, z.1, c.requires.2.start, spread_none _ _ _)

pub overflow_sub-stop : goal.overflow_sub-stop
overflow_sub-stop c = omega (arith, stops_at c.requires.2 c.loop-c.invariant.0 (omega arith))

pub fill-requires : goal.fill-requires
fill-requires c = omega (arith, stops_at c.requires.2 c.loop-c.invariant.0 (omega arith))

pub loop-c-preserved : goal.loop-c-preserved
loop-c-preserved c =
    let l = c.loop-c in
    let i = l.invariant in
    let h : l.c < c.args.k = omega arith in
    let up = c.requires.2.up l.c h in
    rw c.from-stop.ensures (
      sym (start_more c.args.at c.args.stops.now l.c),
      count_more c.args.at c.args.stops.now l.c l.start [] [] [] i.0 i.1 up,
      (stops_at c.requires.2 i.0 h).1,
      spread_put c.args.at c.args.stops.now l.c l.start _ _ _ i.0 i.1 up i.2 i.3 (rw c.from-stop.ensures at c.fill.ensures),
    )

pub returns : goal.returns
returns c = let l = c.loop-c in
    let e : l.c ≡ c.args.k = omega arith in
    rw e at l.invariant.3
