-- A region of the whole game is a plan from each of its vertices v. Its positions are the vertices of the region, v first, so that there are
-- no more positions than vertices and no more links than edges.
use Rattle.std.specs.Prelude.{◌≡◌, map, get_or}
use Rattle.std.proofs.Math.Path.{refl, ap}
use Rattle.std.proofs.Common.{sym, ◌∙◌, arith, ltb-true, lt-ltb, eq-eqb, ne_eqb}
use Rattle.std.proofs.Math.Bool.{So}
use Prim.Native.Nat.{ℕ, ◌+◌, ◌*◌, ◌/◌, ◌%◌, ◌≤◌, ◌<◌, min}
use Rattle.std.proofs.Math.Decide.{ℕ_discrete}
use Rattle.std.proofs.Math.Arith.{digits_lt, digits_div, digits_mod}
use Rattle.std.proofs.Math.ListN.{length}
use Rattle.theory.specs.Logic.Range.{count, nth, pairs_of}
use Rattle.theory.proofs.Logic.CountLaws.{Nth, nth_at, nth_count, count_lt, count_le, count_inject, row_lt, col_lt, pair_ext}
use Rattle.theory.proofs.Logic.ListLaws.{length_tabulate, get_d_tabulate}
use Rattle.theory.specs.Games.Game.{Player, Game, Succ, Total, edge_count}
use Rattle.theory.specs.Plans.Plan.{Plan, linked, Wins, WonSmall}
use Rattle.theory.proofs.Plans.LinkLaws.{pairs_of_in, pairs_of_out, length_pairs_below}
use Rattle.theory.proofs.Plans.WalkLaws.{walk_over, seen_over}
use Rattle.theory.specs.Winners.Region.{Set, none, whole, Subgame, Region, swapped, vertex_at, region_plan}

-- ---- the whole game

pub whole_in : (G : Game) (v : ℕ) → v < G.n → So (whole G v)
unfolding whole
whole_in G v h = lt-ltb v G.n h

pub whole_out : (G : Game) (v : ℕ) → So (whole G v) → v < G.n
unfolding whole
whole_out G v t = ltb-true v G.n t

pub whole_subgame : (G : Game) → Total G → Subgame G (whole G)
whole_subgame G total = record {
  inside = whole_out G;
  total = λ v t. let r = total v (whole_out G v t) in (r.0, whole_in G r.0 r.1.inside, r.1.along);
}

-- ---- two numbers that change places

swapped_first : (c : ℕ) → swapped c 0 ≡ c
unfolding swapped
swapped_first c = refl

swapped_back : (c i : ℕ) → swapped c (swapped c i) ≡ i
unfolding swapped
swapped_back c i = elim (ℕ_discrete i 0) [
  | yes e ↦ rw e (elim (ℕ_discrete c 0) [ yes f ↦ rw f refl | no f ↦ rw (ne_eqb c 0 f, eq-eqb c c refl) refl ])
  | no e ↦ elim (ℕ_discrete i c) [
    | yes f ↦ rw (ne_eqb i 0 e, eq-eqb i c f) (sym f)
    | no f ↦ rw (ne_eqb i 0 e, ne_eqb i c f, ne_eqb i 0 e, ne_eqb i c f) refl
  ]
]

swapped_lt : (k c i : ℕ) → c < k → i < k → swapped c i < k
unfolding swapped
swapped_lt k c i hc hi = elim (ℕ_discrete i 0) [
  | yes e ↦ rw (eq-eqb i 0 e) hc
  | no e ↦ elim (ℕ_discrete i c) [
    | yes f ↦ rw (ne_eqb i 0 e, eq-eqb i c f) (omega arith)
    | no f ↦ rw (ne_eqb i 0 e, ne_eqb i c f) hi
  ]
]

-- ---- the plan

module _ (G : Game) (x : Player) (W : Set) (r : Region G x (whole G) none W) (v : ℕ) (t : So (W v)) where
  k : ℕ
  k = count G.n W

  at : ℕ → ℕ
  at = vertex_at G.n W v

  plan : Plan
  plan = region_plan G r.link W v

  in_lt : (u : ℕ) → So (W u) → u < G.n
  in_lt u s = whole_out G u (r.inside u s)

  number_lt : (u : ℕ) → So (W u) → count u W < k
  unfolding k
  number_lt u s = count_lt G.n W u (in_lt u s) s

  at_nth : (i : ℕ) → i < k → Nth G.n W (swapped (count v W) i) (at i)
  unfolding k at vertex_at
  at_nth i h = nth_at G.n W (swapped (count v W) i) (swapped_lt (count G.n W) (count v W) i (number_lt v t) h)

  start_is : at 0 ≡ v
  unfolding at vertex_at
  start_is = ap (nth G.n W) (swapped_first (count v W)) ∙ nth_count G.n W v (in_lt v t) t

  -- every vertex of the region has a position, and one only
  place : (w : ℕ) → So (W w) → (j : ℕ) × (j < k) × (at j ≡ w)
  unfolding k at vertex_at
  place w s = (
    swapped (count v W) (count w W),
    swapped_lt (count G.n W) (count v W) (count w W) (number_lt v t) (number_lt w s),
    ap (nth G.n W) (swapped_back (count v W) (count w W)) ∙ nth_count G.n W w (in_lt w s) s,
  )

  at_one : (i j : ℕ) → i < k → j < k → at i ≡ at j → i ≡ j
  at_one i j hi hj e =
      let q : swapped (count v W) i ≡ swapped (count v W) j =
      sym (at_nth i hi).number ∙ ap (λ (u : ℕ). count u W) e ∙ (at_nth j hj).number in
      sym (swapped_back (count v W) i) ∙ ap (swapped (count v W)) q ∙ swapped_back (count v W) j

  size_is : length plan.vertices ≡ k
  unfolding k plan region_plan
  size_is = length_tabulate (count G.n W) (vertex_at G.n W v)

  at_is : (i : ℕ) → i < k → get_or plan.vertices i 0 ≡ at i
  unfolding k at plan region_plan
  at_is i h = get_d_tabulate (count G.n W) (vertex_at G.n W v) 0 i h

  link_in : (i j : ℕ) → i < k → j < k → So (r.link (at i) (at j)) → So (linked plan.links i j)
  unfolding k at plan region_plan
  link_in i j hi hj s = pairs_of_in (count G.n W) (λ i j. r.link (vertex_at G.n W v i) (vertex_at G.n W v j)) i j hi hj s

  link_out : (i j : ℕ) → So (linked plan.links i j) → (i < k) × (j < k) × So (r.link (at i) (at j))
  unfolding k at plan region_plan
  link_out i j s = pairs_of_out (count G.n W) (λ i j. r.link (vertex_at G.n W v i) (vertex_at G.n W v j)) i j s

  -- the position of the next vertex is linked
  next : (i w : ℕ) → i < k → So (r.link (at i) w) → (j : ℕ) × So (linked plan.links i j) × (get_or plan.vertices j 0 ≡ w)
  next i w h s =
      let p = place w (r.target (at i) w s) in
      (p.0, link_in i p.0 h p.1 (rw p.2 s), at_is p.0 p.1 ∙ p.2)

  plan_wins : Wins x G plan v
  unfolding none
  plan_wins =
      let inside : (i : ℕ) → i < length plan.vertices → i < k = λ i h. rw size_is at h in
      let begins : 0 < k = omega (arith, number_lt v t) in record {
        some = rw size_is begins;
        start = at_is 0 begins ∙ start_is;
        vertex = λ i h. rw (at_is i (inside i h)) (at_nth i (inside i h)).inside;
        source = λ i j s. rw size_is (link_out i j s).0;
        target = λ i j s. rw size_is (link_out i j s).1;
        follows = λ i j s. let p = link_out i j s in rw (at_is i p.0, at_is j p.1) (r.follows (at i) (at j) p.2);
        moves = λ i h o.
            let m = r.moves (at i) (at_nth i (inside i h)).passes refl (rw (at_is i (inside i h)) at o) in
            let j = next i m.0 (inside i h) m.1 in
            (j.0, j.1);
        answers = λ i h o w s.
            let s' : Succ G (at i) w = rw (at_is i (inside i h)) at s in
            next i w (inside i h)
            (r.answers (at i) (at_nth i (inside i h)).passes refl (rw (at_is i (inside i h)) at o) w (whole_in G w s'.inside) s'.along);
        closed = λ i ks c.
            rw (seen_over r.link (linked plan.links) at (λ k l s. (link_out k l s).2) min G.priority
            (λ k. G.priority (get_or plan.vertices k 0)) (λ k l s. ap G.priority (at_is k (link_out k l s).0)) i ks i c)
            (r.closed (at i) (map at ks) (walk_over r.link (linked plan.links) at (λ k l s. (link_out k l s).2) i ks i c));
      }

  -- a link of the plan has an edge for a partner, and no two links have the same one
  links_le : length plan.links ≤ edge_count G
  unfolding plan region_plan pairs_of edge_count
  links_le =
      let c = count G.n W in
      rw (length_pairs_below c (λ i j. r.link (vertex_at G.n W v i) (vertex_at G.n W v j)) (c * c))
      (count_inject (c * c) (G.n * G.n) _ _
      (λ i j. (j / G.n ≡ vertex_at G.n W v (i / c)) × (j % G.n ≡ vertex_at G.n W v (i % c)))
      (λ i h s.
      let hx = vertex_lt (i / c) (row_lt c c i h) in
      let hy = vertex_lt (i % c) (col_lt c c i h) in
      let x = vertex_at G.n W v (i / c) in
      let y = vertex_at G.n W v (i % c) in
      (x * G.n + y, digits_lt hx hy, rw (digits_div x hy, digits_mod x hy) (r.follows x y s), (digits_div x hy, digits_mod x hy)))
      (λ i i' j h h' l p q.
      pair_ext c i i'
      (vertex_one (i / c) (i' / c) (row_lt c c i h) (row_lt c c i' h') (sym p.0 ∙ q.0))
      (vertex_one (i % c) (i' % c) (col_lt c c i h) (col_lt c c i' h') (sym p.1 ∙ q.1))))
    where
      vertex_lt : (i : ℕ) → i < count G.n W → vertex_at G.n W v i < G.n
      vertex_lt i h = unfold k at in (at_nth i h).inside

      vertex_one : (i j : ℕ) → i < count G.n W → j < count G.n W → vertex_at G.n W v i ≡ vertex_at G.n W v j → i ≡ j
      vertex_one i j hi hj e = unfold k at in at_one i j hi hj e

  pub region_won : WonSmall x G v
  region_won = record { plan = plan; wins = plan_wins; positions = rw size_is (unfold k in count_le G.n W); links = links_le }
