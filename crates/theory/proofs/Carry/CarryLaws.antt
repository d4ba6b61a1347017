-- The carried plan wins for the player from the vertex that it is carried to. The old plan wins with the links alone that may be followed
-- (`follow_wins`), and the new one projects to that (`winning_projects`): each pair found is related, so that the simulation gives its
-- moves (`step_own`, `step_opponent`), and the search leaves none without them (`all_done`).
use Rattle.std.specs.Prelude.{◌≡◌, Bool, cond, length, get_or, take}
use Rattle.std.proofs.Math.Path.{refl, subst, fun_ext}
use Rattle.std.proofs.Common.{sym, ap, ◌∙◌, subst₂, not-suc-le-zero, arith}
use Rattle.std.proofs.Math.Logic.{inl, inr}
use Rattle.std.proofs.Math.Bool.{true, false, So}
use Rattle.std.proofs.lemmas.Bool.{false≢true}
use mathlib.Core.List.{List, [], ◌∷◌, map}
use Prim.Native.Nat.{ℕ, zero, suc, ◌+◌, ◌*◌, ◌≤◌, ◌<◌, zero-le}
use Rattle.std.proofs.Math.Arith.{digits_lt}
use Rattle.std.proofs.Math.Dec.{eqb, ltb}
use Rattle.std.proofs.lemmas.List.{length-map}
use Rattle.std.proofs.Math.ListN.{get_or-map}
use borrow.Author.Tests.{eqb-true, eq-eqb, ltb-true, lt-ltb}
use Rattle.theory.specs.Logic.Bools.{◌&◌}
use Rattle.theory.proofs.Logic.BoolsLaws.{clash, So_not, and_in, and_out, imp_in, imp_out}
use Rattle.theory.specs.Logic.Range.{any_below}
use Rattle.theory.proofs.Logic.RangeLaws.{below_suc, any_in, any_out, first_passes, first_found, first_is}
use Rattle.theory.proofs.Logic.CountLaws.{digits_one}
use Rattle.theory.specs.Order.Passes.{Rel}
use Rattle.theory.specs.Games.Game.{Player, even, odd, other, Game, own, Succ}
use Rattle.theory.specs.Order.Simulation.{Moves, Simulation, Below}
use Rattle.theory.proofs.Order.SimulationLaws.{simulation_dual}
use Rattle.theory.specs.Order.Order.{below, order, Holds}
use Rattle.theory.proofs.Order.OrderLaws.{below_simulation, below_in, order_simulation}
use Rattle.theory.specs.Plans.Plan.{Plan, linked, Winning, WinsBy, Wins, Won}
use Rattle.theory.proofs.Plans.LinkLaws.{linked_left, linked_right, linked_append, linked_one, linked_one_out, linked_at, linked_find, pair_is_lem}
use Rattle.theory.proofs.Winners.TransferLaws.{Projects, winning_projects, step_own, step_opponent}
use Rattle.theory.specs.Classes.Reduction.{reduced_edge, no_better, reduced}
use Rattle.theory.proofs.Classes.ReductionLaws.{class_into, class_from, reduced_enough}
use Rattle.theory.specs.Carry.BreadthFirst.{Found}
use Rattle.theory.proofs.Carry.BreadthFirstLaws.{size, pair_at, Among, Done, all_done}
use Rattle.theory.specs.Carry.Carry.{source_of, target_of, first_link, usable, answer, answer_to, moves_below, moves_of, found_from, carried, carried_plan, class_no_better, carried_class_plan}

-- the first alone is one of them, and there is one where there is any
take_one_out : (xs : List (ℕ × ℕ)) (x : ℕ × ℕ) → Among x (take 1 xs) → Among x xs
take_one_out [] x t = t
take_one_out (y ∷ xs) x t = linked_left (y ∷ []) xs x.0 x.1 t

take_one_in : (xs : List (ℕ × ℕ)) (x : ℕ × ℕ) → Among x xs → (y : ℕ × ℕ) × Among y (take 1 xs)
unfolding linked
take_one_in [] x t = absurd (false≢true t)
take_one_in (y ∷ xs) x t = (y, linked_one y.0 y.1)

module _ (a : Player) (G₁ G₂ : Game) (K : Rel) (P : Plan) where
  abbrev at : ℕ → ℕ
  at i = get_or P.vertices i 0

  abbrev source : ℕ → ℕ
  source = source_of P.links

  abbrev target : ℕ → ℕ
  target = target_of P.links

  abbrev link_count : ℕ
  link_count = length P.links

  -- ---- the links that may be followed

  abbrev Usable : ℕ → ℕ → Type 0
  Usable i k = So (usable P.links (own G₁ a (at i)) i k)

  unfoldable follow : Rel
  follow i j = any_below link_count (λ k. usable P.links (own G₁ a (at i)) i k & eqb (target k) j)

  follow_in : (i k : ℕ) → k < link_count → Usable i k → So (follow i (target k))
  unfolding follow
  follow_in i k h t = any_in link_count _ k h (and_in t (eq-eqb (target k) (target k) refl))

  follow_out : (i j : ℕ) → So (follow i j) → (k : ℕ) × (k < link_count) × Usable i k × (target k ≡ j)
  unfolding follow
  follow_out i j t = let (k, h, u) = any_out t in let q = and_out u in (k, h, q.0, eqb-true (target k) j q.1)

  follow_over : (i j : ℕ) → So (follow i j) → So (linked P.links i j)
  unfolding usable
  follow_over i j t =
      let (k, h, u, e) = follow_out i j t in
      subst (λ (j : ℕ). So (linked P.links i j)) e
      (subst (λ (i : ℕ). So (linked P.links i (target k))) (eqb-true (source k) i (and_out u).0) (linked_at P.links k h))

  -- at the player's it is the first
  usable_first : (i k : ℕ) → So (own G₁ a (at i)) → Usable i k → k ≡ first_link P.links i
  unfolding usable
  usable_first i k m t = eqb-true k (first_link P.links i) (imp_out (and_out t).1 m)

  -- a link of i, by number
  numbered : (i j : ℕ) → So (linked P.links i j) → (k : ℕ) × (k < link_count) × (source k ≡ i) × (target k ≡ j)
  numbered i j t = let (k, h, e) = linked_find P.links i j t in (k, h, ap (λ (x : ℕ × ℕ). x.0) e, ap (λ (x : ℕ × ℕ). x.1) e)

  -- where i has a link, its first may be followed
  follow_first : (i j : ℕ) → So (linked P.links i j) → (j' : ℕ) × So (follow i j')
  unfolding usable first_link
  follow_first i j t =
      let (k, h, e, f) = numbered i j t in
      let q = first_found (λ k. eqb (source k) i) link_count k h (eq-eqb (source k) i e) in
      let l = first_link P.links i in
      (target l, follow_in i l q.0 (and_in q.1 (imp_in (λ o. eq-eqb l l refl))))

  -- and at the opponent's any
  follow_any : (i j : ℕ) → own G₁ a (at i) ≡ false → So (linked P.links i j) → So (follow i j)
  unfolding usable
  follow_any i j o t =
      let (k, h, e, f) = numbered i j t in
      subst (λ (j : ℕ). So (follow i j)) f (follow_in i k h (and_in (eq-eqb (source k) i e) (imp_in (λ p. clash p o))))

  -- ---- the moves of a pair: a link that may be followed, a successor, and they keep

  record Move (i u j w : ℕ) : Type 0 where
    link : So (follow i j)
    next : Succ G₂ u w
    kept : So (K (at j) w)

  answer_kept : (i w : ℕ) → answer_to a G₁ G₂ K P i w < link_count
      → Usable i (answer_to a G₁ G₂ K P i w) × So (K (at (target (answer_to a G₁ G₂ K P i w))) w)
  unfolding answer_to answer
  answer_kept i w h = and_out (first_passes (λ k. usable P.links (own G₁ a (at i)) i k & K (at (target k)) w) 0 link_count zero-le h)

  answer_found : (i w j : ℕ) → So (follow i j) → So (K (at j) w) → answer_to a G₁ G₂ K P i w < link_count
  unfolding answer_to answer
  answer_found i w j t q =
      let (k, h, u, e) = follow_out i j t in
      (first_found (λ k. usable P.links (own G₁ a (at i)) i k & K (at (target k)) w) link_count k h (and_in u (rw e q))).0

  moves_below_out : (i u b : ℕ) → b ≤ G₂.n → (x : ℕ × ℕ) → Among x (moves_below a G₁ G₂ K P i u b) → Move i u x.0 x.1
  unfolding moves_below linked
  moves_below_out i u zero h x t = absurd (false≢true t)
  moves_below_out i u (suc b) h x t = elim (linked_append (moves_below a G₁ G₂ K P i u b) _ x.0 x.1 t) [
    | inl o ↦ moves_below_out i u b (omega arith) x o
    | inr n ↦ last (G₂.edge u b & ltb k link_count) refl n
  ]
    where
      k : ℕ
      k = answer_to a G₁ G₂ K P i b

      last : (c : Bool) → G₂.edge u b & ltb k link_count ≡ c → Among x (cond c ((target k, b) ∷ []) []) → Move i u x.0 x.1
      last true e t =
          let q = and_out e in
          let l = ltb-true k link_count q.1 in
          let (v, r) = answer_kept i b l in
          let (f, g) = linked_one_out (target k) b x.0 x.1 t in
          record {
            link = subst (λ (j : ℕ). So (follow i j)) f (follow_in i k l v);
            next = record { inside = omega arith; along = subst (λ (w : ℕ). So (G₂.edge u w)) g q.0 };
            kept = subst (λ (w : ℕ). So (K (at x.0) w)) g (subst (λ (j : ℕ). So (K (at j) b)) f r);
          }
      last false e t = absurd (false≢true t)

  moves_below_in : (i u j w b : ℕ) → w < b → Move i u j w → (j' : ℕ) × Among (j', w) (moves_below a G₁ G₂ K P i u b)
  unfolding moves_below
  moves_below_in i u j w zero h m = absurd (not-suc-le-zero h)
  moves_below_in i u j w (suc b) h m =
      below_suc (λ (w : ℕ). Move i u j w → (j' : ℕ) × Among (j', w) (moves_below a G₁ G₂ K P i u (suc b)))
      (λ w l m. let (j', t) = moves_below_in i u j w b l m in (j', linked_left (moves_below a G₁ G₂ K P i u b) _ j' w t))
      (λ m.
      let k = answer_to a G₁ G₂ K P i b in
      let c : So (G₂.edge u b & ltb k link_count) = and_in m.next.along (lt-ltb k link_count (answer_found i b j m.link m.kept)) in
      (target k, linked_right (moves_below a G₁ G₂ K P i u b) _ (target k) b (rw c (linked_one (target k) b))))
      w h m

  moves_out : (x y : ℕ × ℕ) → Among y (moves_of a G₁ G₂ K P x) → Move x.0 x.1 y.0 y.1
  unfolding moves_of
  moves_out x y = go (own G₂ a x.1)
    where
      l : List (ℕ × ℕ)
      l = moves_below a G₁ G₂ K P x.0 x.1 G₂.n

      go : (b : Bool) → Among y (cond b (take 1 l) l) → Move x.0 x.1 y.0 y.1
      go true t = moves_below_out x.0 x.1 G₂.n (omega arith) y (take_one_out l y t)
      go false t = moves_below_out x.0 x.1 G₂.n (omega arith) y t

  -- along a link, to a vertex
  pub moves_inside : (x y : ℕ × ℕ) → Among y (moves_of a G₁ G₂ K P x) → So (linked P.links x.0 y.0) × (y.1 < G₂.n)
  moves_inside x y t = let m = moves_out x y t in (follow_over x.0 y.0 m.link, m.next.inside)

  moves_own : (x : ℕ × ℕ) (j w : ℕ) → So (own G₂ a x.1) → Move x.0 x.1 j w → (y : ℕ × ℕ) × Among y (moves_of a G₁ G₂ K P x)
  unfolding moves_of
  moves_own x j w o m = let (j', t) = moves_below_in x.0 x.1 j w G₂.n m.next.inside m in rw o (take_one_in _ (j', w) t)

  moves_all : (x : ℕ × ℕ) (j w : ℕ) → own G₂ a x.1 ≡ false → Move x.0 x.1 j w → (j' : ℕ) × Among (j', w) (moves_of a G₁ G₂ K P x)
  unfolding moves_of
  moves_all x j w o m = rw o (moves_below_in x.0 x.1 j w G₂.n m.next.inside m)

  -- ---- from x, where the plan wins, to y

  module _ (op : ℕ → ℕ → ℕ) (sim : Simulation a G₁ G₂ (Holds K)) (x : ℕ) (win : WinsBy op a G₁ P x)
      (y : ℕ) (hy : y < G₂.n) (r : So (K x y)) where
    abbrev len : ℕ
    len = length P.vertices

    -- the old plan wins with the links alone that may be followed
    follow_wins : Winning op a G₁ len at follow x
    follow_wins = winning_projects op a G₁ G₁ len at (linked P.links) x win len at follow x (λ i. i) (record {
      some = win.some;
      start = win.start;
      vertex = win.vertex;
      equal = λ k h. refl;
      source = λ k l t. win.source k l (follow_over k l t);
      target = λ k l t. win.target k l (follow_over k l t);
      over = follow_over;
      follows = λ k l t. win.follows k l (follow_over k l t);
      moves = λ k h o. let m = win.moves k h o in follow_first k m.0 m.1;
      answers = λ k h o u s. let m = win.answers k h o u s in (m.0, follow_any k m.0 o m.1, m.2);
    })

    -- where i is at the player's and u at the opponent's, the first link of i answers every successor of u
    pub kept_all : (i u w : ℕ) → i < len → u < G₂.n → So (K (at i) u) → So (own G₁ a (at i)) → own G₂ a u ≡ false → Succ G₂ u w
        → answer_to a G₁ G₂ K P i w ≡ first_link P.links i
    unfolding answer_to answer Moves
    kept_all i u w hi hu q m o s =
        let (j, t) = follow_wins.moves i hi m in
        let (k, h, v, e) = follow_out i j t in
        let kept : So (K (at j) w) = go (own G₁ a (at i)) (own G₂ a u) m o (sim (at i) u (win.vertex i hi) hu q).moves j t in
        first_is (λ k. usable P.links (own G₁ a (at i)) i k & K (at (target k)) w) 0 link_count k zero-le h (and_in v (rw e kept))
        (λ l z b. So_not (λ p. omega (arith, usable_first i l m (and_out p).0, usable_first i k m v)))
        ∙ usable_first i k m v
      where
        go : (b c : Bool) → So b → c ≡ false → Moves b c (Succ G₁ (at i)) (Succ G₂ u) (Holds K) → (j : ℕ) → So (follow i j) → So (K (at j) w)
        go true false e f moves j t =
            moves (at j) w (record { inside = follow_wins.vertex j (follow_wins.target i j t); along = follow_wins.follows i j t }) s
        go false c e f moves j t = absurd (false≢true e)
        go true true e f moves j t = clash refl f

    -- every pair found is related
    record Good (z : ℕ × ℕ) : Type 0 where
      old_lt : z.0 < len
      new_lt : z.1 < G₂.n
      related : So (K (at z.0) z.1)

    good_move : (z z' : ℕ × ℕ) → Good z → Among z' (moves_of a G₁ G₂ K P z) → Good z'
    good_move z z' g t = let m = moves_out z z' t in
        record { old_lt = follow_wins.target z.0 z'.0 m.link; new_lt = m.next.inside; related = m.kept }

    good_start : Good (0, y)
    good_start = record { old_lt = win.some; new_lt = hy; related = rw win.start r }

    abbrev AllDone : Found → Type 0
    AllDone s = Done (moves_of a G₁ G₂ K P) Good good_move (0, y) (size s) s

    carried_done : AllDone (found_from a G₁ G₂ K P y)
    unfolding found_from
    carried_done =
        all_done (moves_of a G₁ G₂ K P) Good good_move (0, y) (len * G₂.n) (λ z. z.0 * G₂.n + z.1)
        (λ z g. digits_lt g.old_lt g.new_lt)
        (λ z z' g h e. let q = digits_one g.new_lt h.new_lt e in pair_is_lem q.0 q.1)
        good_start

    module _ (s : Found) (d : AllDone s) where
      abbrev new : ℕ → ℕ
      new k = (pair_at s k).1

      abbrev old : ℕ → ℕ
      old k = (pair_at s k).0

      -- the position of a move is linked
      move_linked : (k : ℕ) (z : ℕ × ℕ) → k < size s → Among z (moves_of a G₁ G₂ K P (pair_at s k))
          → (l : ℕ) × So (linked s.links k l) × (new l ≡ z.1)
      move_linked k z h t = let (l, hl, e, f) = d.whole k z h t in (l, f, ap (λ (z : ℕ × ℕ). z.1) e)

      found_projects : Projects a G₁ G₂ at follow (size s) new (linked s.links) y old
      found_projects = record {
        some = d.some;
        start = ap (λ (z : ℕ × ℕ). z.1) d.first;
        vertex = λ k h. (d.holds k h).new_lt;
        equal = λ k h.
            let g = d.holds k h in
            sym (sim (at (old k)) (new k) (win.vertex (old k) g.old_lt) g.new_lt g.related).equal;
        source = λ k l t. (d.sound k l t).0;
        target = λ k l t. (d.sound k l t).1;
        over = λ k l t. (moves_out (pair_at s k) (pair_at s l) (d.sound k l t).2).link;
        follows = λ k l t. (moves_out (pair_at s k) (pair_at s l) (d.sound k l t).2).next.along;
        moves = λ k h o.
            let g = d.holds k h in
            let m = step_own op a G₁ G₂ (Holds K) sim len at follow x follow_wins (old k) (new k) g.old_lt g.new_lt g.related o in
            let z = moves_own (pair_at s k) m.0 m.1 o (record { link = m.2; next = m.3; kept = m.4 }) in
            let n = move_linked k z.0 h z.1 in
            (n.0, n.1);
        answers = λ k h o u su.
            let g = d.holds k h in
            let m = step_opponent op a G₁ G₂ (Holds K) sim len at follow x follow_wins (old k) (new k) g.old_lt g.new_lt g.related o u su in
            let z = moves_all (pair_at s k) m.0 u o (record { link = m.1; next = su; kept = m.2 }) in
            move_linked k (z.0, u) h z.1;
      }

      found_wins : WinsBy op a G₂ (record { vertices = map (λ z. z.1) s.pairs; links = s.links }) y
      found_wins =
          let w = winning_projects op a G₁ G₂ len at follow x follow_wins (size s) new (linked s.links) y old found_projects in
          subst₂ (λ (n : ℕ) (f : ℕ → ℕ). Winning op a G₂ n f (linked s.links) y)
          (sym (length-map s.pairs (λ z. z.1))) (sym (fun_ext (λ k. get_or-map (λ (z : ℕ × ℕ). z.1) s.pairs k (0, 0)))) w

    -- a Bool-valued simulation that relates x to y carries a plan from x to y
    pub carried_wins : WinsBy op a G₂ (carried a G₁ G₂ K P y) y
    unfolding carried
    carried_wins = found_wins (found_from a G₁ G₂ K P y) carried_done

-- along any simulation, through the order that contains it
unfoldable pub transfer : (a : Player) (G₁ G₂ : Game) (x y : ℕ) → x < G₁.n → y < G₂.n → Below a G₁ G₂ x y → Won a G₁ x → Won a G₂ y
transfer a G₁ G₂ x y hx hy b (P, win) = (
  carried a G₁ G₂ (below a G₁ G₂) P y,
  carried_wins a G₁ G₂ (below a G₁ G₂) P _ (below_simulation a G₁ G₂) x win y hy (below_in hx hy b),
)

-- ---- the two calls

no_better_simulation : (a : Player) (g : Game) → Simulation a g g (Holds (no_better a (order g)))
unfolding no_better other
no_better_simulation even g = order_simulation g
no_better_simulation odd g = simulation_dual even g g (Holds (order g)) (order_simulation g)

class_no_better_simulation : (a : Player) (g : Game) → Simulation a (reduced g) g (Holds (class_no_better a g))
unfolding no_better other reduced class_no_better
class_no_better_simulation even g = class_from g (reduced_edge g (order g)) (reduced_enough g)
class_no_better_simulation odd g = simulation_dual even g (reduced g) _ (class_into g (reduced_edge g (order g)) (reduced_enough g))

-- where the plan wins from x, and x is no better than y for the player, the carried plan wins from y
pub carried_plan_wins : (a : Player) (g : Game) (P : Plan) (x y : ℕ) → Wins a g P x → y < g.n → So (no_better a (order g) x y)
    → Wins a g (carried_plan a g P y) y
unfolding carried_plan
carried_plan_wins a g P x y win hy r = carried_wins a g g (no_better a (order g)) P _ (no_better_simulation a g) x win y hy r

-- and a plan on the reduced game, from a class
pub carried_class_plan_wins : (a : Player) (g : Game) (P : Plan) (c y : ℕ) → Wins a (reduced g) P c → y < g.n → So (class_no_better a g c y)
    → Wins a g (carried_class_plan a g P y) y
unfolding carried_class_plan
carried_class_plan_wins a g P c y win hy r = carried_wins a (reduced g) g (class_no_better a g) P _ (class_no_better_simulation a g) c win y hy r
