-- Games that agree but for their priorities have the same order, passes, classes and edges between classes; where the map of the
-- priorities keeps parity, they have the same winners. Games that agree in all are one game as far as vertices go.
use Rattle.std.specs.Prelude.{◌≡◌, refl, ◌↔◌, Bool, List, ℕ, ◌*◌, ◌/◌, ◌%◌, ◌<◌, min, eqb, length, get_or}
use Rattle.std.proofs.Common.{sym, ◌∙◌, subst, arith}
use Rattle.std.proofs.Math.Path.{ap, ap₂}
use Rattle.std.proofs.Math.Bool.{true, false, not, So}
use borrow.Author.Tests.{eqb-true, eq-eqb}
use Rattle.theory.specs.Logic.Bools.{◌&◌, imp}
use Rattle.theory.specs.Logic.Range.{pairs_of}
use Rattle.theory.proofs.Logic.BoolsLaws.{So_ext}
use Rattle.theory.proofs.Logic.RangeLaws.{all_ext, any_ext}
use Rattle.theory.proofs.Logic.CountLaws.{count_ext, row_lt, col_lt}
use Rattle.theory.proofs.Plans.LinkLaws.{pairs_of_ext}
use Rattle.theory.specs.Order.Passes.{Marks, marked, Rel, rel_of, pair_start, pair_test}
use Rattle.theory.proofs.Order.PassesLaws.{pass_count_ext, final_marks_ext}
use Rattle.theory.specs.Games.Game.{Player, even, same, parity, Game, own, Succ, edge_count}
use Rattle.theory.specs.Order.Simulation.{Moves, PassesTest, Simulation}
use Rattle.theory.specs.Order.Order.{all_next, any_next, moves, equal_priority, test, order_marks, order, order_passes}
use Rattle.theory.specs.Order.Governed.{governed_test, governed, test_by, marks_by, passes_by}
use Rattle.theory.proofs.Order.GovernedLaws.{marks_by_lem, passes_by_lem}
use Rattle.theory.specs.Plans.Plan.{Plan, linked, Walk, seen, WinsBy, Wins, Won}
use Rattle.theory.specs.Games.ParityMap.{ParityMap}
use Rattle.theory.proofs.Games.ParityMapLaws.{seen_parity, parity_same}
use Rattle.theory.specs.Classes.Reduction.{is_lowest, class_count, class_number, representative, quotient_edge, no_better, dropped, reduced_edge, class_game, quotient, reduced, class_of}
use Rattle.theory.proofs.Classes.QuotientLaws.{rep_lt}
use Rattle.theory.specs.Games.Agreement.{AgreeBy, Agree}

-- ---- winners: a plan's links, moves and answers go by the graph alone

-- the same vertices, owners and edges
record SameGraph (G K : Game) : Type 0 where
  size : G.n ≡ K.n
  owner : (v : ℕ) → v < G.n → G.owner v ≡ K.owner v
  edge : (v w : ℕ) → v < G.n → w < G.n → G.edge v w ≡ K.edge v w

graph : {f : ℕ → ℕ} {G K : Game} → AgreeBy f G K → SameGraph G K
graph e = record { size = e.size; owner = e.owner; edge = e.edge }

graph_sym : {G K : Game} → SameGraph G K → SameGraph K G
graph_sym e = record {
  size = sym e.size;
  owner = λ v h. sym (e.owner v (rw e.size h));
  edge = λ v w h k. sym (e.edge v w (rw e.size h) (rw e.size k));
}

pub agree_sym : {G K : Game} → Agree G K → Agree K G
agree_sym e =
    let s = graph_sym (graph e) in record {
      size = s.size;
      priority = λ v h. sym (e.priority v (rw e.size h));
      apart = λ v w h k t. t;
      owner = s.owner;
      edge = s.edge;
    }

graph_succ : {G K : Game} → SameGraph G K → (v x : ℕ) → v < G.n → Succ G v x → Succ K v x
graph_succ e v x h s = record { inside = rw (← e.size) s.inside; along = rw (← e.edge v x h s.inside) s.along }

-- a plan that wins wins by another rule, if each closed walk that is the player's by the one is so by the other
graph_wins : {op op' : ℕ → ℕ → ℕ} (a : Player) {G K : Game} → SameGraph G K → (P : Plan) (v : ℕ) → let at : ℕ → ℕ = λ i. get_or P.vertices i 0 in
    ((i : ℕ) (ks : List ℕ) → Walk (linked P.links) i ks i → So (parity a (seen op (λ k. G.priority (at k)) i ks)) → So (parity a (seen op' (λ k. K.priority (at k)) i ks)))
    → WinsBy op a G P v → WinsBy op' a K P v
graph_wins a {G} {K} e P v closed win = record {
  some = win.some;
  start = win.start;
  vertex = λ i h. rw (← e.size) (win.vertex i h);
  source = win.source;
  target = win.target;
  follows = λ i j t.
      rw (← e.edge (at i) (at j) (win.vertex i (win.source i j t)) (win.vertex j (win.target i j t))) (win.follows i j t);
  moves = λ i h o. win.moves i h (rw (owns i h) o);
  answers = λ i h o u s. win.answers i h (owns i h ∙ o) u (graph_succ (graph_sym e) (at i) u (rw (← e.size) (win.vertex i h)) s);
  closed = λ i ks w. closed i ks w (win.closed i ks w);
}
  where
    at : ℕ → ℕ
    at i = get_or P.vertices i 0

    owns : (i : ℕ) → i < length P.vertices → own G a (at i) ≡ own K a (at i)
    owns i h = ap (same a) (e.owner (at i) (win.vertex i h))

-- Priorities mapped by f: a plan wins by op on the one game exactly if it wins by op' on the other.
module _ {f : ℕ → ℕ} {G K : Game} (e : AgreeBy f G K) {Fit : ℕ → Type 0} {op op' : ℕ → ℕ → ℕ} (t : ParityMap Fit op op' f)
    (fits : (v : ℕ) → v < G.n → Fit (G.priority v)) (a : Player) (P : Plan) (v : ℕ) where
  abbrev at : ℕ → ℕ
  at i = get_or P.vertices i 0

  -- the walks of a plan whose positions are at vertices
  alike : ((i : ℕ) → i < length P.vertices → at i < G.n) → ((i j : ℕ) → So (linked P.links i j) → i < length P.vertices)
      → (i : ℕ) (ks : List ℕ) → Walk (linked P.links) i ks i
      → parity a (seen op' (λ k. K.priority (at k)) i ks) ≡ parity a (seen op (λ k. G.priority (at k)) i ks)
  alike vertex source i ks w =
      seen_parity t (λ k. G.priority (at k)) (λ k. K.priority (at k)) (linked P.links)
      (λ i j l. fits (at i) (vertex i (source i j l))) (λ i j l. e.priority (at i) (vertex i (source i j l))) a i ks i w

  pub agree_by_wins : WinsBy op a G P v ↔ WinsBy op' a K P v
  agree_by_wins = (
    λ win. graph_wins a (graph e) P v (λ i ks w h. rw (alike win.vertex win.source i ks w) h) win,
    λ win.
        graph_wins a (graph_sym (graph e)) P v
        (λ i ks w h. rw (← alike (λ i l. omega (arith, e.size, win.vertex i l)) win.source i ks w) h) win,
  )

-- a plan that wins on one game wins on the other
pub agree_wins : (a : Player) (G K : Game) → Agree G K → (P : Plan) (v : ℕ) → Wins a G P v → Wins a K P v
agree_wins a G K e P v = (agree_by_wins e (parity_same min) (λ v h. tt) a P v).0

pub agree_winner : (a : Player) (G K : Game) → Agree G K → (v : ℕ) → Won a G v ↔ Won a K v
agree_winner a G K e v = (λ (P, win). (P, agree_wins a G K e P v win), λ (P, win). (P, agree_wins a K G (agree_sym e) P v win))

-- ---- games that agree in all simulate each other, each vertex itself

pub agree_simulation : (a : Player) {G K : Game} → Agree G K → Simulation a G K (λ v w. v ≡ w)
unfolding Moves
agree_simulation a {G} {K} e v w hv hw q =
    subst (λ (x : ℕ). PassesTest a G K (λ v w. v ≡ w) v x) q (record { equal = e.priority v hv; moves = rw (← e.owner v hv) (go (own G a v)) })
  where
    go : (o : Bool) → Moves o o (Succ G v) (Succ K v) (λ v w. v ≡ w)
    go true = λ x s. (x, graph_succ (graph e) v x hv s, refl)
    go false = λ x s. (x, graph_succ (graph_sym (graph e)) v x (rw (← e.size) hv) s, refl)

-- ---- edges, as a count and as a list

module _ {f : ℕ → ℕ} {G K : Game} (e : AgreeBy f G K) where
  pub agree_edge_count : edge_count G ≡ edge_count K
  unfolding edge_count
  agree_edge_count =
      count_ext (G.n * G.n) _ _ (λ i h. e.edge (i / G.n) (i % G.n) (row_lt G.n G.n i h) (col_lt G.n G.n i h))
      ∙ rw e.size

  pub agree_edges : pairs_of G.n G.edge ≡ pairs_of K.n K.edge
  agree_edges = pairs_of_ext G.n G.edge K.edge (λ v w. e.edge v w) ∙ rw e.size

-- ---- the pair test

module _ {f : ℕ → ℕ} {G K : Game} (e : AgreeBy f G K) (v : ℕ) (h : v < G.n) (p q : ℕ → Bool) (r : (x : ℕ) → p x ≡ q x) where
  all_next_agree : all_next G v p ≡ all_next K v q
  unfolding all_next
  all_next_agree =
      all_ext G.n _ _ (λ x l. ap₂ imp (e.edge v x h l) (r x))
      ∙ rw e.size

  any_next_agree : any_next G v p ≡ any_next K v q
  unfolding any_next
  any_next_agree =
      any_ext G.n _ _ (λ x l. ap₂ ◌&◌ (e.edge v x h l) (r x))
      ∙ rw e.size

module _ {f : ℕ → ℕ} {G K : Game} (e : AgreeBy f G K) where
  moves_agree : (o o' : Bool) (H : Rel) (v w : ℕ) → v < G.n → w < G.n → moves o o' G G H v w ≡ moves o o' K K H v w
  unfolding moves
  moves_agree true true H v w hv hw = all_next_agree e v hv _ _ (λ x. any_next_agree e w hw _ _ (λ y. refl))
  moves_agree true false H v w hv hw = all_next_agree e v hv _ _ (λ x. all_next_agree e w hw _ _ (λ y. refl))
  moves_agree false true H v w hv hw = any_next_agree e v hv _ _ (λ x. any_next_agree e w hw _ _ (λ y. refl))
  moves_agree false false H v w hv hw = all_next_agree e w hw _ _ (λ y. any_next_agree e v hv _ _ (λ x. refl))

  -- equal priorities stay equal, and unequal ones unequal
  pub equal_priority_agree : (v w : ℕ) → v < G.n → w < G.n → equal_priority G G v w ≡ equal_priority K K v w
  unfolding equal_priority
  equal_priority_agree v w hv hw =
      rw (← e.priority v hv, ← e.priority w hw)
      (So_ext
      (λ t. eq-eqb (f (G.priority v)) (f (G.priority w)) (ap f (eqb-true _ _ t)))
      (λ t. eq-eqb (G.priority v) (G.priority w) (e.apart v w hv hw (eqb-true _ _ t))))

  pub test_agree : (a : Player) (H : Rel) (v w : ℕ) → v < G.n → w < G.n → test a G G H v w ≡ test a K K H v w
  unfolding test
  test_agree a H v w hv hw =
      moves_agree (own G a v) (own G a w) H v w hv hw
      ∙ ap₂ (λ o o'. moves o o' K K H v w) (ap (same a) (e.owner v hv)) (ap (same a) (e.owner w hw))

  -- ---- pass 0 and the test of a later pass, by a pair's number

  start_agree : (i : ℕ) → i < G.n * G.n → pair_start G.n (equal_priority G G) i ≡ pair_start G.n (equal_priority K K) i
  unfolding pair_start
  start_agree i h = equal_priority_agree (i / G.n) (i % G.n) (row_lt G.n G.n i h) (col_lt G.n G.n i h)

  test_by_agree : (mirror : Bool) (H : Rel) (v w : ℕ) → v < G.n → w < G.n → test_by mirror G H v w ≡ test_by mirror K H v w
  unfolding test_by governed_test
  test_by_agree false H v w hv hw = test_agree even H v w hv hw
  test_by_agree true H v w hv hw = ap₂ ◌&◌ (test_agree even H v w hv hw) (test_agree even H w v hw hv)

  number_agree : (mirror : Bool) (m : ℕ → Bool) (i : ℕ) → i < G.n * G.n
      → pair_test G.n (test_by mirror G) m i ≡ pair_test G.n (test_by mirror K) m i
  unfolding pair_test
  number_agree mirror m i h = test_by_agree mirror (rel_of G.n m) (i / G.n) (i % G.n) (row_lt G.n G.n i h) (col_lt G.n G.n i h)

  -- ---- order, passes, classes; those of the governed bisimulation too

  pub agree_marks_by : (mirror : Bool) → marks_by mirror G ≡ marks_by mirror K
  agree_marks_by mirror =
      sym (marks_by_lem G mirror) ∙ final_marks_ext (G.n * G.n) _ _ _ _ start_agree (number_agree mirror) ∙ rw e.size (marks_by_lem K mirror)

  pub agree_passes_by : (mirror : Bool) → passes_by mirror G ≡ passes_by mirror K
  agree_passes_by mirror =
      sym (passes_by_lem G mirror) ∙ pass_count_ext (G.n * G.n) _ _ _ _ start_agree (number_agree mirror) ∙ rw e.size (passes_by_lem K mirror)

  pub agree_order_marks : order_marks G ≡ order_marks K
  unfolding marks_by
  agree_order_marks = agree_marks_by false

  pub agree_passes : order_passes G ≡ order_passes K
  unfolding passes_by
  agree_passes = agree_passes_by false

  pub agree_order : order G ≡ order K
  unfolding order
  agree_order = ap₂ (λ (n : ℕ) (m : Marks). rel_of n (marked m)) e.size agree_order_marks

  pub agree_governed : governed G ≡ governed K
  unfolding governed marks_by
  agree_governed = ap₂ (λ (n : ℕ) (m : Marks). rel_of n (marked m)) e.size (agree_marks_by true)

  pub agree_class_count : class_count G.n (order G) ≡ class_count K.n (order K)
  agree_class_count = ap₂ class_count e.size agree_order

  pub agree_class : (v : ℕ) → class_of G v ≡ class_of K v
  unfolding class_of
  agree_class v = ap₂ (λ n le. class_number n le v) e.size agree_order

  representative_agree : (c : ℕ) → representative G.n (order G) c ≡ representative K.n (order K) c
  representative_agree c = ap₂ (λ n le. representative n le c) e.size agree_order

  -- ---- games of classes

  class_agree : (E E' : Rel) → ((c d : ℕ) → c < G.n → E c d ≡ E' c d) → AgreeBy f (class_game G (order G) E) (class_game K (order K) E')
  unfolding class_game
  class_agree E E' r = record {
    size = agree_class_count;
    priority = λ c h. e.priority _ (rep_lt G c h) ∙ ap K.priority (representative_agree c);
    apart = λ c d h k. e.apart _ _ (rep_lt G c h) (rep_lt G d k);
    owner = λ c h. e.owner _ (rep_lt G c h) ∙ ap K.owner (representative_agree c);
    edge = λ c d h k. r _ _ (rep_lt G c h) ∙ ap₂ E' (representative_agree c) (representative_agree d);
  }

  quotient_agree : (le : Rel) (c d : ℕ) → quotient_edge G le c d ≡ quotient_edge K le c d
  unfolding quotient_edge
  quotient_agree le c d =
      all_ext G.n _ _ (λ v h. ap (imp _) (any_next_agree e v h _ _ (λ x. refl)))
      ∙ rw e.size

  dropped_agree : (le : Rel) (c d : ℕ) → c < G.n → dropped G le c d ≡ dropped K le c d
  unfolding dropped
  dropped_agree le c d h =
      any_ext G.n _ _ (λ x l. ap₂ (λ b (a : Player). is_lowest G.n le x & not (eqb x d) & b & no_better a le d x) (quotient_agree le c x) (e.owner c h))
      ∙ rw e.size

  pub agree_quotient : AgreeBy f (quotient G) (quotient K)
  unfolding quotient
  agree_quotient = class_agree _ _ (λ c d h. quotient_agree (order G) c d ∙ ap (λ (le : Rel). quotient_edge K le c d) agree_order)

  pub agree_reduced : AgreeBy f (reduced G) (reduced K)
  unfolding reduced reduced_edge
  agree_reduced =
      class_agree _ _ (λ c d h.
      ap₂ (λ a b. a & not b) (quotient_agree (order G) c d) (dropped_agree (order G) c d h)
      ∙ ap (λ (le : Rel). reduced_edge K le c d) agree_order)
