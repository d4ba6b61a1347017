-- Games that agree but for their priorities carry a plan that wins to the same plan: the search meets no pair but one of a position and a
-- vertex, and there owners, edges and the needed order are the same.
use Rattle.std.specs.Prelude.{◌≡◌, Bool, length, get_or, take}
use Rattle.std.proofs.Math.Path.{refl, ap, ap₂}
use Rattle.std.proofs.Common.{◌∙◌, le_refl, arith}
use Rattle.std.proofs.Math.Bool.{cond}
use mathlib.Core.List.{List, map}
use Prim.Native.Nat.{ℕ, zero, suc, ◌*◌, ◌≤◌, ◌<◌}
use Rattle.theory.specs.Order.Passes.{Rel}
use Rattle.theory.specs.Games.Game.{Player, same, Game}
use Rattle.theory.specs.Order.Order.{order}
use Rattle.theory.specs.Plans.Plan.{Plan, Wins}
use Rattle.theory.specs.Classes.Reduction.{representative, no_better, reduced}
use Rattle.theory.specs.Games.Agreement.{AgreeBy}
use Rattle.theory.proofs.Games.AgreementLaws.{agree_order, agree_reduced}
use Rattle.theory.specs.Carry.BreadthFirst.{Found, start_at, search}
use Rattle.theory.proofs.Carry.BreadthFirstLaws.{Among, done_start, search_ext}
use Rattle.theory.specs.Carry.Carry.{answer, answer_to, moves_below, moves_of, found_from, carried, carried_plan, class_no_better, carried_class_plan}
use Rattle.theory.proofs.Carry.CarryLaws.{moves_inside}

-- ---- a plan on G₁ carried to G₂, or on H₁ to H₂

module _ (a : Player) {f : ℕ → ℕ} {G₁ H₁ G₂ H₂ : Game} (e₁ : AgreeBy f G₁ H₁) (e₂ : AgreeBy f G₂ H₂) (K : Rel) (P : Plan) (x : ℕ) (win : Wins a G₁ P x) where
  abbrev at : ℕ → ℕ
  at i = get_or P.vertices i 0

  answer_agree : (i u : ℕ) → i < length P.vertices → answer_to a G₁ G₂ K P i u ≡ answer_to a H₁ H₂ K P i u
  unfolding answer_to
  answer_agree i u h = ap (λ (mine : Bool). answer P.links mine (λ j. K (at j) u) i) (ap (same a) (e₁.owner (at i) (win.vertex i h)))

  below_agree : (i u b : ℕ) → i < length P.vertices → u < G₂.n → b ≤ G₂.n → moves_below a G₁ G₂ K P i u b ≡ moves_below a H₁ H₂ K P i u b
  unfolding moves_below
  below_agree i u zero h l m = refl
  below_agree i u (suc b) h l m = rw (below_agree i u b h l (omega arith), e₂.edge u b l (omega arith), answer_agree i b h) refl

  -- a position and a vertex
  record Inside (z : ℕ × ℕ) : Type 0 where
    old : z.0 < length P.vertices
    new : z.1 < G₂.n

  inside_move : (z z' : ℕ × ℕ) → Inside z → Among z' (moves_of a G₁ G₂ K P z) → Inside z'
  inside_move z z' h t = let m = moves_inside a G₁ G₂ K P z z' t in record { old = win.target z.0 z'.0 m.0; new = m.1 }

  moves_agree : (z : ℕ × ℕ) → Inside z → moves_of a G₁ G₂ K P z ≡ moves_of a H₁ H₂ K P z
  unfolding moves_of
  moves_agree z h =
      ap₂ (λ (mine : Bool) (xs : List (ℕ × ℕ)). cond mine (take 1 xs) xs)
      (ap (same a) (e₂.owner z.1 h.new))
      (below_agree z.0 z.1 G₂.n h.old h.new (le_refl G₂.n) ∙ ap (moves_below a H₁ H₂ K P z.0 z.1) e₂.size)

  pub carried_agree : (y : ℕ) → y < G₂.n → carried a G₁ G₂ K P y ≡ carried a H₁ H₂ K P y
  unfolding carried found_from
  carried_agree y h =
      ap (λ (s : Found). record { vertices = map (λ z. z.1) s.pairs; links = s.links })
      (search_ext (moves_of a G₁ G₂ K P) Inside inside_move (0, y) (moves_of a H₁ H₂ K P) moves_agree (length P.vertices * G₂.n) 0 (start_at (0, y))
      (done_start (moves_of a G₁ G₂ K P) Inside inside_move (0, y) (record { old = win.some; new = h }))
      ∙ ap (λ (n : ℕ). search (moves_of a H₁ H₂ K P) (length P.vertices * n) 0 (start_at (0, y))) e₂.size)

-- ---- the two calls

module _ (a : Player) {f : ℕ → ℕ} {g h : Game} (e : AgreeBy f g h) where
  pub agree_no_better : no_better a (order g) ≡ no_better a (order h)
  agree_no_better = ap (no_better a) (agree_order e)

  pub agree_class_no_better : class_no_better a g ≡ class_no_better a h
  unfolding class_no_better
  agree_class_no_better = ap₂ {C = Rel} (λ (n : ℕ) (le : Rel) (c v : ℕ). no_better a le (representative n le c) v) e.size (agree_order e)

  pub agree_carried_plan : (P : Plan) (x y : ℕ) → Wins a g P x → y < g.n → carried_plan a g P y ≡ carried_plan a h P y
  unfolding carried_plan
  agree_carried_plan P x y win l = carried_agree a e e (no_better a (order g)) P x win y l ∙ ap (λ (K : Rel). carried a h h K P y) agree_no_better

  pub agree_carried_class_plan : (P : Plan) (c y : ℕ) → Wins a (reduced g) P c → y < g.n → carried_class_plan a g P y ≡ carried_class_plan a h P y
  unfolding carried_class_plan
  agree_carried_class_plan P c y win l =
      carried_agree a (agree_reduced e) e (class_no_better a g) P c win y l ∙ ap (λ (K : Rel). carried a (reduced h) h K P y) agree_class_no_better
