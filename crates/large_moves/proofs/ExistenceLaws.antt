-- Every formed game whose vertices all have successors has a right solution: the regions of the determinacy theorem name the winners, and a
-- link of the winner's region names the move.
use Rattle.std.specs.Prelude.{◌≡◌, Bool, cond, List, [], ◌∷◌, ℕ, ◌+◌, ◌-◌, ◌*◌, ◌<◌, eqb, ltb}
use Rattle.std.proofs.Math.Path.{refl, sym, ap}
use Rattle.std.proofs.Common.{◌∙◌}
use Rattle.std.proofs.Math.Logic.{inl, inr}
use Rattle.std.proofs.Math.Bool.{So}
use native.Mathlib.Omega.{arith}
use borrow.Author.Tests.{eqb-true, eqb-false, eq-eqb, lt-ltb, le-ltb}
use Rattle.theory.specs.Logic.Bools.{◌&◌, imp}
use Rattle.theory.proofs.Logic.BoolsLaws.{decide, clash, not_out, and_in, and_out, or_out, imp_in, imp_out}
use Rattle.theory.specs.Logic.Range.{first, tabulate}
use Rattle.theory.proofs.Logic.RangeLaws.{first_found}
use Rattle.theory.proofs.Logic.ListLaws.{length_tabulate, get_d_tabulate}
use Rattle.theory.specs.Order.Passes.{Rel}
use Rattle.theory.specs.Games.Game.{Player, even, odd, other, Game, own, Total}
use Rattle.theory.proofs.Games.GameLaws.{same_out}
use Rattle.theory.specs.Plans.Plan.{Walk}
use Rattle.theory.proofs.Plans.ReturnsLaws.{closed_out}
use Rattle.theory.proofs.Winners.WinnerLaws.{one_winner}
use Rattle.theory.specs.Winners.Region.{Set, none, whole, Region, Solution}
use Rattle.theory.proofs.Winners.RegionPlanLaws.{whole_in, whole_subgame, region_won}
use Rattle.theory.proofs.Winners.DeterminacyLaws.{solve}
use Rattle.table.specs.Table.{vertex_count, table_edges, owner_at, source_at, target_at, player_of, Listed, game_of}
use Rattle.table.specs.TableLaws.{edge_in, edge_out}
use Rattle.table.specs.TableWords.{owner_word}
use Rattle.table.specs.TableWordsLaws.{owner_le, player_owner}
use Rattle.theory.specs.Solutions.Solution.{Good}
use Rattle.large_table.specs.Reading.{LargeFormed}
use Rattle.large_table.specs.WordsLaws.{player_one}
use Rattle.large_moves.specs.Moves.{winner_at, move_at, keeps_edge}
use Rattle.large_moves.specs.Chosen.{winner_of, kept_edge, Chosen}
use Rattle.large_moves.proofs.ChosenLaws.{kept_out}

module _ (g : List ℕ) (formed : LargeFormed g) (total : Total (game_of g)) where
  abbrev G : Game
  G = game_of g

  abbrev n : ℕ
  n = vertex_count g

  in_game : (v : ℕ) → v < n → v < G.n
  unfolding game_of
  in_game v h = h

  solved : Solution G even (whole G)
  solved = solve G (whole G) (whole_subgame G total)

  -- ---- the regions by player

  set_of : Player → Set
  set_of even = solved.mine
  set_of odd = solved.theirs

  region_of : (a : Player) → Region G a (whole G) none (set_of a)
  unfolding set_of other
  region_of even = solved.my_region
  region_of odd = solved.their_region

  link_of : Player → Rel
  link_of a = (region_of a).link

  win : ℕ → Player
  win v = cond (solved.mine v) even odd

  win_in : (v : ℕ) → v < n → So (set_of (win v) v)
  unfolding win set_of
  win_in v h = elim (decide (solved.mine v)) [
    | inl t ↦ rw t t
    | inr f ↦ rw f (elim (solved.cover v (whole_in G v (in_game v h))) [ inl m ↦ clash m f | inr t ↦ t ])
  ]

  -- no vertex is in both
  win_out : (a : Player) (v : ℕ) → So (set_of a v) → win v ≡ a
  unfolding win set_of other
  win_out even v t = rw t
  win_out odd v t = elim (decide (solved.mine v)) [
    | inl m ↦ (
        let w = region_won G even solved.mine solved.my_region v m in
        let l = region_won G odd solved.theirs solved.their_region v t in
        absurd (one_winner even G v (w.plan, w.wins) (l.plan, l.wins)))
    | inr f ↦ rw f
  ]

  -- ---- the moves

  -- edge j leaves v, and where the winner moves it follows the region's strategy
  fit : ℕ → ℕ → Bool
  fit v j = eqb (source_at g j) v & imp (own G (win v) v) (link_of (win v) v (target_at g j))

  some_fit : (v : ℕ) → v < n → (j : ℕ) × (j < table_edges g) × So (fit v j)
  unfolding fit link_of none
  some_fit v h = elim (decide (own G (win v) v)) [
    | inl o ↦ (
        let m = (region_of (win v)).moves v (win_in v h) refl o in
        let r = edge_out g v m.0 ((region_of (win v)).follows v m.0 m.1) in
        (r.0, r.1.inside, and_in (eq-eqb (source_at g r.0) v r.1.source) (imp_in (λ o. rw r.1.target m.1))))
    | inr f ↦ (
        let m = total v (in_game v h) in
        let r = edge_out g v m.0 m.1.along in
        (r.0, r.1.inside, and_in (eq-eqb (source_at g r.0) v r.1.source) (imp_in (λ o. clash o f))))
  ]

  choose : ℕ → ℕ
  choose v = first (fit v) 0 (table_edges g)

  chosen_fit : (v : ℕ) → v < n → (choose v < table_edges g) × So (fit v (choose v))
  unfolding choose
  chosen_fit v h = let r = some_fit v h in first_found (fit v) (table_edges g) r.0 r.1 r.2

  -- ---- the words

  word : ℕ → ℕ
  word i = cond (ltb i n) (owner_word (win i)) (choose (i - n))

  pub solution_of : List ℕ
  solution_of = tabulate (2 * n) word

  winner_word : (v : ℕ) → v < n → winner_at solution_of v ≡ owner_word (win v)
  unfolding solution_of word
  winner_word v h = get_d_tabulate (2 * n) word 0 v (omega arith) ∙ rw (lt-ltb v n h)

  move_word : (v : ℕ) → v < n → move_at solution_of n v ≡ choose v
  unfolding solution_of word
  move_word v h =
      let e : n + v - n ≡ v = omega arith in
      get_d_tabulate (2 * n) word 0 (n + v) (omega arith) ∙ rw (le-ltb (n + v) n (omega arith), e)

  winner_is : (v : ℕ) → v < n → winner_of solution_of v ≡ win v
  winner_is v h = rw (winner_word v h) (player_owner (win v))

  -- a kept edge is a link of the winner's region
  keeps_link : (v w j : ℕ) → v < n → Listed g v w j → So (keeps_edge g solution_of n v j) → So (link_of (win v) v w)
  unfolding keeps_edge fit link_of none
  keeps_link v w j h l t = elim (decide (own G (win v) v)) [
    | inl o ↦ (elim (or_out t) [
      | inl d ↦ absurd (eqb-false _ _ (not_out d) (owned o))
      | inr e ↦ (
          let q : choose v ≡ j = sym (move_word v h) ∙ eqb-true _ _ e in
          let f = and_out (rw q at (chosen_fit v h).1) in
          rw l.target at (imp_out f.1 o))
    ])
    | inr f ↦ (region_of (win v)).answers v (win_in v h) refl f w (whole_in G w inside) (edge_in g v w j l)
  ]
    where
      owned : So (own G (win v) v) → winner_at solution_of v ≡ owner_at g v
      owned o =
          player_one (winner_at solution_of v) (owner_at g v) (rw (winner_word v h) (owner_le (win v))) (formed.owners v h)
          (winner_is v h ∙ unfold game_of in same_out (win v) (player_of (owner_at g v)) o)

      inside : w < G.n
      inside = in_game w (omega (arith, l.target, formed.targets j l.inside))

  pub solution_chosen : Chosen g solution_of
  unfolding link_of fit
  solution_chosen = record {
    words = unfold solution_of in length_tabulate (2 * n) word;
    winners = λ v h. rw (winner_word v h) (owner_le (win v));
    move = λ v h. rw (move_word v h) (chosen_fit v h).0;
    own = λ v h. rw (move_word v h) (eqb-true _ _ (and_out (chosen_fit v h).1).0);
    stays = λ j h t. same_words j h t;
  }
    where
      same_words : (j : ℕ) → j < table_edges g → So (keeps_edge g solution_of n (source_at g j) j) → winner_at solution_of (target_at g j) ≡ winner_at solution_of (source_at g j)
      same_words j h t =
          let v = source_at g j in
          let w = target_at g j in
          let k = keeps_link v w j (formed.sources j h) (record { inside = h; source = refl; target = refl }) t in
          winner_word w (formed.targets j h) ∙ ap owner_word (win_out (win v) w ((region_of (win v)).target v w k)) ∙ sym (winner_word v (formed.sources j h))

  -- ---- it is right

  kept_link : (v w : ℕ) → So (kept_edge g solution_of v w) → So (link_of (win v) v w) × (win w ≡ win v)
  unfolding link_of
  kept_link v w t =
      let r = kept_out g solution_of v w t in
      let l = r.listed in
      let k = keeps_link v w r.at (omega (arith, l.source, formed.sources r.at l.inside)) l r.keeps in
      (k, win_out (win v) w ((region_of (win v)).target v w k))

  walk_link : (a : Player) (v : ℕ) (ks : List ℕ) (e : ℕ) → win v ≡ a → Walk (kept_edge g solution_of) v ks e → Walk (link_of a) v ks e
  walk_link a v [] e q t = rw q at (kept_link v e t).0
  walk_link a v (k ∷ ks) e q t = let r = kept_link v k t.0 in (rw q at r.0, walk_link a k ks e (r.1 ∙ q) t.1)

  pub solution_good : Good G (winner_of solution_of) (kept_edge g solution_of)
  unfolding game_of link_of
  solution_good v h r =
      let a = win v in
      let e = winner_is v h in
      closed_out a G.priority (link_of a) (region_of a).closed v (record {
        between = r.between;
        walk = walk_link a v r.between v refl r.walk;
        above = r.above;
        wrong = rw e at r.wrong;
      })
