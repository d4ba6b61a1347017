-- The plan acceptor passes exactly the plans within the limits that win from the vertex of position 0.
use Rattle.std.specs.Prelude.{◌≡◌, refl, ◌⊎◌, Bool, true, false, ℕ, ◌<◌, min, length, get_or, drop}
use Rattle.std.proofs.Math.Path.{sym, ap, ap₂, subst₂, fun_ext}
use Rattle.std.proofs.Common.{◌∙◌, inl, inr}
use Rattle.std.proofs.Math.Bool.{not, So}
use mathlib.Core.List.{List, [], ◌∷◌, ◌++◌}
use borrow.Author.Tests.{le-ltb, not-false}
use Rattle.theory.specs.Logic.Bools.{◌&◌}
use Rattle.theory.proofs.Logic.BoolsLaws.{clash, So_not}
use Rattle.theory.proofs.Logic.RangeLaws.{none_found, found_none}
use Rattle.theory.specs.Games.Game.{own, Succ, parity}
use Rattle.theory.specs.Plans.Plan.{linked, Walk, Winning, Wins}
use Rattle.theory.specs.Plans.Returns.{Return}
use Rattle.theory.proofs.Plans.ReturnsLaws.{closed_in, closed_out}
use Rattle.table.specs.Table.{vertex_count, player_of, game_of}
use Rattle.table.specs.Answers.{accepted, Clean}
use Rattle.table.specs.AnswersLaws.{judge_clean, judge_accepted, clean_split, clean_append}
use Rattle.table.specs.Reading.{game_rows}
use Rattle.table.specs.ReadingLaws.{well_clean, clean_well}
use Rattle.plan_links.specs.PlanTable.{position_count, link_count, vertex_at, link_source, link_target, plan_of, any_link, has_link}
use Rattle.plan_links.specs.PlanTableLaws.{plan_of_length, plan_of_vertex, plan_of_links, plan_of_link, link_in, link_out, any_link_out}
use Rattle.plan_links.specs.Refusals.{strays, first_stray}
use Rattle.plan_links.specs.PlanFormed.{PlanSized, PlanFormed, WordsPass}
use Rattle.plan_links.specs.PlanFormedLaws.{good_size, good_words, link_inside}
use Rattle.plan_returns.specs.Returns.{returns, position_priority, returns_wrong, first_return}
use Rattle.plan_returns.specs.ReturnsLaws.{return_in, return_out, returns_ext}
use Rattle.plan.specs.Acceptance.{answers, lacks_link, first_lacking_link, plan_rows, plan_answer}
use Rattle.plan.specs.AcceptanceRules.{LacksMove, LacksAnswer, Accepts}
use Rattle.plan.specs.AcceptanceLaws.{answers_out, lacks_out, word_rows, clean_words}

-- ---- rows 14 to 16

pub record LinksPass (g : List ℕ) (player : ℕ) (w : List ℕ) : Type 0 where
  pub follow : (k : ℕ) → k < link_count w → strays g w k ≡ false
  pub enough : (i : ℕ) → i < position_count w → lacks_link g player w i ≡ false
  pub right : (i : ℕ) → i < position_count w → returns_wrong g player w i ≡ false

clean_links : (g : List ℕ) (player : ℕ) (w : List ℕ) → Clean (drop 3 (plan_rows g player w)) → LinksPass g player w
unfolding plan_rows first_stray first_lacking_link first_return
clean_links g player w c = record {
  follow = none_found (strays g w) (link_count w) c.0;
  enough = none_found (lacks_link g player w) (position_count w) c.1.0;
  right = none_found (returns_wrong g player w) (position_count w) c.1.1.0;
}

links_clean : (g : List ℕ) (player : ℕ) (w : List ℕ) → LinksPass g player w → Clean (drop 3 (plan_rows g player w))
unfolding plan_rows first_stray first_lacking_link first_return
links_clean g player w l = (
  found_none (strays g w) (link_count w) l.follow,
  (found_none (lacks_link g player w) (position_count w) l.enough, (found_none (returns_wrong g player w) (position_count w) l.right, tt)),
)

-- ---- the plan of the table

module _ (g : List ℕ) (player : ℕ) (w : List ℕ) where
  abbrev at : ℕ → ℕ
  at i = get_or (plan_of w).vertices i 0

  abbrev link : ℕ → ℕ → Bool
  link = linked (plan_of w).links

  abbrev rank : ℕ → ℕ
  rank k = (game_of g).priority (get_or (plan_of w).vertices k 0)

  module _ (f : PlanFormed (vertex_count g) w) where
    inside : (i j : ℕ) → So (link i j) → (i < position_count w) × (j < position_count w)
    inside i j l = link_inside f i j (rw (plan_of_link w i j) at l)

    -- the computed returns are those of the plan
    same_return : (i : ℕ) → i < position_count w → returns_wrong g player w i ≡ not (parity (player_of player) (rank i)) & returns (position_count w) link rank i
    unfolding returns_wrong position_priority game_of
    same_return i h = ap₂ ◌&◌ (ap (λ (v : ℕ). not (parity (player_of player) ((game_of g).priority v))) (sym (plan_of_vertex w i h)))
        (returns_ext (position_count w) (has_link w) link (λ i j l. sym (plan_of_link w i j)) (position_priority g w) rank (λ k l. ap (game_of g).priority (sym (plan_of_vertex w k l))) i h)

    walk_starts : (i : ℕ) (ks : List ℕ) (j : ℕ) → Walk link i ks j → i < position_count w
    walk_starts i [] j l = (inside i j l).0
    walk_starts i (k ∷ ks) j l = (inside i k l.0).0

  -- ---- what passes wins

  module _ (f : PlanFormed (vertex_count g) w) (l : LinksPass g player w) where
    follows : (i j : ℕ) → So (link i j) → So ((game_of g).edge (at i) (at j))
    unfolding strays
    follows i j t =
        let k = link_out w i j (rw (plan_of_link w i j) at t) in
        let p = inside f i j t in
        let e = subst₂ (λ (x y : ℕ). So ((game_of g).edge (vertex_at w x) (vertex_at w y))) k.source k.target (not-false _ (l.follow k.number k.inside)) in
        rw (plan_of_vertex w i p.0, plan_of_vertex w j p.1) e

    moves : (i : ℕ) → i < position_count w → So (own (game_of g) (player_of player) (at i)) → (j : ℕ) × So (link i j)
    unfolding lacks_link
    moves i h o =
        let e : So (any_link w i (λ j. true)) = not-false _ (rw (rw (plan_of_vertex w i h) at o) at (l.enough i h)) in
        let r = any_link_out w i (λ j. true) e in
        (r.0, rw (plan_of_link w i r.0) r.1)

    replies : (i : ℕ) → i < position_count w → own (game_of g) (player_of player) (at i) ≡ false → (x : ℕ) → Succ (game_of g) (at i) x
        → (j : ℕ) × So (link i j) × (at j ≡ x)
    unfolding lacks_link
    replies i h o x s =
        let e : So (answers g w i) = not-false _ (rw (rw (plan_of_vertex w i h) at o) at (l.enough i h)) in
        let r = answers_out g w i e x (rw (plan_of_vertex w i h) at s) in
        (r.position, rw (plan_of_link w i r.position) r.linked, plan_of_vertex w r.position (link_inside f i r.position r.linked).1 ∙ r.at)

    no_return : (i : ℕ) → Return (player_of player) rank link i → ⊥
    no_return i r =
        let h = walk_starts f i r.between i r.walk in
        clash (rw (same_return f i h) (return_in (position_count w) link (inside f) (player_of player) rank i r)) (l.right i h)

    passes_wins : Wins (player_of player) (game_of g) (plan_of w) (vertex_at w 0)
    unfolding game_of
    passes_wins = record {
      some = rw (plan_of_length w) f.sized.some;
      start = plan_of_vertex w 0 f.sized.some;
      vertex = λ i h. let k = rw (plan_of_length w) at h in rw (plan_of_vertex w i k) (f.vertices i k);
      source = λ i j t. rw (plan_of_length w) (inside f i j t).0;
      target = λ i j t. rw (plan_of_length w) (inside f i j t).1;
      follows = follows;
      moves = λ i h. moves i (rw (plan_of_length w) at h);
      answers = λ i h. replies i (rw (plan_of_length w) at h);
      closed = closed_in (player_of player) rank link no_return;
    }

  -- ---- what wins passes

  module _ (s : PlanSized w) (v : ℕ) (wins : Wins (player_of player) (game_of g) (plan_of w) v) where
    listed : (k : ℕ) → k < link_count w → So (link (link_source w k) (link_target w k))
    listed k h = rw (plan_of_link w (link_source w k) (link_target w k)) (link_in w _ _ (record { number = k; inside = h; source = refl; target = refl }))

    wins_formed : PlanFormed (vertex_count g) w
    unfolding game_of
    wins_formed = record {
      sized = s;
      vertices = λ i h. rw (← plan_of_vertex w i h) (wins.vertex i (rw (plan_of_length w) h));
      sources = λ k h. rw (plan_of_length w) at (wins.source _ _ (listed k h));
      targets = λ k h. rw (plan_of_length w) at (wins.target _ _ (listed k h));
    }

    wins_passes : LinksPass g player w
    unfolding strays
    wins_passes = record {
      follow = λ k h.
          let f = wins_formed in
          ap not (rw (plan_of_vertex w (link_source w k) (f.sources k h), plan_of_vertex w (link_target w k) (f.targets k h)) at (wins.follows _ _ (listed k h)));
      enough = λ i h. So_not (λ t. lack i h (lacks_out g player w i t));
      right = λ i h. So_not (λ t. closed_out (player_of player) rank link wins.closed i
          (return_out (position_count w) link (inside wins_formed) (player_of player) rank i (rw (same_return wins_formed i h) at t)));
    }
      where
        lack : (i : ℕ) → i < position_count w → LacksMove g player w i ⊎ LacksAnswer g player w i → ⊥
        lack i h (inl m) =
            let r = wins.moves i (rw (plan_of_length w) h) (rw (plan_of_vertex w i h) m.owner) in
            m.none r.0 r.1
        lack i h (inr m) =
            let r = wins.answers i (rw (plan_of_length w) h) (rw (plan_of_vertex w i h) m.owner) m.successor (rw (plan_of_vertex w i h) m.move) in
            m.none r.0 r.1 (sym (plan_of_vertex w r.0 (inside wins_formed i r.0 r.1).1) ∙ r.2)

-- ---- accepted exactly if it passes

words_clean : (g : List ℕ) (player : ℕ) (w : List ℕ) → WordsPass g player w → Clean (word_rows g player w)
unfolding plan_rows
words_clean g player w p = (le-ltb 1 player p.number, (good_size w p.formed.sized, (le-ltb _ _ (good_words (vertex_count g) w p.formed), tt)))

module _ (g : List ℕ) (player : ℕ) (w : List ℕ) where
  pub plan_accepted : (counts : List ℕ) → plan_answer g player w ≡ accepted counts → Accepts g player w × (counts ≡ [])
  unfolding plan_answer plan_rows
  plan_accepted counts e =
      let a = judge_accepted (game_rows g ++ plan_rows g player w) [] counts e in
      let c = clean_split (game_rows g) _ a.0 in
      let d = clean_split (word_rows g player w) (drop 3 (plan_rows g player w)) c.1 in
      let p = clean_words g player w (clean_well g c.0) d.0 in
      (record { game = p.game; number = p.number; sized = p.formed.sized; wins = passes_wins g player w p.formed (clean_links g player w d.1) }, sym a.1)

  pub plan_accepts : Accepts g player w → plan_answer g player w ≡ accepted []
  unfolding plan_answer plan_rows
  plan_accepts a =
      let f = wins_formed g player w a.sized (vertex_at w 0) a.wins in
      judge_clean _ []
      (clean_append (game_rows g) _ (well_clean g a.game)
      (clean_append (word_rows g player w) (drop 3 (plan_rows g player w)) (words_clean g player w (record { game = a.game; number = a.number; formed = f }))
      (links_clean g player w (wins_passes g player w a.sized (vertex_at w 0) a.wins))))

-- repeated links are harmless: plans within the limits with the same positions and the same links, however often each stands there,
-- are accepted together
pub repeats_accepted : (g : List ℕ) (player : ℕ) (w w' : List ℕ) → PlanSized w' → (plan_of w).vertices ≡ (plan_of w').vertices
    → ((i j : ℕ) → has_link w i j ≡ has_link w' i j) → plan_answer g player w ≡ accepted [] → plan_answer g player w' ≡ accepted []
repeats_accepted g player w w' s at link e =
    let a = (plan_accepted g player w [] e).0 in
    let l = plan_of_links w ∙ (fun_ext λ i. fun_ext λ j. link i j) ∙ sym (plan_of_links w') in
    let v : vertex_at w 0 ≡ vertex_at w' 0 =
    sym (plan_of_vertex w 0 a.sized.some) ∙ ap (λ (vs : List ℕ). get_or vs 0 0) at ∙ plan_of_vertex w' 0 s.some in
    plan_accepts g player w'
    (record {
      game = a.game;
      number = a.number;
      sized = s;
      wins =
          rw (← v)
          (subst₂ (λ (vs : List ℕ) (r : ℕ → ℕ → Bool). Winning min (player_of player) (game_of g) (length vs) (λ i. get_or vs i 0) r (vertex_at w 0)) at l a.wins);
    })
