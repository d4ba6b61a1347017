-- Tables of one game: the plan acceptor gives the same verdict. 11 and 12 don't mention the game, and 13 goes by its vertices. The positions
-- of a plan that passes them are at vertices of the game, so that 14 to 16 find the same edges, owners and priorities.
use Rattle.std.specs.Prelude.{◌≡◌, refl, true, cond, ℕ, ◌<◌, take, drop}
use Rattle.std.proofs.Math.Path.{sym, ap, ap₂}
use Rattle.std.proofs.Common.{◌∙◌}
use Rattle.std.proofs.Math.Bool.{not}
use mathlib.Core.List.{List, []}
use Rattle.std.proofs.Math.Dec.{eqb}
use Rattle.theory.specs.Logic.Bools.{◌&◌, imp}
use Rattle.theory.proofs.Logic.RangeLaws.{all_ext, first_ext}
use Rattle.theory.specs.Games.Game.{parity, same}
use Rattle.table.specs.Table.{vertex_count, player_of, game_of}
use Rattle.table.specs.Answers.{Row, judge}
use Rattle.table.specs.AnswersLaws.{judge_past, judge_parts}
use Rattle.table.specs.Reading.{game_rows}
use Rattle.table.specs.ReadingLaws.{well_clean}
use Rattle.table.specs.WellFormed.{WellFormed}
use Rattle.table.specs.SameGame.{SameGame}
use Rattle.table.specs.SameGameLaws.{same_agree}
use Rattle.plan_links.specs.PlanTable.{position_count, link_count, vertex_at, link_source, link_target, any_link, has_link}
use Rattle.plan_links.specs.Refusals.{strays, first_stray}
use Rattle.plan_links.specs.PlanFormed.{PlanFormed}
use Rattle.plan_returns.specs.Returns.{position_priority, returns_wrong, first_return}
use Rattle.plan_returns.specs.ReturnsLaws.{returns_ext}
use Rattle.plan.specs.Acceptance.{answers, lacks_link, first_lacking_link, plan_rows, plan_answer}
use Rattle.plan.specs.AcceptanceLaws.{clean_words}

-- ---- 14 to 16

module _ {g h : List ℕ} (one : SameGame g h) (player : ℕ) (w : List ℕ) (formed : PlanFormed (vertex_count g) w) where
  same_edge : (i x : ℕ) → i < position_count w → x < vertex_count g → (game_of g).edge (vertex_at w i) x ≡ (game_of h).edge (vertex_at w i) x
  unfolding game_of
  same_edge i x hi hx = (same_agree one).edge (vertex_at w i) x (formed.vertices i hi) hx

  same_first_stray : first_stray g w ≡ first_stray h w
  unfolding first_stray strays
  same_first_stray =
      first_ext _ _ 0 (link_count w) (λ k a l.
      let t = link_target w k in
      ap not (same_edge (link_source w k) (vertex_at w t) (formed.sources k l) (formed.vertices t (formed.targets k l))))

  same_answers : (i : ℕ) → i < position_count w → answers g w i ≡ answers h w i
  unfolding answers
  same_answers i l =
      all_ext (vertex_count g) _ _ (λ x k. ap (λ e. imp e (any_link w i (λ j. eqb (vertex_at w j) x))) (same_edge i x l k))
      ∙ rw one.vertices

  same_lacks : (i : ℕ) → i < position_count w → lacks_link g player w i ≡ lacks_link h player w i
  unfolding lacks_link game_of
  same_lacks i l =
      ap₂ (λ o a. not (cond (same (player_of player) o) (any_link w i (λ j. true)) a))
      (ap player_of (one.owners (vertex_at w i) (formed.vertices i l))) (same_answers i l)

  same_first_lacking : first_lacking_link g player w ≡ first_lacking_link h player w
  unfolding first_lacking_link
  same_first_lacking = first_ext _ _ 0 (position_count w) (λ i a l. same_lacks i l)

  same_priority : (i : ℕ) → i < position_count w → position_priority g w i ≡ position_priority h w i
  unfolding position_priority
  same_priority i l = one.priorities (vertex_at w i) (formed.vertices i l)

  same_first_return : first_return g player w ≡ first_return h player w
  unfolding first_return returns_wrong
  same_first_return =
      first_ext _ _ 0 (position_count w) (λ i a l.
      ap₂ (λ q r. not (parity (player_of player) q) & r)
      (same_priority i l) (returns_ext (position_count w) (has_link w) (has_link w) (λ i j k. refl) _ _ same_priority i l))

-- ---- the verdict

module _ {g h : List ℕ} (one : SameGame g h) (player : ℕ) (w : List ℕ) where
  -- 11 to 13
  same_words : take 3 (plan_rows g player w) ≡ take 3 (plan_rows h player w)
  unfolding plan_rows
  same_words = rw one.vertices

  -- all rows, for a plan that passes these
  same_rows : PlanFormed (vertex_count g) w → plan_rows g player w ≡ plan_rows h player w
  unfolding plan_rows
  same_rows f = rw (one.vertices, same_first_stray one player w f, same_first_lacking one player w f, same_first_return one player w f)

  -- 11 to 16
  pub same_plan_rows : WellFormed g → judge (plan_rows g player w) [] ≡ judge (plan_rows h player w) []
  unfolding plan_rows
  same_plan_rows wg =
      judge_parts (take 3 (plan_rows g player w)) (take 3 (plan_rows h player w)) (drop 3 (plan_rows g player w)) (drop 3 (plan_rows h player w)) [] [] [] []
      (ap (λ (rs : List Row). judge rs []) same_words)
      (λ c. ap (λ (rs : List Row). judge (drop 3 rs) []) (same_rows (clean_words g player w wg c).formed))

  pub same_plan : WellFormed g → WellFormed h → plan_answer g player w ≡ plan_answer h player w
  unfolding plan_answer
  same_plan wg wh =
      judge_past (game_rows g) _ [] (well_clean g wg)
      ∙ same_plan_rows wg
      ∙ sym (judge_past (game_rows h) _ [] (well_clean h wh))
