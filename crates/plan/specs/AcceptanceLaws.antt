-- Laws of the plan acceptor: it refuses k at p exactly as document 01's table says, and accepts exactly the winning plans within the limits.
use Rattle.std.specs.Prelude.{◌≡◌, ◌⊎◌, ◌↔◌, Bool, List, [], ◌++◌, ℕ, ◌+◌, ◌≤◌, ◌<◌, eqb, length, get_or, take, drop}
use Rattle.std.proofs.Math.Path.{refl}
use Rattle.std.proofs.Math.Logic.{inl, inr}
use Rattle.std.proofs.Common.{⊎_elim, arith, ltb-true, ltb-false, lt-ltb, le-ltb, leb-true, le-leb, eqb-true, eq-eqb, ne_eqb}
use Rattle.std.proofs.Math.Bool.{true, false, cond, So}
use Rattle.std.proofs.Math.Decide.{dec_lt}
use Rattle.std.proofs.lemmas.Bool.{eqb-false}
use Rattle.theory.proofs.Logic.BoolsLaws.{clash, So_not, not_in, not_out, or_left, or_right, or_out, imp_out, imp_fails}
use Rattle.theory.proofs.Logic.RangeLaws.{all_out, all_fails}
use Rattle.theory.specs.Games.Game.{own, Succ}
use Rattle.theory.specs.Plans.Plan.{linked}
use Rattle.theory.specs.Plans.Returns.{WrongWalk}
use Rattle.theory.proofs.Plans.ReturnsLaws.{wrong_walk_return}
use Rattle.table.specs.Limits.{position_limit, link_limit}
use Rattle.table.specs.Table.{vertex_count, player_of, game_of}
use Rattle.table.specs.Answers.{Row, refused, Clean}
use Rattle.table.specs.ReadingLaws.{rows_render, clean_well}
use Rattle.table.specs.ReadingRules.{game_rules}
use Rattle.table.specs.WellFormed.{WellFormed}
use Rattle.table.specs.Rules.{FirstRule, Rendered, none, next}
use Rattle.table.specs.RulesLaws.{renders_placed, renders_first}
use Rattle.table.specs.Decisions.{Decides}
use Rattle.table.specs.DecisionsLaws.{rendered_decides, decides_append}
use Rattle.plan_links.specs.PlanTable.{position_count, link_count, vertex_at, link_source, link_target, plan_length, plan_of, any_link, has_link}
use Rattle.plan_links.specs.PlanTableLaws.{plan_of_links, plan_of_link, any_link_in, any_link_out}
use Rattle.plan_links.specs.Refusals.{bad_size, beyond, first_beyond, strays, first_stray}
use Rattle.plan_links.specs.PlanFormed.{PlanFormed, WordsPass}
use Rattle.plan_links.specs.PlanFormedLaws.{size_good, words_good, link_inside}
use Rattle.plan_returns.specs.Returns.{position_priority, returns_wrong, first_return}
use Rattle.plan_returns.specs.ReturnsLaws.{return_in, return_out}
use Rattle.plan.specs.Acceptance.{answers, lacks_link, first_lacking_link, plan_rows, plan_answer}
use Rattle.plan.specs.AcceptanceRules.{BadSize, Beyond, Strays, LacksMove, LacksAnswer, plan_rules}

-- ---- what the tests say

bad_size_lem : (w : List ℕ) → So (bad_size w) ↔ BadSize w
unfolding bad_size
bad_size_lem w = (out, into)
  where
    out : So (bad_size w) → BadSize w
    out t = ⊎_elim
        (λ a. ⊎_elim
        (λ b. ⊎_elim
        (λ c. ⊎_elim (λ d. inl (ltb-true (length w) 2 d)) (λ d. inr (inl (eqb-true (position_count w) 0 d))) (or_out c))
        (λ c. inr (inr (inl (ltb-true position_limit (position_count w) c))))
        (or_out b))
        (λ b. inr (inr (inr (inl (ltb-true link_limit (link_count w) b)))))
        (or_out a))
        (λ a. inr (inr (inr (inr (eqb-false _ _ (not_out a))))))
        (or_out t)

    into : BadSize w → So (bad_size w)
    into (inl a) = or_left _ (or_left _ (or_left _ (or_left _ (lt-ltb (length w) 2 a))))
    into (inr (inl a)) = or_left _ (or_left _ (or_left _ (or_right _ (eq-eqb (position_count w) 0 a))))
    into (inr (inr (inl a))) = or_left _ (or_left _ (or_right _ (lt-ltb position_limit (position_count w) a)))
    into (inr (inr (inr (inl a)))) = or_left _ (or_right _ (lt-ltb link_limit (link_count w) a))
    into (inr (inr (inr (inr a)))) = or_right _ (not_in (ne_eqb _ _ a))

is_beyond : (n : ℕ) (w : List ℕ) (k : ℕ) → So (beyond n w k) ↔ Beyond n w k
unfolding beyond
is_beyond n w k = (out (dec_lt k (2 + position_count w)), into)
  where
    out : Dec (k < 2 + position_count w) → So (beyond n w k) → Beyond n w k
    out (yes l) t = inl (l, leb-true n (get_or w k 0) (rw (lt-ltb k (2 + position_count w) l) at t))
    out (no m) t =
        let l : 2 + position_count w ≤ k = omega arith in
        inr (l, leb-true (position_count w) (get_or w k 0) (rw (le-ltb k (2 + position_count w) l) at t))

    into : Beyond n w k → So (beyond n w k)
    into (inl a) = rw (lt-ltb k (2 + position_count w) a.0) (le-leb n (get_or w k 0) a.1)
    into (inr a) = rw (le-ltb k (2 + position_count w) a.0) (le-leb (position_count w) (get_or w k 0) a.1)

is_strays : (g w : List ℕ) (k : ℕ) → So (strays g w k) ↔ Strays g w k
unfolding strays
is_strays g w k = (λ t e. clash e (not_out t), λ d. not_in {b = (game_of g).edge (vertex_at w (link_source w k)) (vertex_at w (link_target w k))} (So_not d))

-- every successor is answered
pub record Answered (w : List ℕ) (i x : ℕ) : Type 0 where
  pub position : ℕ
  pub linked : So (has_link w i position)
  pub at : vertex_at w position ≡ x

answer_out : (w : List ℕ) (i x : ℕ) → So (any_link w i (λ j. eqb (vertex_at w j) x)) → Answered w i x
answer_out w i x t = let r = any_link_out w i _ t in record { position = r.0; linked = r.1; at = eqb-true (vertex_at w r.0) x r.2 }

answer_in : (w : List ℕ) (i x : ℕ) → Answered w i x → So (any_link w i (λ j. eqb (vertex_at w j) x))
answer_in w i x a = any_link_in w i a.position _ a.linked (eq-eqb (vertex_at w a.position) x a.at)

pub answers_out : (g w : List ℕ) (i : ℕ) → So (answers g w i) → (x : ℕ) → Succ (game_of g) (vertex_at w i) x → Answered w i x
unfolding answers game_of
answers_out g w i t x s = answer_out w i x (imp_out ((all_out {n = vertex_count g} t).at x s.inside) s.along)

answers_fail : (g w : List ℕ) (i : ℕ) → answers g w i ≡ false → (x : ℕ) × Succ (game_of g) (vertex_at w i) x × ¬ Answered w i x
unfolding answers game_of
answers_fail g w i e =
    let r = all_fails (vertex_count g) _ e in
    let c = imp_fails _ _ r.2 in
    (r.0, record { inside = r.1; along = c.0 }, λ a. clash (answer_in w i r.0 a) c.1)

module _ (g : List ℕ) (player : ℕ) (w : List ℕ) (i : ℕ) where
  abbrev owned : Bool
  owned = own (game_of g) (player_of player) (vertex_at w i)

  pub lacks_out : So (lacks_link g player w i) → LacksMove g player w i ⊎ LacksAnswer g player w i
  unfolding lacks_link
  lacks_out t = go owned refl (not_out t)
    where
      go : (b : Bool) → owned ≡ b → cond b (any_link w i (λ j. true)) (answers g w i) ≡ false → LacksMove g player w i ⊎ LacksAnswer g player w i
      go true e f = inl (record { owner = e; none = λ j l. clash (any_link_in w i j (λ k. true) (rw (plan_of_link w i j) at l) refl) f })
      go false e f =
          let r = answers_fail g w i f in
          inr (record { owner = e; successor = r.0; move = r.1; none = λ j l d. r.2 (record { position = j; linked = rw (plan_of_link w i j) at l; at = d }) })

  lacks_in : LacksMove g player w i ⊎ LacksAnswer g player w i → So (lacks_link g player w i)
  unfolding lacks_link
  lacks_in (inl m) = rw m.owner (not_in (So_not (λ t. let r = any_link_out w i (λ j. true) t in m.none r.0 (rw (plan_of_link w i r.0) r.1))))
  lacks_in (inr m) = rw m.owner (not_in (So_not (λ t. let r = answers_out g w i t m.successor m.move in m.none r.position (rw (plan_of_link w i r.position) r.linked) r.at)))

is_wrong : (g : List ℕ) (player : ℕ) (w : List ℕ) → PlanFormed (vertex_count g) w → (i : ℕ)
    → So (returns_wrong g player w i) ↔ WrongWalk (player_of player) (position_priority g w) (linked (plan_of w).links) i
unfolding returns_wrong
is_wrong g player w f i =
    let a = player_of player in
    let c = position_priority g w in
    rw (plan_of_links w) (
      λ t. (wrong_walk_return a c (has_link w) i).1 (return_out (position_count w) (has_link w) (link_inside f) a c i t),
      λ x. return_in (position_count w) (has_link w) (link_inside f) a c i ((wrong_walk_return a c (has_link w) i).0 x),
    )

-- ---- the computed rows decide by document 01's. Rows 14 to 16 do so for a plan that passes 12 and 13; for no other are they looked at.

-- 11 to 13
abbrev pub word_rows : List ℕ → ℕ → List ℕ → List Row
word_rows g player w = take 3 (plan_rows g player w)

words_render : (g : List ℕ) (player : ℕ) (w : List ℕ) → Rendered (word_rows g player w) (take 3 (plan_rules g player w))
unfolding plan_rows first_beyond
words_render g player w =
    next (renders_placed 11 0 _ _ (ltb-true 1 player, lt-ltb 1 player))
    (next (renders_placed 12 0 _ _ (bad_size_lem w))
    (next (renders_first 13 (beyond (vertex_count g) w) (Beyond (vertex_count g) w) 2 (plan_length (position_count w) (link_count w)) (λ k. k) (omega arith) (is_beyond (vertex_count g) w))
    none))

links_render : (g : List ℕ) (player : ℕ) (w : List ℕ) → PlanFormed (vertex_count g) w → Rendered (drop 3 (plan_rows g player w)) (drop 3 (plan_rules g player w))
unfolding plan_rows first_stray first_lacking_link first_return
links_render g player w f =
    next (renders_first 14 (strays g w) (Strays g w) 0 (link_count w) (λ k. k) (omega arith) (is_strays g w))
    (next (renders_first 15 (lacks_link g player w) _ 0 (position_count w) (λ i. i) (omega arith) (λ i. (lacks_out g player w i, lacks_in g player w i)))
    (next (renders_first 16 (returns_wrong g player w) _ 0 (position_count w) (λ i. i) (omega arith) (is_wrong g player w f))
    none))

-- a plan that passes 11 to 13
pub clean_words : (g : List ℕ) (player : ℕ) (w : List ℕ) → WellFormed g → Clean (word_rows g player w) → WordsPass g player w
unfolding plan_rows
clean_words g player w well c = record {
  game = well;
  number = ltb-false 1 player c.0;
  formed = words_good (vertex_count g) w (size_good w c.1.0) (ltb-false (first_beyond (vertex_count g) w) _ c.1.1.0);
}

-- on a well-formed game
pub plan_decides : (g : List ℕ) (player : ℕ) (w : List ℕ) → WellFormed g → Decides (plan_rows g player w) (plan_rules g player w)
unfolding plan_rows
plan_decides g player w well =
    decides_append (rendered_decides (words_render g player w)) (λ c. rendered_decides (links_render g player w (clean_words g player w well c).formed))

-- ---- refused k at p exactly if rule k is the first whose condition holds, and it names p

pub plan_refused : (g : List ℕ) (player : ℕ) (w : List ℕ) (k p : ℕ) → (plan_answer g player w ≡ refused k p) ↔ FirstRule (game_rules g ++ plan_rules g player w) k p
unfolding plan_answer
plan_refused g player w = (decides_append (rendered_decides (rows_render g)) (λ c. plan_decides g player w (clean_well g c))).refuses []
