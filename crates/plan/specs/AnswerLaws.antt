-- Refusal 15 by the two indexes is refusal 15 by the words of game and plan.
use Rattle.std.specs.Prelude.{◌≡◌, true, false, not, List, ℕ, ◌+◌, ◌≤◌, ◌<◌, eqb, length, get_or}
use Rattle.std.proofs.Math.Path.{refl}
use Rattle.std.proofs.Common.{sym, ◌∙◌, le_refl, arith}
use Rattle.std.proofs.Math.Bool.{So}
use Rattle.std.proofs.Math.Decide.{ℕ_discrete}
use borrow.Author.Tests.{eqb-true, eq-eqb, ne_eqb}
use Rattle.theory.proofs.Logic.BoolsLaws.{clash, So_ext, So_not, and_in, and_out, not_in, not_out, imp_out, imp_fails}
use Rattle.theory.specs.Logic.Range.{any_from}
use Rattle.theory.proofs.Logic.RangeLaws.{all_out, all_fails, any_in, any_out, from_in, from_end}
use Rattle.theory.specs.Games.Game.{own}
use Rattle.table.specs.Table.{vertex_count, table_edges, owner_at, source_at, target_at, player_of, game_of}
use Rattle.table.specs.TableLaws.{own_number, edge_in, edge_out}
use Rattle.index.specs.Index.{among}
use Rattle.index.specs.IndexLaws.{group_order, among_any}
use Rattle.plan_links.specs.PlanTable.{position_count, vertex_at, any_link}
use Rattle.plan_links.specs.LinkIndexLaws.{among_link}
use Rattle.plan.specs.Acceptance.{answers, lacks_link}
use Rattle.plan.specs.Stamps.{stands_at, unanswered, LackSpace}

-- a search keeps the length of its work memory
pub space_kept : {g : List ℕ} {player : ℕ} {w starts targets edgeStarts edgeTargets stamps stamps' : List ℕ} → LackSpace g player w starts targets edgeStarts edgeTargets stamps
    → length stamps' ≡ length stamps → LackSpace g player w starts targets edgeStarts edgeTargets stamps'
space_kept s e = record { pass = s.pass; links = s.links; edges = s.edges; room = omega (arith, s.room) }

-- a range is empty exactly if it ends where it starts
empty_range : (a e : ℕ) → a ≤ e → not (any_from a e (λ t. true)) ≡ eqb a e
empty_range a e h = elim (ℕ_discrete a e) [
  | yes d ↦ rw (← d, from_end a a (λ t. true) (le_refl a), eq-eqb a a refl)
  | no d ↦ rw (from_in a e (λ t. true) a (omega arith) (omega arith) refl, ne_eqb a e d)
]

module _ {g : List ℕ} {player : ℕ} {w starts targets edgeStarts edgeTargets stamps : List ℕ}
    (s : LackSpace g player w starts targets edgeStarts edgeTargets stamps) (i : ℕ) (l : i < position_count w) where
  -- the vertex of position i, and the answers to it
  abbrev v : ℕ
  v = vertex_at w i

  inside : v < vertex_count g
  inside = s.pass.formed.vertices i l

  owner : own (game_of g) (player_of player) v ≡ eqb (owner_at g v) player
  owner = own_number g s.pass.game player v s.pass.number inside

  answered : (x : ℕ) → among starts targets i (λ j. eqb (vertex_at w j) x) ≡ any_link w i (λ j. eqb (vertex_at w j) x)
  answered x = among_link w s.links i l (λ j. eqb (vertex_at w j) x)

  pub lacks_own : owner_at g v ≡ player → lacks_link g player w i ≡ eqb (get_or starts i 0) (get_or starts (i + 1) 0)
  unfolding lacks_link among
  lacks_own e =
      rw (owner, eq-eqb (owner_at g v) player e, ← among_link w s.links i l (λ j. true))
      (empty_range (get_or starts i 0) (get_or starts (i + 1) 0) (group_order s.links i l))

  -- some successor isn't answered
  unanswered_some : So (among edgeStarts edgeTargets v (unanswered w starts targets i)) → answers g w i ≡ false
  unfolding answers unanswered stands_at
  unanswered_some t =
      let r = any_out {n = table_edges g} (rw (among_any s.edges v inside (unanswered w starts targets i)) at t) in
      let c = and_out r.2 in
      let x = target_at g r.0 in
      let e = edge_in g v x r.0 (record { inside = r.1; source = eqb-true (source_at g r.0) v c.0; target = refl }) in
      So_not (λ a. clash (imp_out ((all_out a).at x (s.pass.game.targets r.0 r.1)) e) (sym (answered x) ∙ not_out c.1))

  some_unanswered : answers g w i ≡ false → So (among edgeStarts edgeTargets v (unanswered w starts targets i))
  unfolding answers unanswered stands_at
  some_unanswered e =
      let r = all_fails (vertex_count g) _ e in
      let c = imp_fails _ _ r.2 in
      let j = edge_out g v r.0 c.0 in
      rw (among_any s.edges v inside (unanswered w starts targets i))
      (any_in (table_edges g) _ j.0 j.1.inside
      (and_in (eq-eqb (source_at g j.0) v j.1.source) (rw j.1.target (not_in (answered r.0 ∙ c.1)))))

  pub lacks_other : (owner_at g v ≡ player → ⊥) → lacks_link g player w i ≡ among edgeStarts edgeTargets v (unanswered w starts targets i)
  unfolding lacks_link
  lacks_other d =
      rw (owner, ne_eqb (owner_at g v) player d)
      (So_ext (λ t. some_unanswered (not_out t)) (λ t. not_in (unanswered_some t)))
