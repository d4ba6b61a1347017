-- Refusal 16 by the index of links and the list of priorities is refusal 16 by the plan's words; and a search inside blocks finds every return
-- of the wrong parity, since blocks confine these.
use Rattle.std.specs.Prelude.{◌≡◌, refl, false, List, ℕ, ◌+◌, ◌%◌, ◌≤◌, ◌<◌, leb, length, get_or}
use Rattle.std.proofs.Common.{ap, inl, inr, le_refl, arith}
use Rattle.std.proofs.Math.Path.{ap₂}
use Rattle.std.proofs.Math.Bool.{not, So}
use Rattle.std.proofs.Math.Decide.{ℕ_discrete}
use Rattle.std.proofs.Math.Dec.{eqb}
use borrow.Author.Tests.{eq-eqb, ne_eqb, leb-true, le-leb, lt-leb}
use Rattle.theory.specs.Logic.Bools.{◌&◌}
use Rattle.theory.proofs.Logic.BoolsLaws.{So_ext, So_not, and_in, and_out, and_first, and_fails}
use Rattle.theory.specs.Logic.Range.{first}
use Rattle.theory.proofs.Logic.RangeLaws.{first_ext}
use Rattle.theory.specs.Games.Game.{parity}
use Rattle.theory.specs.Plans.Reach.{Reach, reaches}
use Rattle.theory.proofs.Plans.ReachLaws.{each_in, each_out, reaches_in, reaches_out}
use Rattle.table.specs.Limits.{position_limit}
use Rattle.table.specs.Table.{player_of}
use Rattle.plan_links.specs.PlanTable.{position_count, has_link}
use Rattle.plan_links.specs.LinkIndex.{LinkIndex}
use Rattle.plan_links.specs.LinkIndexLaws.{among_link}
use Rattle.plan_blocks.specs.Blocks.{gone, link_by, BadWalk, Confined}
use Rattle.plan_returns.specs.Returns.{returns, position_priority, returns_wrong, first_return}
use Rattle.plan_returns.specs.ReturnsLaws.{returns_ext}
use Rattle.plan_returns.specs.ReturnSearch.{Workspace, listed_priority, passes, wrong_by}

-- a search keeps the lengths of its work memory
pub workspace_kept : {p : ℕ} {starts targets priorities blocks seen queue blocks' seen' queue' : List ℕ} → Workspace p starts targets priorities blocks seen queue
    → length blocks' ≡ length blocks → length seen' ≡ length seen → length queue' ≡ length queue → Workspace p starts targets priorities blocks' seen' queue'
workspace_kept w c a b = record { index = w.index; few = w.few; values = w.values; grouped = omega (arith, w.grouped); stamps = omega (arith, w.stamps); entries = omega (arith, w.entries) }

-- a search keeps the lengths of blocks, and its work memory has room for all positions
pub workspace_room : {p : ℕ} {starts targets priorities blocks seen queue blocks' seen' queue' : List ℕ} → Workspace p starts targets priorities blocks seen queue
    → length blocks' ≡ length blocks → length seen' ≡ position_limit → length queue' ≡ position_limit + 1 → Workspace p starts targets priorities blocks' seen' queue'
workspace_room w c a b = record { index = w.index; few = w.few; values = w.values; grouped = omega (arith, w.grouped); stamps = omega (arith, w.few, a); entries = omega (arith, w.few, b) }

-- ---- the test of positions

module _ (priorities blocks : List ℕ) (q b j : ℕ) where
  pub below_fails : get_or priorities j 0 < q → passes priorities blocks q b j ≡ false
  unfolding passes
  below_fails h = and_first _ (lt-leb q (get_or priorities j 0) h)

  pub elsewhere_fails : (get_or blocks j 0 ≡ b → ⊥) → passes priorities blocks q b j ≡ false
  unfolding passes
  elsewhere_fails d = and_fails _ _ (ne_eqb (get_or blocks j 0) b d)

  pub passes_in : q ≤ get_or priorities j 0 → get_or blocks j 0 ≡ b → So (passes priorities blocks q b j)
  unfolding passes
  passes_in h e = and_in (le-leb q (get_or priorities j 0) h) (eq-eqb (get_or blocks j 0) b e)

pub own_passes : (priorities blocks : List ℕ) (i : ℕ) → So (passes priorities blocks (get_or priorities i 0) (get_or blocks i 0) i)
own_passes priorities blocks i = passes_in priorities blocks (get_or priorities i 0) (get_or blocks i 0) i (le_refl (get_or priorities i 0)) refl

-- ---- blocks

module _ (p player : ℕ) (starts targets priorities blocks : List ℕ) (c : Confined p player (link_by starts targets) priorities blocks) (i : ℕ) (h : i < p) (wrong : get_or priorities i 0 % 2 ≡ player → ⊥) where
  -- a return of the wrong parity is a closed walk of which blocks know
  bad_walk : (r : Reach p (link_by starts targets) (λ m. leb (get_or priorities i 0) (get_or priorities m 0)) i i) → BadWalk p player (link_by starts targets) priorities i r.between
  bad_walk r = record {
    wrong = wrong;
    walk = r.walk;
    inside = λ k m. elim m [ inl e ↦ rw e h | inr n ↦ (each_out _ r.between r.each k n).0 ];
    above = λ k m. elim m [ inl e ↦ rw e (le_refl (get_or priorities i 0)) | inr n ↦ leb-true _ _ (each_out _ r.between r.each k n).1 ];
  }

  pub gone_returns : get_or blocks i 0 ≡ gone → returns p (link_by starts targets) (listed_priority priorities) i ≡ false
  unfolding returns listed_priority
  gone_returns e = So_not (λ t. let r = reaches_out p (link_by starts targets) _ p i i t in c.live i r.between (bad_walk r) e)

  -- reaching oneself inside one's block is a return
  pub reaches_returns : reaches p (link_by starts targets) (passes priorities blocks (get_or priorities i 0) (get_or blocks i 0)) p i i
      ≡ returns p (link_by starts targets) (listed_priority priorities) i
  unfolding returns listed_priority passes
  reaches_returns = So_ext
      (λ t.
      let r = reaches_out p (link_by starts targets) _ p i i t in
      reaches_in p (link_by starts targets) _ i i
      (record { between = r.between; walk = r.walk; each = each_in _ r.between (λ k m. let x = each_out _ r.between r.each k m in (x.0, (and_out x.1).0)) }))
      (λ t.
      let r = reaches_out p (link_by starts targets) _ p i i t in
      let b = bad_walk r in
      reaches_in p (link_by starts targets) _ i i
      (record {
        between = r.between;
        walk = r.walk;
        each = each_in _ r.between (λ k m. let x = each_out _ r.between r.each k m in (x.0, and_in x.1 (eq-eqb (get_or blocks k 0) (get_or blocks i 0) (c.same i r.between b k (inr m)))));
      }))

-- ---- the parity of a position

pub parity_number : (player q : ℕ) → player ≤ 1 → parity (player_of player) q ≡ eqb (q % 2) player
unfolding parity player_of
parity_number player q h = elim (ℕ_discrete player 0) [
  | yes e ↦ rw e
  | no d ↦ (
      let e : player ≡ 1 = omega arith in
      rw e (other (ℕ_discrete (q % 2) 0)))
]
  where
    other : Dec (q % 2 ≡ 0) → not (eqb (q % 2) 0) ≡ eqb (q % 2) 1
    other (yes e) = rw e
    other (no d) =
        let e : q % 2 ≡ 1 = omega arith in
        rw e

module _ (starts targets priorities : List ℕ) (p player i : ℕ) (h : player ≤ 1) where
  pub wrong_right : get_or priorities i 0 % 2 ≡ player → wrong_by starts targets priorities p player i ≡ false
  unfolding wrong_by listed_priority ◌&◌
  wrong_right e = rw (parity_number player (get_or priorities i 0) h, eq-eqb (get_or priorities i 0 % 2) player e)

  pub wrong_returns : (get_or priorities i 0 % 2 ≡ player → ⊥) → wrong_by starts targets priorities p player i ≡ returns p (link_by starts targets) (listed_priority priorities) i
  unfolding wrong_by listed_priority ◌&◌
  wrong_returns d = rw (parity_number player (get_or priorities i 0) h, ne_eqb (get_or priorities i 0 % 2) player d)

-- ---- by the index and by the words

module _ (w starts targets : List ℕ) (ix : LinkIndex w starts targets) where
  link_by_same : (i j : ℕ) → i < position_count w → link_by starts targets i j ≡ has_link w i j
  unfolding link_by has_link
  link_by_same i j h = among_link w ix i h (λ k. eqb k j)

  module _ (g priorities : List ℕ) (player : ℕ) (filled : (i : ℕ) → i < position_count w → get_or priorities i 0 ≡ position_priority g w i) where
    wrong_by_same : (i : ℕ) → i < position_count w → wrong_by starts targets priorities (position_count w) player i ≡ returns_wrong g player w i
    unfolding wrong_by returns_wrong listed_priority
    wrong_by_same i h =
        ap₂ ◌&◌ (ap (λ (q : ℕ). not (parity (player_of player) q)) (filled i h))
        (returns_ext (position_count w) (link_by starts targets) (has_link w) link_by_same (listed_priority priorities) (position_priority g w) filled i h)

    pub first_return_same : first (wrong_by starts targets priorities (position_count w) player) 0 (position_count w) ≡ first_return g player w
    unfolding first_return
    first_return_same = first_ext _ _ 0 (position_count w) (λ i a h. wrong_by_same i h)
