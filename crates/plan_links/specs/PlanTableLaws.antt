-- Laws of the plan of a table: its positions stand at the listed vertices, and its links are those that the table lists.
use Rattle.std.specs.Prelude.{◌≡◌, refl, ◌⊎◌, Bool, List, ℕ, zero, suc, ◌<◌, eqb, length, get_or}
use Rattle.std.proofs.Common.{ap, inl, inr, not-suc-le-zero, le_of_suc-le-suc, arith, eqb-true, eq-eqb}
use Rattle.std.proofs.Math.Path.{fun_ext}
use Rattle.std.proofs.Math.Bool.{So}
use Rattle.std.proofs.lemmas.Bool.{false≢true}
use Rattle.theory.specs.Logic.Bools.{◌&◌}
use Rattle.theory.proofs.Logic.BoolsLaws.{So_ext, and_in, and_out, or_left, or_right, or_out}
use Rattle.theory.specs.Logic.Range.{tabulate}
use Rattle.theory.proofs.Logic.RangeLaws.{any_in, any_out}
use Rattle.theory.proofs.Logic.ListLaws.{length_tabulate, get_d_tabulate}
use Rattle.theory.specs.Plans.Plan.{linked}
use Rattle.plan_links.specs.PlanTable.{position_count, link_count, vertex_at, link_source, link_target, plan_of, any_link, has_link}

-- ---- positions

pub plan_of_length : (w : List ℕ) → length (plan_of w).vertices ≡ position_count w
unfolding plan_of
plan_of_length w = length_tabulate (position_count w) (vertex_at w)

pub plan_of_vertex : (w : List ℕ) (i : ℕ) → i < position_count w → get_or (plan_of w).vertices i 0 ≡ vertex_at w i
unfolding plan_of
plan_of_vertex w i h = get_d_tabulate (position_count w) (vertex_at w) 0 i h

-- ---- links

linked_tabulate_in : (l : ℕ) (f : ℕ → ℕ × ℕ) (i j k : ℕ) → k < l → So (eqb (f k).0 i & eqb (f k).1 j) → So (linked (tabulate l f) i j)
unfolding linked tabulate
linked_tabulate_in zero f i j k h t = absurd (not-suc-le-zero h)
linked_tabulate_in (suc l) f i j zero h t = or_left _ t
linked_tabulate_in (suc l) f i j (suc k) h t = or_right _ (linked_tabulate_in l (λ k. f (suc k)) i j k (le_of_suc-le-suc h) t)

linked_tabulate_out : (l : ℕ) (f : ℕ → ℕ × ℕ) (i j : ℕ) → So (linked (tabulate l f) i j) → (k : ℕ) × (k < l) × So (eqb (f k).0 i & eqb (f k).1 j)
unfolding linked tabulate
linked_tabulate_out zero f i j t = absurd (false≢true t)
linked_tabulate_out (suc l) f i j t = go (or_out t) (linked_tabulate_out l (λ k. f (suc k)) i j)
  where
    go : So (eqb (f zero).0 i & eqb (f zero).1 j) ⊎ So (linked (tabulate l (λ k. f (suc k))) i j)
        → (So (linked (tabulate l (λ k. f (suc k))) i j) → (k : ℕ) × (k < l) × So (eqb (f (suc k)).0 i & eqb (f (suc k)).1 j))
        → (k : ℕ) × (k < suc l) × So (eqb (f k).0 i & eqb (f k).1 j)
    go (inl a) ih = (zero, omega arith, a)
    go (inr b) ih = let r = ih b in (suc r.0, omega (arith, r.1), r.2)

-- the plan's links are the listed ones
pub plan_of_links : (w : List ℕ) → linked (plan_of w).links ≡ has_link w
unfolding plan_of has_link any_link
plan_of_links w = fun_ext λ i. fun_ext λ j. So_ext
    (λ t. let r = linked_tabulate_out (link_count w) _ i j t in any_in (link_count w) _ r.0 r.1 r.2)
    (λ t. let r = any_out {n = link_count w} t in linked_tabulate_in (link_count w) _ i j r.0 r.1 r.2)

pub plan_of_link : (w : List ℕ) (i j : ℕ) → linked (plan_of w).links i j ≡ has_link w i j
plan_of_link w i j = ap (λ (r : ℕ → ℕ → Bool). r i j) (plan_of_links w)

-- a link of the plan is a listed one
pub record Link (w : List ℕ) (i j : ℕ) : Type 0 where
  pub number : ℕ
  pub inside : number < link_count w
  pub source : link_source w number ≡ i
  pub target : link_target w number ≡ j

pub link_out : (w : List ℕ) (i j : ℕ) → So (has_link w i j) → Link w i j
unfolding has_link any_link
link_out w i j t =
    let r = any_out {n = link_count w} t in
    let c = and_out r.2 in
    record { number = r.0; inside = r.1; source = eqb-true (link_source w r.0) i c.0; target = eqb-true (link_target w r.0) j c.1 }

pub link_in : (w : List ℕ) (i j : ℕ) → Link w i j → So (has_link w i j)
unfolding has_link any_link
link_in w i j k =
    any_in (link_count w) _ k.number k.inside
    (and_in (eq-eqb (link_source w k.number) i k.source) (eq-eqb (link_target w k.number) j k.target))

-- some link of i leads to a position that passes
pub any_link_in : (w : List ℕ) (i j : ℕ) (q : ℕ → Bool) → So (has_link w i j) → So (q j) → So (any_link w i q)
unfolding any_link
any_link_in w i j q t b =
    let k = link_out w i j t in
    any_in (link_count w) _ k.number k.inside (and_in (eq-eqb (link_source w k.number) i k.source) (rw k.target b))

pub any_link_out : (w : List ℕ) (i : ℕ) (q : ℕ → Bool) → So (any_link w i q) → (j : ℕ) × So (has_link w i j) × So (q j)
unfolding any_link
any_link_out w i q t =
    let r = any_out {n = link_count w} t in
    let c = and_out r.2 in
    (link_target w r.0, link_in w i (link_target w r.0) (record { number = r.0; inside = r.1; source = eqb-true (link_source w r.0) i c.0; target = refl }), c.1)
