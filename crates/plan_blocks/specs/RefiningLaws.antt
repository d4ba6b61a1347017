-- What the tests say in terms of links.
use Rattle.std.specs.Prelude.{◌≡◌, refl, false, not, List, ℕ, ◌+◌, ◌%◌, ◌≤◌, ◌<◌, leb, length, set}
use Rattle.std.proofs.Math.Path.{ap}
use Rattle.std.proofs.Common.{◌∙◌, arith}
use Rattle.std.proofs.Math.Logic.{inl, inr}
use Rattle.std.proofs.Math.Bool.{So}
use Rattle.std.proofs.Math.Decide.{ℕ_discrete, dec_le}
use Rattle.std.proofs.Math.ListN.{get_or}
use borrow.Author.Tests.{eqb-true, eq-eqb, ne_eqb, leb-true, le-leb, lt-leb}
use Rattle.theory.specs.Logic.Bools.{◌&◌, ◌or◌}
use Rattle.theory.proofs.Logic.BoolsLaws.{clash, and_in, and_out, or_left, or_out, not_out}
use Rattle.theory.proofs.Logic.RangeLaws.{from_in, from_out}
use Rattle.theory.proofs.Logic.ListLaws.{after_set}
use Rattle.index.specs.Index.{among}
use Rattle.plan_blocks.specs.Blocks.{gone, link_by, Confined}
use Rattle.plan_blocks.specs.BlocksLaws.{confined_split, confined_stuck, confined_lowest}
use Rattle.plan_blocks.specs.Refining.{numbered, leads_to, fits, taken, Taken, lowest, leaves, Bounded}

-- ---- the tests by their cases

module _ (blocks numbers : List ℕ) (b least w : ℕ) where
  pub numbered_elsewhere : (get_or blocks w 0 ≡ b → ⊥) → numbered blocks numbers b least w ≡ false
  unfolding numbered ◌&◌
  numbered_elsewhere d = rw (ne_eqb (get_or blocks w 0) b d)

  pub numbered_here : get_or blocks w 0 ≡ b → numbered blocks numbers b least w ≡ leb least (get_or numbers w 0)
  unfolding numbered ◌&◌
  numbered_here e = rw (eq-eqb (get_or blocks w 0) b e)

module _ (starts targets priorities blocks numbers leasts : List ℕ) (u : ℕ) where
  pub fits_gone : get_or blocks u 0 ≡ gone → So (fits starts targets priorities blocks numbers leasts u)
  unfolding fits
  fits_gone e = or_left _ (eq-eqb (get_or blocks u 0) gone e)

  module _ (live : get_or blocks u 0 ≡ gone → ⊥) where
    pub fits_unnumbered : get_or numbers u 0 ≡ gone → fits starts targets priorities blocks numbers leasts u ≡ false
    unfolding fits ◌or◌ ◌&◌
    fits_unnumbered e = rw (ne_eqb (get_or blocks u 0) gone live, eq-eqb (get_or numbers u 0) gone e)

    module _ (number : get_or numbers u 0 ≡ gone → ⊥) where
      pub fits_below : get_or priorities u 0 < get_or leasts (get_or numbers u 0) 0 → fits starts targets priorities blocks numbers leasts u ≡ false
      unfolding fits ◌or◌ ◌&◌
      fits_below h = rw (ne_eqb (get_or blocks u 0) gone live, ne_eqb (get_or numbers u 0) gone number, lt-leb (get_or leasts (get_or numbers u 0) 0) (get_or priorities u 0) h)

      pub fits_links : get_or leasts (get_or numbers u 0) 0 ≤ get_or priorities u 0
          → fits starts targets priorities blocks numbers leasts u ≡ not (leads_to starts targets blocks numbers u (get_or numbers u 0 + 1))
      unfolding fits ◌or◌ ◌&◌
      fits_links h = rw (ne_eqb (get_or blocks u 0) gone live, ne_eqb (get_or numbers u 0) gone number, le-leb (get_or leasts (get_or numbers u 0) 0) (get_or priorities u 0) h)

pub taken_gone : (b n : ℕ) → b ≡ gone → taken b n ≡ gone
unfolding taken
taken_gone b n e = rw (eq-eqb b gone e)

pub taken_live : (b n : ℕ) → (b ≡ gone → ⊥) → taken b n ≡ n
unfolding taken
taken_live b n d = rw (ne_eqb b gone d)

module _ (priorities blocks leasts : List ℕ) (player v : ℕ) where
  pub lowest_wrong : (get_or priorities v 0 % 2 ≡ player → ⊥) → lowest priorities blocks leasts player v ≡ false
  unfolding lowest ◌&◌
  lowest_wrong d = rw (ne_eqb (get_or priorities v 0 % 2) player d)

  pub lowest_right : get_or priorities v 0 % 2 ≡ player → lowest priorities blocks leasts player v ≡ leb (get_or priorities v 0) (get_or leasts (get_or blocks v 0) 0)
  unfolding lowest ◌&◌
  lowest_right e = rw (eq-eqb (get_or priorities v 0 % 2) player e)

  module _ (starts targets : List ℕ) where
    pub leaves_lowest : So (lowest priorities blocks leasts player v) → So (leaves starts targets priorities blocks leasts player v)
    unfolding leaves
    leaves_lowest t = or_left _ t

    pub leaves_links : lowest priorities blocks leasts player v ≡ false
        → leaves starts targets priorities blocks leasts player v ≡ not (leads_to starts targets blocks blocks v 0)
    unfolding leaves ◌or◌
    leaves_links e = rw e

-- ---- in terms of links

module _ (starts targets blocks numbers : List ℕ) (u least : ℕ) where
  -- a link to a position of the block that has such a number
  pub leads_link : leads_to starts targets blocks numbers u least ≡ false → (w : ℕ) → So (link_by starts targets u w) → get_or blocks w 0 ≡ get_or blocks u 0
      → least ≤ get_or numbers w 0 → ⊥
  unfolding leads_to link_by among numbered
  leads_link e w l b h =
      let t = from_out l in
      let here : get_or targets t.at 0 ≡ w = eqb-true _ w t.passes in
      clash (from_in (get_or starts u 0) (get_or starts (u + 1) 0) _ t.at t.low t.high (rw here (and_in (eq-eqb (get_or blocks w 0) (get_or blocks u 0) b) (le-leb least (get_or numbers w 0) h)))) e

module _ (starts targets priorities blocks numbers leasts : List ℕ) (u : ℕ) (t : So (fits starts targets priorities blocks numbers leasts u)) (live : get_or blocks u 0 ≡ gone → ⊥) where
  pub record Fit : Type 0 where
    pub number : get_or numbers u 0 ≡ gone → ⊥
    pub bound : get_or leasts (get_or numbers u 0) 0 ≤ get_or priorities u 0
    pub fall : (w : ℕ) → So (link_by starts targets u w) → get_or blocks w 0 ≡ get_or blocks u 0 → get_or numbers w 0 ≤ get_or numbers u 0

  pub fits_out : Fit
  unfolding fits
  fits_out = elim (or_out t) [
    | inl e ↦ absurd (live (eqb-true _ gone e))
    | inr r ↦ (
        let a = and_out r in
        let b = and_out a.0 in
        record {
          number = λ e. clash (eq-eqb (get_or numbers u 0) gone e) (not_out b.0);
          bound = leb-true _ _ b.1;
          fall = λ w l e. elim (dec_le (get_or numbers w 0) (get_or numbers u 0)) [
            | yes h ↦ h
            | no h ↦ absurd (leads_link starts targets blocks numbers u (get_or numbers u 0 + 1) (not_out a.1) w l e (omega arith))
          ];
        })
  ]

-- numbers that fit split the blocks
module _ (p player : ℕ) (starts targets priorities blocks numbers leasts blocks' : List ℕ) (f : (u : ℕ) → u < p → So (fits starts targets priorities blocks numbers leasts u)) (new : Taken p blocks numbers blocks') where
  pub split_confined : Confined p player (link_by starts targets) priorities blocks → Confined p player (link_by starts targets) priorities blocks'
  split_confined c =
      confined_split p player (link_by starts targets) priorities blocks c numbers
      (λ u v h live l e. (fits_out starts targets priorities blocks numbers leasts u (f u h) live).fall v l e)
      blocks' (λ u h live. (new.at u h ∙ taken_live _ _ live, (fits_out starts targets priorities blocks numbers leasts u (f u h) live).number))

  pub split_bounded : Bounded p priorities blocks' leasts
  split_bounded = record {
    at = λ j h live. elim (ℕ_discrete (get_or blocks j 0) gone) [
      | yes e ↦ absurd (live (new.at j h ∙ taken_gone _ _ e))
      | no d ↦ rw (new.at j h ∙ taken_live _ _ d) (fits_out starts targets priorities blocks numbers leasts j (f j h) d).bound
    ];
  }

-- a position that leaves
module _ (p player : ℕ) (starts targets priorities blocks leasts : List ℕ) (c : Confined p player (link_by starts targets) priorities blocks) (bound : Bounded p priorities blocks leasts) where
  pub leaves_confined : (v : ℕ) → So (leaves starts targets priorities blocks leasts player v) → Confined p player (link_by starts targets) priorities (set blocks v gone)
  unfolding leaves lowest
  leaves_confined v t = elim (or_out t) [
    | inl r ↦ (
        let a = and_out r in
        confined_lowest p player (link_by starts targets) priorities blocks c v (eqb-true _ player a.0)
        (λ j h live e. omega (arith, bound.at j h live, leb-true (get_or priorities v 0) (get_or leasts (get_or blocks v 0) 0) a.1, ap (λ (b : ℕ). get_or leasts b 0) e)))
    | inr n ↦ confined_stuck p player (link_by starts targets) priorities blocks c v (λ w l e. leads_link starts targets blocks blocks v 0 (not_out n) w l e (omega arith))
  ]

  pub leaves_bounded : (v : ℕ) → v < length blocks → Bounded p priorities (set blocks v gone) leasts
  leaves_bounded v h = record {
    at = after_set (λ (j b : ℕ). j < p → (b ≡ gone → ⊥) → get_or leasts b 0 ≤ get_or priorities j 0) blocks v gone h (λ l live. absurd (live refl)) (λ j d. bound.at j);
  }
