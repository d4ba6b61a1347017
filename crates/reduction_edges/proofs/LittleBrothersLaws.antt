-- Laws of little brothers: what is dropped because of one in the row after another, and that by the marks of the order and the row of a class's
-- quotient edges those edges are dropped that the reduced game drops.
use Rattle.std.specs.Prelude.{◌≡◌, Bool, cond, List, ℕ, ◌+◌, ◌-◌, ◌/◌, ◌%◌, ◌≤◌, ◌<◌, eqb, get_or}
use Rattle.std.proofs.Math.Path.{refl, sym, ap, ap₂}
use Rattle.std.proofs.Common.{◌∙◌, arith, eqb-true, eq-eqb}
use Rattle.std.proofs.Math.Bool.{true, false, not, So}
use Rattle.theory.specs.Logic.Bools.{◌&◌, ◌or◌}
use Rattle.theory.proofs.Logic.BoolsLaws.{So_ext, So_not, clash, eqb_flip, and_in, and_out, and_one, and_first, and_fails, and_assoc, and_true, or_false}
use Rattle.theory.specs.Logic.Range.{any_below, first}
use Rattle.theory.proofs.Logic.RangeLaws.{any_in, any_out, any_ext, any_more, any_append, first_ge, first_before}
use Rattle.theory.specs.Games.Game.{even, odd, Game}
use Rattle.theory.specs.Order.Order.{order}
use Rattle.theory.specs.Classes.Reduction.{is_lowest, no_better, quotient_edge, dropped, reduced_edge}
use Rattle.words.specs.WordLaws.{digit_zero}
use Rattle.words.specs.Words.{has}
use Rattle.marks.specs.Marks.{relation}
use Rattle.reduction_edges.specs.LittleBrothers.{below_other, beaten, drops, dropped_by}
use Rattle.reduction_edges.specs.Rows.{keeps}

-- ---- one in the row after another

pub any_skip : (a b : ℕ) (p : ℕ → Bool) → a ≤ b → ((i : ℕ) → a ≤ i → i < b → p i ≡ false) → any_below a p ≡ any_below b p
any_skip a b p l none =
    let e : b ≡ a + (b - a) = omega arith in
    sym (ap (λ (i : ℕ). any_below i p) e ∙ any_append a (b - a) p
    ∙ ap (λ c. any_below a p or c) (So_not (λ t. let r = any_out t in clash r.2 (none (a + r.0) (omega arith) (omega (arith, r.1))))) ∙ or_false _)

module _ (side : Bool) (n : ℕ) (marks row : List ℕ) where
  -- dropped because of those before d
  abbrev pub DroppedTo : ℕ → List ℕ → Type 0
  DroppedTo d words = (x : ℕ) → x < n → has words x ≡ any_below d (λ e. has row e & drops side n marks row e x)

  between : (a b x : ℕ) → ((i : ℕ) → a ≤ i → i < b → has row i ≡ false) → (i : ℕ) → a ≤ i → i < b → has row i & drops side n marks row i x ≡ false
  between a b x none i l m = and_first (drops side n marks row i x) (none i l m)

  pub dropped_start : (words : List ℕ) → ((x : ℕ) → has words x ≡ false) → DroppedTo (first (has row) 0 n) words
  unfolding any_below
  dropped_start words z x h = z x ∙ any_skip 0 (first (has row) 0 n) _ (omega arith) (between 0 _ x (λ i. first_before (has row) 0 n i))

  pub dropped_next : (d : ℕ) (words words' : List ℕ) → So (has row d) → DroppedTo d words
      → ((x : ℕ) → x < n → has words' x ≡ (has words x or drops side n marks row d x)) → DroppedTo (first (has row) (d + 1) n) words'
  dropped_next d words words' t p s x h =
      s x h ∙ ap₂ ◌or◌ (p x h) (sym (and_one (drops side n marks row d x) t)) ∙ sym (any_more d (λ e. has row e & drops side n marks row e x))
      ∙ any_skip (d + 1) (first (has row) (d + 1) n) _ (first_ge (has row) (d + 1) n) (between (d + 1) _ x (λ i. first_before (has row) (d + 1) n i))

  pub dropped_end : (d : ℕ) (words : List ℕ) → d ≡ n → DroppedTo d words → (x : ℕ) → x < n → has words x ≡ dropped_by side n marks row x
  unfolding dropped_by
  dropped_end d words e p x h = p x h ∙ ap (λ (i : ℕ). any_below i (λ e. has row e & drops side n marks row e x)) e

-- nothing is in zeros
pub nothing : (words : List ℕ) → ((i : ℕ) → get_or words i 0 ≡ 0) → (x : ℕ) → has words x ≡ false
unfolding has
nothing words z x = rw (z (x / 64)) (digit_zero (x % 64))

-- what one in the row drops: for Odd the others that it is below; for Even nothing, or itself
module _ (n : ℕ) (marks row : List ℕ) (d x : ℕ) where
  pub drops_odd : (side : Bool) → So (not side) → drops side n marks row d x ≡ has row x & below_other n marks d x
  unfolding drops
  drops_odd true t = clash t refl
  drops_odd false t = refl

  pub drops_none : (side b : Bool) → not side ≡ false → So (not b) → b ≡ beaten n marks row d → drops side n marks row d x ≡ false
  unfolding drops
  drops_none true true s t e = clash t refl
  drops_none true false s t e = rw (← e) (and_fails (eqb d x) false refl)
  drops_none false b s t e = clash refl s

  pub drops_self : (side b : Bool) → not side ≡ false → not b ≡ false → b ≡ beaten n marks row d → drops side n marks row d x ≡ eqb d x
  unfolding drops
  drops_self true true s t e = rw (← e) (and_true (eqb d x))
  drops_self true false s t e = clash refl t
  drops_self false b s t e = clash refl s

-- with `drop` alone something is dropped
pub drop_none : (drop b : Bool) → So (not drop) → false ≡ drop & b
drop_none true b t = clash t refl
drop_none false b t = sym (and_first b refl)

pub drop_some : (drop b : Bool) → not drop ≡ false → b ≡ drop & b
drop_some true b t = sym (and_one b refl)
drop_some false b t = clash refl t

-- ---- by the order and the quotient edges

-- for Even a member drops itself
dropped_even : (n : ℕ) (marks row : List ℕ) (x : ℕ) → x < n → So (has row x) → dropped_by true n marks row x ≡ beaten n marks row x
unfolding dropped_by drops
dropped_even n marks row x h t =
    So_ext
    (λ s. let r = any_out s in
    let c = and_out (and_out r.2).1 in
    rw (← eqb-true r.0 x c.0) c.1)
    (λ s. any_in n _ x h (and_in t (and_in (eq-eqb x x refl) s)))

shuffle : (a b c d : Bool) → (a & c) & (b & d) ≡ a & b & c & d
unfolding ◌&◌
shuffle true true c d = refl
shuffle true false true d = refl
shuffle true false false d = refl
shuffle false b c d = refl

module _ (G : Game) (marks row : List ℕ) (u : ℕ) (marked : (v w : ℕ) → v < G.n → w < G.n → relation G.n marks v w ≡ order G v w)
    (targets : (x : ℕ) → x < G.n → has row x ≡ is_lowest G.n (order G) x & quotient_edge G (order G) u x) where
  even_is : (x : ℕ) → x < G.n → beaten G.n marks row x
      ≡ any_below G.n (λ e. is_lowest G.n (order G) e & not (eqb e x) & quotient_edge G (order G) u e & order G x e)
  unfolding beaten below_other
  even_is x h = any_ext G.n _ _ (λ e l. rw (targets e l, marked x e h l) (shuffle (is_lowest G.n (order G) e) (not (eqb e x)) (quotient_edge G (order G) u e) (order G x e)))

  odd_is : (x : ℕ) → x < G.n → So (has row x) → dropped_by false G.n marks row x
      ≡ any_below G.n (λ e. is_lowest G.n (order G) e & not (eqb e x) & quotient_edge G (order G) u e & order G e x)
  unfolding dropped_by drops below_other
  odd_is x h t = any_ext G.n _ _ (λ e l.
      ap (λ (b : Bool). has row e & b) (and_one (not (eqb x e) & relation G.n marks e x) t)
      ∙ rw (targets e l, marked e x l h, eqb_flip x e) (shuffle (is_lowest G.n (order G) e) (not (eqb e x)) (quotient_edge G (order G) u e) (order G e x)))

  dropped_is : (side : Bool) (x : ℕ) → x < G.n → So (has row x) → G.owner u ≡ cond side even odd
      → dropped_by side G.n marks row x ≡ dropped G (order G) u x
  unfolding dropped no_better
  dropped_is true x h t o = rw o (dropped_even G.n marks row x h t ∙ even_is x h)
  dropped_is false x h t o = rw o (odd_is x h t)

  -- what is kept
  module _ (side : Bool) (owner : G.owner u ≡ cond side even odd) (words : List ℕ) where
    pub kept_all : ((x : ℕ) → x < G.n → has words x ≡ false & dropped_by side G.n marks row x) → (x : ℕ) → x < G.n
        → keeps row words x ≡ is_lowest G.n (order G) x & quotient_edge G (order G) u x
    unfolding keeps ◌&◌
    kept_all d x h = rw (d x h, and_true (has row x)) (targets x h)

    pub kept_best : ((x : ℕ) → x < G.n → has words x ≡ true & dropped_by side G.n marks row x) → (x : ℕ) → x < G.n
        → keeps row words x ≡ is_lowest G.n (order G) x & reduced_edge G (order G) u x
    unfolding keeps reduced_edge
    kept_best d x h = go (has row x) refl (targets x h)
      where
        go : (b : Bool) → has row x ≡ b → b ≡ is_lowest G.n (order G) x & quotient_edge G (order G) u x
            → has row x & not (has words x) ≡ is_lowest G.n (order G) x & (quotient_edge G (order G) u x & not (dropped G (order G) u x))
        go true t e =
            ap₂ (λ a b. a & not b) (t ∙ e) (d x h ∙ and_one _ refl ∙ dropped_is side x h t owner) ∙ and_assoc (is_lowest G.n (order G) x) _ _
        go false t e =
            rw t (and_first (not (has words x)) refl) ∙ sym (sym (and_assoc (is_lowest G.n (order G) x) (quotient_edge G (order G) u x) _) ∙ and_first _ (sym e))
