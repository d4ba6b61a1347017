-- The certificate's computed rows say what its table says, and they are clean exactly if the certificate passes in terms of logic.
use Rattle.std.specs.Prelude.{◌≡◌, ◌↔◌, Bool, false, not, List, ℕ, ◌+◌, ◌-◌, ◌*◌, eqb, length, get_or}
use Rattle.std.proofs.Common.{ap, inl, inr}
use Rattle.std.proofs.Math.Bool.{So}
use native.Mathlib.Omega.{arith}
use borrow.Author.Tests.{ltb-true, lt-ltb, eqb-true, eq-eqb, leb-false, lt-leb, not-false}
use Rattle.theory.proofs.Logic.BoolsLaws.{decide, clash, So_not, and_in, and_out, or_fails}
use Rattle.theory.proofs.Logic.RangeLaws.{none_found, found_none}
use Rattle.table.specs.Table.{vertex_count, table_edges, source_at}
use Rattle.table.specs.Answers.{Clean}
use Rattle.table.specs.ReadingLaws.{differs}
use Rattle.table.specs.Rules.{Rendered, none, next}
use Rattle.table.specs.RulesLaws.{renders_placed, renders_first}
use Rattle.large_images.specs.Images.{start_at, is_inner, goes_on, member_strays, image_strays, start_strays, owner_strays, lacks_after, after_strays, certificate_length, first_empty, first_image, first_start, first_owner, first_after, image_rows}
use Rattle.large_images.specs.ImagesRules.{Inner, GoesOn, member_of, image_of, after_of, Member, Image, Start, Strange, After, Breaks, image_rules, Certified}

-- ---- a test and what it says

-- a test that is clear exactly if P holds says that P doesn't
pub says_not : {t : Bool} {P : Type 0} → (t ≡ false) ↔ P → So t ↔ (¬ P)
says_not {t} clear = (λ h p. clash h (clear.1 p), λ d. elim (decide t) [ inl h ↦ h | inr f ↦ absurd (d (clear.0 f)) ])

equals : {a b : ℕ} → not (eqb a b) ≡ false → a ≡ b
equals {a} {b} f = eqb-true a b (not-false _ f)

equal : {a b : ℕ} → a ≡ b → not (eqb a b) ≡ false
equal {a} {b} e = ap not (eq-eqb a b e)

module _ (g r l c : List ℕ) where
  abbrev n : ℕ
  n = vertex_count g

  abbrev m : ℕ
  m = table_edges g

  abbrev k : ℕ
  k = vertex_count r

  abbrev q : ℕ
  q = table_edges r

  pub inner_says : (e : ℕ) → So (is_inner r k e) ↔ Inner r e
  unfolding is_inner
  inner_says e = (
    λ t. let x = and_out t in
        let b = ltb-true 0 e x.0 in
        let z : 1 + 2 * k + e ≡ 2 + 2 * k + (e - 1) = omega arith in
        record { before = b; same = rw z at (eqb-true (get_or r (1 + 2 * k + e) 0) (source_at r e) x.1) },
    λ i. let b = i.before in
        let z : 1 + 2 * k + e ≡ 2 + 2 * k + (e - 1) = omega arith in
        and_in (lt-ltb 0 e b) (rw z (eq-eqb _ _ i.same)),
  )

  pub goes_says : (e : ℕ) → So (goes_on r k q e) ↔ GoesOn r e
  unfolding goes_on
  goes_says e =
      let z : 3 + 2 * k + e ≡ 2 + 2 * k + (e + 1) = omega arith in (
        λ t. let x = and_out t in record { inside = ltb-true (e + 1) q x.0; same = rw z at (eqb-true (get_or r (3 + 2 * k + e) 0) (source_at r e) x.1) },
        λ i. and_in (lt-ltb (e + 1) q i.inside) (rw z (eq-eqb _ _ i.same)),
      )

  member_clear : (d : ℕ) → (member_strays l c n d ≡ false) ↔ Member g l c d
  unfolding member_strays
  member_clear d = (
    λ f. let x = (or_fails _ _).0 f in record { inside = leb-false n (member_of g c d) x.0; class = equals x.1 },
    λ p. (or_fails _ _).1 (lt-leb n (member_of g c d) p.inside, equal p.class),
  )

  image_clear : (j : ℕ) → (image_strays g r l c n m k q j ≡ false) ↔ Image g r l c j
  unfolding image_strays
  image_clear j = (
    λ f. let x = (or_fails _ _).0 f in
        let y = (or_fails _ _).0 x.1 in
        record { inside = leb-false q (image_of g r c j) x.0; source = equals y.0; target = equals y.1 },
    λ p. (or_fails _ _).1 (lt-leb q (image_of g r c j) p.inside, (or_fails _ _).1 (equal p.source, equal p.target)),
  )

  start_clear : (v : ℕ) → (start_strays g r c n m k v ≡ false) ↔ Start g r c v
  unfolding start_strays
  start_clear v = (
    λ f. let x = (or_fails _ _).0 f in
        let y = (or_fails _ _).0 x.1 in
        record { inside = leb-false m (start_at c v) x.0; source = equals y.0; outer = λ i. clash ((inner_says _).1 i) y.1 },
    λ p. (or_fails _ _).1 (lt-leb m (start_at c v) p.inside, (or_fails _ _).1 (equal p.source, So_not (λ t. p.outer ((inner_says _).0 t)))),
  )

  owner_says : (v : ℕ) → So (owner_strays g r l c n k q v) ↔ Strange g r l c v
  unfolding owner_strays
  owner_says v = (
    λ t. let x = and_out t in record { owner = (differs _ _).0 x.0; second = (goes_says _).0 x.1 },
    λ s. and_in ((differs _ _).1 s.owner) ((goes_says _).1 s.second),
  )

  after_clear : (j : ℕ) → (lacks_after g c n m k j ≡ false) ↔ After g r c j
  unfolding lacks_after
  after_clear j = (
    λ f. let x = (or_fails _ _).0 f in
        let y = (or_fails _ _).0 x.1 in
        record { inside = leb-false m (after_of g r c j) x.0; source = equals y.0; next = equals y.1 },
    λ p. (or_fails _ _).1 (lt-leb m (after_of g r c j) p.inside, (or_fails _ _).1 (equal p.source, equal p.next)),
  )

  after_says : (j : ℕ) → So (after_strays g r c n m k q j) ↔ Breaks g r c j
  unfolding after_strays
  after_says j = (
    λ t. let x = and_out t in record { goes = (goes_says _).0 x.0; lacks = (says_not (after_clear j)).0 x.1 },
    λ b. and_in ((goes_says _).1 b.goes) ((says_not (after_clear j)).1 b.lacks),
  )

  -- ---- the table

  pub image_rows_render : Rendered (image_rows g r l c) (image_rules g r l c)
  unfolding image_rows first_empty first_image first_start first_owner first_after
  image_rows_render =
      next (renders_placed 101 (length c) _ _ (differs (length c) (certificate_length g r)))
      (next (renders_first 102 _ (λ d. ¬ Member g l c d) 0 k (λ d. d) (omega arith) (λ d. says_not (member_clear d)))
      (next (renders_first 103 _ (λ j. ¬ Image g r l c j) 0 m (λ j. j) (omega arith) (λ j. says_not (image_clear j)))
      (next (renders_first 104 _ (λ v. ¬ Start g r c v) 0 n (λ v. v) (omega arith) (λ v. says_not (start_clear v)))
      (next (renders_first 105 _ (Strange g r l c) 0 n (λ v. v) (omega arith) owner_says)
      (next (renders_first 106 _ (Breaks g r c) 0 m (λ j. j) (omega arith) after_says)
      none)))))

  -- ---- clean exactly if it passes

  pub clean_certified : Clean (image_rows g r l c) → Certified g r l c
  unfolding image_rows first_empty first_image first_start first_owner first_after
  clean_certified (c₁, (c₂, (c₃, (c₄, (c₅, (c₆, _)))))) = record {
    words = equals c₁;
    member = λ d h. (member_clear d).0 (none_found _ k c₂ d h);
    image = λ j h. (image_clear j).0 (none_found _ m c₃ j h);
    start = λ v h. (start_clear v).0 (none_found _ n c₄ v h);
    owner = λ v h s. clash ((owner_says v).1 s) (none_found _ n c₅ v h);
    after = λ j h t. (after_clear j).0 (So_not (λ s. clash ((after_says j).1 (record { goes = t; lacks = (says_not (after_clear j)).0 s })) (none_found _ m c₆ j h)));
  }

  pub certified_clean : Certified g r l c → Clean (image_rows g r l c)
  unfolding image_rows first_empty first_image first_start first_owner first_after
  certified_clean x = (
    equal x.words,
    (
      found_none _ k (λ d h. (member_clear d).1 (x.member d h)),
      (
        found_none _ m (λ j h. (image_clear j).1 (x.image j h)),
        (
          found_none _ n (λ v h. (start_clear v).1 (x.start v h)),
          (
            found_none _ n (λ v h. So_not (λ t. x.owner v h ((owner_says v).0 t))),
            (found_none _ m (λ j h. So_not (λ t. let b = (after_says j).0 t in b.lacks (x.after j h b.goes))), tt),
          ),
        ),
      ),
    ),
  )
