-- Every reduction whose edges are listed once each, by ascending source, has a certificate that is accepted: `reduction_words`. So some
-- certificate is accepted exactly if the classes are such a map; and every quotient by a governed bisimulation has one.
use Rattle.std.specs.Prelude.{◌≡◌, ◌⊎◌, ◌↔◌, ◌≢◌, Bool, true, false, cond, List, [], ℕ, ◌+◌, ◌-◌, ◌≤◌, ◌<◌, ltb, length, get_or}
use Rattle.std.proofs.Math.Path.{refl, sym, ap}
use Rattle.std.proofs.Common.{◌∙◌, inl, inr}
use native.Mathlib.Omega.{arith}
use Rattle.std.proofs.Math.Dec.{eqb}
use borrow.Author.Tests.{lt-ltb, le-ltb, eqb-true, eqb-false, eq-eqb}
use Rattle.theory.specs.Logic.Bools.{◌&◌}
use Rattle.theory.proofs.Logic.BoolsLaws.{and_in, and_out}
use Rattle.theory.proofs.Logic.RangeLaws.{first_found, first_before, first_le}
use Rattle.theory.proofs.Logic.ListLaws.{length_tabulate, get_d_tabulate}
use Rattle.theory.specs.Games.Game.{Succ}
use Rattle.theory.specs.Merges.Merged.{Single, Merged, Onto, GovernedQuotient}
use Rattle.theory.proofs.Merges.MergedLaws.{merged_agree, onto_agree}
use Rattle.theory.proofs.Merges.GovernedMergeLaws.{quotient_merged, quotient_onto}
use Rattle.table.specs.Table.{vertex_count, table_edges, owner_at, source_at, target_at, player_of, is_edge, Listed, game_of}
use Rattle.table.specs.TableLaws.{edge_out}
use Rattle.table.specs.Answers.{accepted}
use Rattle.large_table.specs.Reading.{LargeFormed}
use Rattle.large_table.specs.WordsLaws.{player_one}
use Rattle.large_images.specs.Images.{class_at, start_at, certificate_length}
use Rattle.large_images.specs.ImagesRules.{Inner, GoesOn, member_of, image_of, after_of, Member, Start, After, Certified}
use Rattle.large_reduction.specs.ReductionCall.{reduction_answer}
use Rattle.large_reduction.specs.ReductionRules.{Classed}
use Rattle.large_reduction.proofs.ReductionRulesLaws.{reduction_accepted, reduction_accepts}
use Rattle.large_reduction.proofs.ReductionLaws.{listed_succ, reduction_merged, reduction_onto, chain_merged, chain_onto}
use Rattle.large_merges.specs.Certificate.{Rowed, first_image, row_start, edge_to, lowest_member, reduction_word, reduction_words, chained_classes}

module _ (g r l : List ℕ) (gf : LargeFormed g) (rf : LargeFormed r) (rows : Rowed r) (x : Merged (game_of g) (game_of r) (class_at l)) where
  abbrev n : ℕ
  n = vertex_count g

  abbrev m : ℕ
  m = table_edges g

  abbrev k : ℕ
  k = vertex_count r

  abbrev q : ℕ
  q = table_edges r

  abbrev class : ℕ → ℕ
  class v = class_at l v

  abbrev image : ℕ → ℕ
  image j = first_image g r l j

  abbrev to : ℕ → ℕ → ℕ
  to v e = edge_to g r l v e

  abbrev row : ℕ → ℕ
  row v = row_start g r l (class v)

  pub classed : length l ≡ n → Classed g r l
  unfolding game_of
  classed words = record { words = words; inside = x.inside; priority = x.priority }

  -- ---- images

  forth' : (v w : ℕ) → v < n → Succ (game_of g) v w → (e : ℕ) × Listed r (class v) (class w) e
  unfolding game_of
  forth' v w h s = edge_out r (class v) (class w) (x.forth v w h s).along

  image_listed : (j : ℕ) → j < m → Listed r (class (source_at g j)) (class (target_at g j)) (image j)
  unfolding first_image is_edge
  image_listed j h =
      let v = source_at g j in
      let w = target_at g j in
      let (e, y) = forth' v w (gf.sources j h) (listed_succ g gf v w j (record { inside = h; source = refl; target = refl })) in
      let (i, t) = first_found (is_edge r (class v) (class w)) q e y.inside (and_in (eq-eqb _ _ y.source) (eq-eqb _ _ y.target)) in
      let p = and_out t in
      record { inside = i; source = eqb-true _ _ p.0; target = eqb-true _ _ p.1 }

  back' : (v d : ℕ) → v < n → Succ (game_of r) (class v) d → (j : ℕ) × (j < m) × (source_at g j ≡ v) × (class (target_at g j) ≡ d)
  unfolding game_of
  back' v d h s =
      let (w, t, e) = x.back v d h s in
      let (j, y) = edge_out g v w t.along in
      (j, y.inside, y.source, ap class y.target ∙ e)

  row_succ : (v e : ℕ) → e < q → source_at r e ≡ class v → Succ (game_of r) (class v) (target_at r e)
  row_succ v e h s = listed_succ r rf (class v) (target_at r e) e (record { inside = h; source = s; target = refl })

  -- v has an edge for each of its class's row
  answered : (v e : ℕ) → v < n → e < q → source_at r e ≡ class v → (to v e < m) × (source_at g (to v e) ≡ v) × (image (to v e) ≡ e)
  unfolding edge_to
  answered v e h a s =
      let (j, b, f, t) = back' v (target_at r e) h (row_succ v e a s) in
      let i = image_listed j b in
      let same : image j ≡ e = rows.once (image j) e i.inside a (i.source ∙ ap class f ∙ sym s) (i.target ∙ t) in
      let (y, p) = first_found (λ j. eqb (source_at g j) v & eqb (image j) e) m j b (and_in (eq-eqb _ _ f) (eq-eqb _ _ same)) in
      let z = and_out p in
      (y, eqb-true _ _ z.0, eqb-true _ _ z.1)

  -- ---- the row of v's class

  row_start_lem : (v : ℕ) → v < n → (row v < q) × (source_at r (row v) ≡ class v)
  unfolding row_start game_of
  row_start_lem v h =
      let (w, s) = x.total v h in
      let (e, y) = forth' v w h s in
      let (i, t) = first_found (λ e. eqb (source_at r e) (class v)) q e y.inside (eq-eqb _ _ y.source) in
      (i, eqb-true _ _ t)

  before_row : (v d : ℕ) → d < row v → eqb (source_at r d) (class v) ≡ false
  unfolding row_start
  before_row v d a = first_before (λ e. eqb (source_at r e) (class v)) 0 q d (omega arith) a

  starts_row : (v : ℕ) → v < n → ¬ Inner r (row v)
  starts_row v h i = let b = i.before in eqb-false (source_at r (row v - 1)) (class v) (before_row v (row v - 1) (omega arith)) (i.same ∙ (row_start_lem v h).1)

  -- a class of another owner has a row of one edge
  one_edge : (v e : ℕ) → v < n → e < q → source_at r e ≡ class v → owner_at g v ≢ owner_at r (class v) → ¬ GoesOn r e
  unfolding game_of
  one_edge v e h a s d goes = go (x.owner v h)
    where
      go : (player_of (owner_at g v) ≡ player_of (owner_at r (class v))) ⊎ Single (game_of r) (class v) → ⊥
      go (inl o) = d (player_one (owner_at g v) (owner_at r (class v)) (gf.owners v h) (rf.owners (class v) (x.inside v h)) o)
      go (inr o) =
          let b = goes.inside in
          let t = o (target_at r (e + 1)) (target_at r e) (row_succ v (e + 1) b (goes.same ∙ s)) (row_succ v e a s) in
          omega (arith, rows.once (e + 1) e b a goes.same t)

  -- ---- the words

  abbrev c : List ℕ
  c = reduction_words g r l

  start_word : (v : ℕ) → v < n → start_at c v ≡ to v (row v)
  unfolding reduction_words reduction_word
  start_word v h = get_d_tabulate (certificate_length g r) (reduction_word g r l) 0 v (omega arith) ∙ rw (lt-ltb v n h)

  member_word : (d : ℕ) → d < k → member_of g c d ≡ lowest_member g r l d
  unfolding reduction_words reduction_word
  member_word d h =
      let e : n + d - n ≡ d = omega arith in
      get_d_tabulate (certificate_length g r) (reduction_word g r l) 0 (n + d) (omega arith)
      ∙ rw (le-ltb (n + d) n (omega arith), lt-ltb (n + d) (n + k) (omega arith), e)

  image_word : (j : ℕ) → j < m → image_of g r c j ≡ image j
  unfolding reduction_words reduction_word
  image_word j h =
      let e : n + k + j - (n + k) ≡ j = omega arith in
      get_d_tabulate (certificate_length g r) (reduction_word g r l) 0 (n + k + j) (omega arith)
      ∙ rw (le-ltb (n + k + j) n (omega arith), le-ltb (n + k + j) (n + k) (omega arith), lt-ltb (n + k + j) (n + k + m) (omega arith), e)

  after_word : (j : ℕ) → j < m → after_of g r c j ≡ to (source_at g j) (image j + 1)
  unfolding reduction_words reduction_word
  after_word j h =
      let e : n + k + m + j - (n + k + m) ≡ j = omega arith in
      get_d_tabulate (certificate_length g r) (reduction_word g r l) 0 (n + k + m + j) (omega arith)
      ∙ rw (le-ltb (n + k + m + j) n (omega arith), le-ltb (n + k + m + j) (n + k) (omega arith), le-ltb (n + k + m + j) (n + k + m) (omega arith), e)

  -- ---- they pass

  start_image : (v : ℕ) → v < n → image_of g r c (start_at c v) ≡ row v
  start_image v h =
      let s = row_start_lem v h in
      let a = answered v (row v) h s.0 s.1 in
      ap (image_of g r c) (start_word v h) ∙ image_word (to v (row v)) a.0 ∙ a.2

  start_passes : (v : ℕ) → v < n → Start g r c v
  start_passes v h =
      let s = row_start_lem v h in
      let a = answered v (row v) h s.0 s.1 in
      let e = start_word v h in
      record { inside = rw e a.0; source = rw e a.1; outer = rw (start_image v h) (starts_row v h) }

  after_passes : (j : ℕ) → j < m → GoesOn r (image_of g r c j) → After g r c j
  after_passes j h goes =
      let v = source_at g j in
      let y = rw (image_word j h) at goes in
      let a = answered v (image j + 1) (gf.sources j h) y.inside (y.same ∙ (image_listed j h).source) in
      let e = after_word j h in
      record {
        inside = rw e a.0;
        source = rw e a.1;
        next = ap (image_of g r c) e ∙ image_word (to v (image j + 1)) a.0 ∙ a.2 ∙ ap (λ (i : ℕ). i + 1) (sym (image_word j h));
      }

  member_passes : Onto (game_of g) (game_of r) (class_at l) → (d : ℕ) → d < k → Member g l c d
  unfolding lowest_member game_of
  member_passes onto d h =
      let (v, hv, e) = onto d h in
      let f = first_found (λ v. eqb (class v) d) n v hv (eq-eqb _ _ e) in
      let w = member_word d h in
      record { inside = rw w f.0; class = rw w (eqb-true _ _ f.1) }

  length_words : length c ≡ certificate_length g r
  unfolding reduction_words
  length_words = length_tabulate (certificate_length g r) (reduction_word g r l)

  pub words_certify : Onto (game_of g) (game_of r) (class_at l) → Certified g r l c
  words_certify onto = record {
    words = length_words;
    member = member_passes onto;
    image = λ j h. rw (image_word j h) (image_listed j h);
    start = start_passes;
    owner = λ v h s. let t = row_start_lem v h in one_edge v (row v) h t.0 t.1 s.owner (rw (start_image v h) at s.second);
    after = after_passes;
  }

-- ---- accepted

module _ (g r l : List ℕ) (gf : LargeFormed g) (rf : LargeFormed r) (rows : Rowed r) (words : length l ≡ vertex_count g) where
  pub merged_accepted : Merged (game_of g) (game_of r) (class_at l) → Onto (game_of g) (game_of r) (class_at l)
      → reduction_answer g r l (reduction_words g r l) ≡ accepted []
  merged_accepted m onto = reduction_accepts g r l (reduction_words g r l) (record {
    game = gf;
    reduced = rf;
    ascending = rows.ascending;
    classed = classed g r l gf rf rows m words;
    certified = words_certify g r l gf rf rows m onto;
  })

  -- some certificate is accepted exactly if the classes are such a map
  pub reduction_exactly : ((c : List ℕ) × (reduction_answer g r l c ≡ accepted []))
      ↔ (Merged (game_of g) (game_of r) (class_at l) × Onto (game_of g) (game_of r) (class_at l))
  reduction_exactly = (
    λ (c, a). (reduction_merged g r l c [] a, reduction_onto g r l c [] a),
    λ (m, onto). (reduction_words g r l, merged_accepted m onto),
  )

  -- and every quotient by a governed bisimulation has one
  pub quotient_accepted : GovernedQuotient (game_of g) (game_of r) (class_at l) → reduction_answer g r l (reduction_words g r l) ≡ accepted []
  quotient_accepted x = merged_accepted (quotient_merged x) (quotient_onto x)

-- ---- two reductions in a row are one

chained : (g l l' : List ℕ) (v : ℕ) → v < (game_of g).n → class_at l' (class_at l v) ≡ class_at (chained_classes g l l') v
unfolding chained_classes game_of
chained g l l' v h = sym (get_d_tabulate (vertex_count g) (λ v. class_at l' (class_at l v)) 0 v h)

length_chained : (g l l' : List ℕ) → length (chained_classes g l l') ≡ vertex_count g
unfolding chained_classes
length_chained g l l' = length_tabulate (vertex_count g) (λ v. class_at l' (class_at l v))

pub chain_accepted : (g r l c counts : List ℕ) → reduction_answer g r l c ≡ accepted counts
    → (r' l' c' counts' : List ℕ) → reduction_answer r r' l' c' ≡ accepted counts' → Rowed r'
    → let l'' = chained_classes g l l' in reduction_answer g r' l'' (reduction_words g r' l'') ≡ accepted []
chain_accepted g r l c counts a r' l' c' counts' b rows =
    let merged = chain_merged g r l c counts a r' l' c' counts' b in
    merged_accepted g r' (chained_classes g l l') (reduction_accepted g r l c counts a).game (reduction_accepted r r' l' c' counts' b).reduced rows
    (length_chained g l l') (merged_agree merged (chained g l l'))
    (onto_agree merged (chained g l l') (chain_onto g r l c counts a r' l' c' counts' b))

-- ---- the words are no larger than the tables' sizes

cond_le : (t : Bool) (x y b : ℕ) → x ≤ b → y ≤ b → cond t x y ≤ b
cond_le true x y b h k = h
cond_le false x y b h k = k

module _ (g r l : List ℕ) where
  edge_le : (v e : ℕ) → edge_to g r l v e ≤ table_edges g
  unfolding edge_to
  edge_le v e = first_le (λ j. eqb (source_at g j) v & eqb (first_image g r l j) e) 0 (table_edges g) (omega arith)

  member_le : (d : ℕ) → lowest_member g r l d ≤ vertex_count g
  unfolding lowest_member
  member_le d = first_le (λ v. eqb (class_at l v) d) 0 (vertex_count g) (omega arith)

  image_le : (j : ℕ) → first_image g r l j ≤ table_edges r
  unfolding first_image
  image_le j = first_le (is_edge r (class_at l (source_at g j)) (class_at l (target_at g j))) 0 (table_edges r) (omega arith)

  word_le : (b : ℕ) → vertex_count g ≤ b → table_edges g ≤ b → table_edges r ≤ b → (i : ℕ) → reduction_word g r l i ≤ b
  unfolding reduction_word
  word_le b hn hm hq i =
      let k = vertex_count g + vertex_count r in
      let j = i - (k + table_edges g) in
      cond_le (ltb i (vertex_count g)) _ _ b (omega (arith, edge_le i (row_start g r l (class_at l i))))
      (cond_le (ltb i k) _ _ b (omega (arith, member_le (i - vertex_count g)))
      (cond_le (ltb i (k + table_edges g)) _ _ b (omega (arith, image_le (i - k))) (omega (arith, edge_le (source_at g j) (first_image g r l j + 1)))))

  -- so where 32 bits hold the sizes, they hold each word
  pub words_fit_lem : (b : ℕ) → vertex_count g ≤ b → table_edges g ≤ b → table_edges r ≤ b
      → (i : ℕ) → i < certificate_length g r → get_or (reduction_words g r l) i 0 ≤ b
  unfolding reduction_words
  words_fit_lem b hn hm hq i h = rw (get_d_tabulate (certificate_length g r) (reduction_word g r l) 0 i h) (word_le b hn hm hq i)
