-- How two of the tests end early, and what the searches leave for the calls that follow them, where they find nothing.
use Rattle.std.specs.Prelude.{◌≡◌, ◌≢◌, false, List, ℕ, ◌+◌, ◌≤◌, ◌<◌, eqb, ltb}
use Rattle.std.proofs.Common.{ap, ◌∙◌, le-ltb, le-leb, leb-false, eq-eqb, ne_eqb}
use Rattle.std.proofs.Math.Bool.{not, So}
use Rattle.std.proofs.lemmas.Bool.{lt-leb}
use Rattle.theory.proofs.Logic.BoolsLaws.{not_in, and_first, or_left, or_right, or_first, or_fails}
use Rattle.theory.specs.Logic.Range.{first}
use Rattle.theory.proofs.Logic.RangeLaws.{none_found}
use Rattle.large_table.specs.Words.{source_of}
use Rattle.large_images.specs.Images.{start_at, image_at, after_at, goes_on, image_strays, start_strays, lacks_after, Images, Starts}

-- ---- tests

-- the last edge of all ends its row
pub goes_ends : (r : List ℕ) (k q e : ℕ) → q ≤ e + 1 → goes_on r k q e ≡ false
unfolding goes_on
goes_ends r k q e h = and_first _ (le-ltb (e + 1) q h)

module _ (g c : List ℕ) (n m k j : ℕ) where
  -- the edge after j is none, or of another source, or its image decides
  pub after_beyond : m ≤ after_at c n k m j → So (lacks_after g c n m k j)
  unfolding lacks_after
  after_beyond h = or_left _ (le-leb m (after_at c n k m j) h)

  pub after_other : source_of g n (after_at c n k m j) ≢ source_of g n j → So (lacks_after g c n m k j)
  unfolding lacks_after
  after_other d = or_right _ (or_left _ (not_in (ne_eqb _ _ d)))

  pub after_by_image : after_at c n k m j < m → source_of g n (after_at c n k m j) ≡ source_of g n j
      → lacks_after g c n m k j ≡ not (eqb (image_at c n k (after_at c n k m j)) (image_at c n k j + 1))
  unfolding lacks_after
  after_by_image h e = or_first _ (lt-leb m (after_at c n k m j) h) ∙ or_first _ (ap not (eq-eqb _ _ e))

-- ---- searches

pub images_by : (g r l c : List ℕ) (n m k q : ℕ) → ltb (first (image_strays g r l c n m k q) 0 m) m ≡ false → Images c n k m q
unfolding image_strays
images_by g r l c n m k q f = record { inside = λ j h. leb-false q (image_at c n k j) ((or_fails _ _).0 (none_found _ m f j h)).0 }

pub starts_by : (g r c : List ℕ) (n m k : ℕ) → ltb (first (start_strays g r c n m k) 0 n) n ≡ false → Starts c n m
unfolding start_strays
starts_by g r c n m k f = record { inside = λ v h. leb-false m (start_at c v) ((or_fails _ _).0 (none_found _ n f v h)).0 }
