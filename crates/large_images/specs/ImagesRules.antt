-- The certificate's table of refusals in terms of logic, 101 to 106 each with its condition and its place, and what passes it.
use Rattle.std.specs.Prelude.{◌≡◌, ◌≢◌, List, [], ◌∷◌, ℕ, ◌+◌, ◌-◌, ◌<◌, length}
use Rattle.table.specs.Table.{vertex_count, table_edges, owner_at, source_at, target_at, Listed}
use Rattle.table.specs.Rules.{Rule, placed, first_such}
use Rattle.large_images.specs.Images.{class_at, start_at, member_at, image_at, after_at, certificate_length}

-- ---- rows of the reduced game

-- the edge before e has e's source
pub record Inner (r : List ℕ) (e : ℕ) : Type 0 where
  pub before : 0 < e
  pub same : source_at r (e - 1) ≡ source_at r e

-- the edge after e has e's source
pub record GoesOn (r : List ℕ) (e : ℕ) : Type 0 where
  pub inside : e + 1 < table_edges r
  pub same : source_at r (e + 1) ≡ source_at r e

-- ---- the words of a certificate

abbrev pub member_of : List ℕ → List ℕ → ℕ → ℕ
member_of g c d = member_at c (vertex_count g) d

abbrev pub image_of : List ℕ → List ℕ → List ℕ → ℕ → ℕ
image_of g r c j = image_at c (vertex_count g) (vertex_count r) j

abbrev pub after_of : List ℕ → List ℕ → List ℕ → ℕ → ℕ
after_of g r c j = after_at c (vertex_count g) (vertex_count r) (table_edges g) j

-- class d names a member
pub record Member (g l c : List ℕ) (d : ℕ) : Type 0 where
  pub inside : member_of g c d < vertex_count g
  pub class : class_at l (member_of g c d) ≡ d

-- the image of j is an edge between the classes of its ends
abbrev pub Image : List ℕ → List ℕ → List ℕ → List ℕ → ℕ → Type 0
Image g r l c j = Listed r (class_at l (source_at g j)) (class_at l (target_at g j)) (image_of g r c j)

-- the start of v is an edge of v, whose image is the first of its row
pub record Start (g r c : List ℕ) (v : ℕ) : Type 0 where
  pub inside : start_at c v < table_edges g
  pub source : source_at g (start_at c v) ≡ v
  pub outer : ¬ Inner r (image_of g r c (start_at c v))

-- v has another owner than its class, whose row has a second edge
pub record Strange (g r l c : List ℕ) (v : ℕ) : Type 0 where
  pub owner : owner_at g v ≢ owner_at r (class_at l v)
  pub second : GoesOn r (image_of g r c (start_at c v))

-- the edge after j has j's source, and the next image
pub record After (g r c : List ℕ) (j : ℕ) : Type 0 where
  pub inside : after_of g r c j < table_edges g
  pub source : source_at g (after_of g r c j) ≡ source_at g j
  pub next : image_of g r c (after_of g r c j) ≡ image_of g r c j + 1

-- it doesn't, though the row goes on
pub record Breaks (g r c : List ℕ) (j : ℕ) : Type 0 where
  pub goes : GoesOn r (image_of g r c j)
  pub lacks : ¬ After g r c j

-- ---- 101 to 106; places are the length, a class, an edge, a vertex, a vertex, an edge

abbrev pub image_rules : List ℕ → List ℕ → List ℕ → List ℕ → List Rule
image_rules g r l c =
    let n = vertex_count g in
    let m = table_edges g in
    placed 101 (length c ≢ certificate_length g r) (length c)
    ∷ first_such 102 (λ d. ¬ Member g l c d) 0 (vertex_count r) (λ d. d)
    ∷ first_such 103 (λ j. ¬ Image g r l c j) 0 m (λ j. j)
    ∷ first_such 104 (λ v. ¬ Start g r c v) 0 n (λ v. v)
    ∷ first_such 105 (Strange g r l c) 0 n (λ v. v)
    ∷ first_such 106 (Breaks g r c) 0 m (λ j. j)
    ∷ []

-- what none of them refuses
pub record Certified (g r l c : List ℕ) : Type 0 where
  pub words : length c ≡ certificate_length g r
  pub member : (d : ℕ) → d < vertex_count r → Member g l c d
  pub image : (j : ℕ) → j < table_edges g → Image g r l c j
  pub start : (v : ℕ) → v < vertex_count g → Start g r c v
  pub owner : (v : ℕ) → v < vertex_count g → ¬ Strange g r l c v
  pub after : (j : ℕ) → j < table_edges g → GoesOn r (image_of g r c j) → After g r c j
