-- The certificate of a reduction. g is the game, of n vertices and m edges; r the reduced game, of k vertices and q edges, which stand by
-- ascending source, so that the edges out of a class are a row; l has the class of each vertex, a vertex of r. The certificate c has n + k + 2m
-- words. For each vertex an edge of its own, its start, whose image is the first of its class's row; for each class a member; for each edge
-- its image, an edge of r between the classes of its ends; and for each edge whose image isn't the last of its row another edge of the same
-- source, the one after it, whose image is the next of the row. So each vertex has an edge for every edge of its class.
use Rattle.std.specs.Prelude.{◌≡◌, Bool, not, List, [], ◌∷◌, ℕ, ◌+◌, ◌*◌, ◌<◌, eqb, ltb, leb, length, get_or}
use Rattle.theory.specs.Logic.Bools.{◌&◌, ◌or◌}
use Rattle.theory.specs.Logic.Range.{first}
use Rattle.table.specs.Table.{vertex_count, table_edges}
use Rattle.table.specs.Answers.{Row, row}
use Rattle.large_table.specs.Words.{owner_of, source_of, target_of}

-- ---- words

abbrev pub class_at : List ℕ → ℕ → ℕ
class_at l v = get_or l v 0

abbrev pub start_at : List ℕ → ℕ → ℕ
start_at c v = get_or c v 0

abbrev pub member_at : List ℕ → ℕ → ℕ → ℕ
member_at c n d = get_or c (n + d) 0

abbrev pub image_at : List ℕ → ℕ → ℕ → ℕ → ℕ
image_at c n k j = get_or c (n + k + j) 0

abbrev pub after_at : List ℕ → ℕ → ℕ → ℕ → ℕ → ℕ
after_at c n k m j = get_or c (n + k + m + j) 0

-- ---- tests

-- edge e of r isn't the first of its row
unfoldable pub is_inner : List ℕ → ℕ → ℕ → Bool
is_inner r k e = ltb 0 e & eqb (get_or r (1 + 2 * k + e) 0) (get_or r (2 + 2 * k + e) 0)

-- edge e of r isn't the last of its row
unfoldable pub goes_on : List ℕ → ℕ → ℕ → ℕ → Bool
goes_on r k q e = ltb (e + 1) q & eqb (get_or r (3 + 2 * k + e) 0) (get_or r (2 + 2 * k + e) 0)

-- what class d names isn't a member
unfoldable pub member_strays : List ℕ → List ℕ → ℕ → ℕ → Bool
member_strays l c n d = leb n (member_at c n d) or not (eqb (class_at l (member_at c n d)) d)

-- the image of edge j isn't an edge between the classes of its ends
unfoldable pub image_strays : List ℕ → List ℕ → List ℕ → List ℕ → ℕ → ℕ → ℕ → ℕ → ℕ → Bool
image_strays g r l c n m k q j =
    leb q (image_at c n k j)
    or (not (eqb (source_of r k (image_at c n k j)) (class_at l (source_of g n j)))
    or not (eqb (target_of r k q (image_at c n k j)) (class_at l (target_of g n m j))))

-- the start of v isn't an edge of v whose image is the first of its row
unfoldable pub start_strays : List ℕ → List ℕ → List ℕ → ℕ → ℕ → ℕ → ℕ → Bool
start_strays g r c n m k v =
    leb m (start_at c v) or (not (eqb (source_of g n (start_at c v)) v) or is_inner r k (image_at c n k (start_at c v)))

-- v has another owner than its class, whose row has a second edge
unfoldable pub owner_strays : List ℕ → List ℕ → List ℕ → List ℕ → ℕ → ℕ → ℕ → ℕ → Bool
owner_strays g r l c n k q v = not (eqb (owner_of g n v) (owner_of r k (class_at l v))) & goes_on r k q (image_at c n k (start_at c v))

-- the edge after j isn't one of j's source whose image is the next after j's
unfoldable pub lacks_after : List ℕ → List ℕ → ℕ → ℕ → ℕ → ℕ → Bool
lacks_after g c n m k j =
    leb m (after_at c n k m j)
    or (not (eqb (source_of g n (after_at c n k m j)) (source_of g n j)) or not (eqb (image_at c n k (after_at c n k m j)) (image_at c n k j + 1)))

-- and the row of j's image goes on
unfoldable pub after_strays : List ℕ → List ℕ → List ℕ → ℕ → ℕ → ℕ → ℕ → ℕ → Bool
after_strays g r c n m k q j = goes_on r k q (image_at c n k j) & lacks_after g c n m k j

-- ---- the table of refusals

abbrev pub certificate_length : List ℕ → List ℕ → ℕ
certificate_length g r = vertex_count g + vertex_count r + 2 * table_edges g

unfoldable pub first_empty : List ℕ → List ℕ → List ℕ → List ℕ → ℕ
first_empty g r l c = first (member_strays l c (vertex_count g)) 0 (vertex_count r)

unfoldable pub first_image : List ℕ → List ℕ → List ℕ → List ℕ → ℕ
first_image g r l c = first (image_strays g r l c (vertex_count g) (table_edges g) (vertex_count r) (table_edges r)) 0 (table_edges g)

unfoldable pub first_start : List ℕ → List ℕ → List ℕ → ℕ
first_start g r c = first (start_strays g r c (vertex_count g) (table_edges g) (vertex_count r)) 0 (vertex_count g)

unfoldable pub first_owner : List ℕ → List ℕ → List ℕ → List ℕ → ℕ
first_owner g r l c = first (owner_strays g r l c (vertex_count g) (vertex_count r) (table_edges r)) 0 (vertex_count g)

unfoldable pub first_after : List ℕ → List ℕ → List ℕ → ℕ
first_after g r c = first (after_strays g r c (vertex_count g) (table_edges g) (vertex_count r) (table_edges r)) 0 (table_edges g)

unfoldable pub image_rows : List ℕ → List ℕ → List ℕ → List ℕ → List Row
image_rows g r l c =
    row 101 (not (eqb (length c) (certificate_length g r))) (length c)
    ∷ row 102 (ltb (first_empty g r l c) (vertex_count r)) (first_empty g r l c)
    ∷ row 103 (ltb (first_image g r l c) (table_edges g)) (first_image g r l c)
    ∷ row 104 (ltb (first_start g r c) (vertex_count g)) (first_start g r c)
    ∷ row 105 (ltb (first_owner g r l c) (vertex_count g)) (first_owner g r l c)
    ∷ row 106 (ltb (first_after g r c) (table_edges g)) (first_after g r c)
    ∷ []

-- ---- what the tests assume

-- a class below k for each of n vertices
pub record Classes (l : List ℕ) (n k : ℕ) : Type 0 where
  pub words : length l ≡ n
  pub inside : (v : ℕ) → v < n → class_at l v < k

pub record Long (c : List ℕ) (n k m : ℕ) : Type 0 where
  pub words : length c ≡ n + k + 2 * m

-- each image is an edge below q
pub record Images (c : List ℕ) (n k m q : ℕ) : Type 0 where
  pub inside : (j : ℕ) → j < m → image_at c n k j < q

-- each start is an edge below m
pub record Starts (c : List ℕ) (n m : ℕ) : Type 0 where
  pub inside : (v : ℕ) → v < n → start_at c v < m
