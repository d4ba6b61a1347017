-- Worked examples. The game has 6 vertices: 0 and 1, Even's of priority 2, each lead to 2 and 3; 2 is a loop of priority 0 and 3 one of
-- priority 1; 4, Even's, and 5, Odd's, of priority 3, lead to 2. Reduced: 0 and 1 are class 0, 4 and 5, which have no choice, class 3.
use Rattle.std.specs.Prelude.{◌≡◌, refl, List, [], ◌∷◌, ℕ}
use Rattle.std.proofs.Math.Bool.{So}
use Rattle.std.proofs.Common.{arith}
use Rattle.std.proofs.Math.ListN.{set}
use Rattle.theory.specs.Order.Governed.{governed}
use Rattle.theory.proofs.Winners.DeterminacyLaws.{winner}
use Rattle.theory.proofs.Examples.Compute.{compute}
use Rattle.table.specs.Table.{game_of}
use Rattle.table.specs.Answers.{judge, accepted, refused}
use Rattle.table.specs.Reading as reading
use Rattle.large_table.specs.Reading.{large_rows}
use Rattle.large_images.specs.Images.{is_inner, goes_on, member_strays, image_strays, start_strays, owner_strays, lacks_after, after_strays, first_empty, first_image, first_start, first_owner, first_after, image_rows}
use Rattle.large_reduction.specs.ReductionCall.{edge_descends, priority_differs, shifted, first_descent, first_beyond, first_different, class_rows, merge_rows, reduction_answer}
use Rattle.large_reduction.proofs.ReductionLaws.{reduction_winner, reduction_bisimilar}

unfoldable pub six : List ℕ
six = 6 ∷ 8 ∷ 2 ∷ 2 ∷ 0 ∷ 1 ∷ 3 ∷ 3 ∷ 0 ∷ 0 ∷ 0 ∷ 1 ∷ 0 ∷ 1 ∷ 0 ∷ 0 ∷ 1 ∷ 1 ∷ 2 ∷ 3 ∷ 4 ∷ 5 ∷ 2 ∷ 3 ∷ 3 ∷ 2 ∷ 2 ∷ 3 ∷ 2 ∷ 2 ∷ []

unfoldable pub four : List ℕ
four = 4 ∷ 5 ∷ 2 ∷ 0 ∷ 1 ∷ 3 ∷ 0 ∷ 0 ∷ 1 ∷ 0 ∷ 0 ∷ 0 ∷ 1 ∷ 2 ∷ 3 ∷ 1 ∷ 2 ∷ 1 ∷ 2 ∷ 1 ∷ []

unfoldable pub classes : List ℕ
classes = 0 ∷ 0 ∷ 1 ∷ 2 ∷ 3 ∷ 3 ∷ []

-- 6 starts; 4 members; 8 images; 8 edges after, 0 where the row ends
unfoldable pub certificate : List ℕ
certificate = 0 ∷ 3 ∷ 4 ∷ 5 ∷ 6 ∷ 7 ∷ 0 ∷ 2 ∷ 3 ∷ 4 ∷ 0 ∷ 1 ∷ 1 ∷ 0 ∷ 2 ∷ 3 ∷ 4 ∷ 4 ∷ 1 ∷ 0 ∷ 0 ∷ 2 ∷ 0 ∷ 0 ∷ 0 ∷ 0 ∷ []

unfoldable calls : Unit {0}
unfolding compute judge set large_rows reading.first_owner reading.first_end is_inner goes_on member_strays image_strays start_strays owner_strays lacks_after after_strays first_empty first_image first_start first_owner first_after image_rows edge_descends priority_differs shifted first_descent first_beyond first_different class_rows merge_rows reduction_answer six four classes certificate
calls = tt

pub six_accepted : reduction_answer six four classes certificate ≡ accepted []
unfolding calls
six_accepted = refl

-- so 1 has the winner of class 0, and 4 and 5 are governed bisimilar
pub six_winner : winner (game_of six) 1 ≡ winner (game_of four) 0
unfolding calls
six_winner = reduction_winner six four classes certificate [] six_accepted 1 (omega arith)

pub six_bisimilar : So (governed (game_of six) 4 5)
unfolding calls
six_bisimilar = reduction_bisimilar six four classes certificate [] six_accepted 4 5 (omega arith) (omega arith) refl

-- ---- one word changed

-- vertex 4 has priority 4, its class 3
pub six_priority : reduction_answer (set six 6 4) four classes certificate ≡ refused 100 4
unfolding calls
six_priority = refl

-- vertex 1 is said to be in class 1, of priority 0
pub six_class : reduction_answer six four (set classes 1 1) certificate ≡ refused 100 1
unfolding calls
six_class = refl

-- edge 7, from 5 to 2, leads to 3 in place of 2: its image leads to class 1
pub six_image : reduction_answer (set six 29 3) four classes certificate ≡ refused 103 7
unfolding calls
six_image = refl

-- the start of 1 is its edge to 3, whose image is the second of the row
pub six_start : reduction_answer six four classes (set certificate 1 2) ≡ refused 104 1
unfolding calls
six_start = refl

-- 1 is Odd's, its class Even's, with two edges
pub six_owner : reduction_answer (set six 9 1) four classes certificate ≡ refused 105 1
unfolding calls
six_owner = refl

-- the edge after 0 is 0 itself, so the second edge of the row isn't answered
pub six_after : reduction_answer six four classes (set certificate 18 0) ≡ refused 106 0
unfolding calls
six_after = refl

-- ---- the reduced game's own

-- its owner word 1 is 2
pub four_owner : reduction_answer six (set four 7 2) classes certificate ≡ refused 95 7
unfolding calls
four_owner = refl

-- its first edge leaves 2, the next 0
pub four_descends : reduction_answer six (set four 10 2) classes certificate ≡ refused 97 1
unfolding calls
four_descends = refl
