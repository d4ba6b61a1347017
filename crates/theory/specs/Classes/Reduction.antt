-- Classes, quotient and reduced game: document 01, "Classes, quotient, reduced game". A class is given by its lowest member, its
-- representative. The definitions take the order as a relation `le`, so that it is computed once; the games at the end put `order g` in.
use Rattle.std.specs.Prelude.{Bool, not, ℕ, eqb}
use Rattle.theory.specs.Logic.Bools.{◌&◌, imp}
use Rattle.theory.specs.Logic.Range.{all_below, any_below, first, count, nth}
use Rattle.theory.specs.Order.Passes.{Rel}
use Rattle.theory.specs.Games.Game.{Player, even, odd, Game}
use Rattle.theory.specs.Order.Order.{any_next, order}

-- ---- classes of n vertices

-- each is below the other
unfoldable pub same_class : Rel → Rel
same_class le v w = le v w & le w v

-- the lowest member of v's class
unfoldable pub lowest : ℕ → Rel → ℕ → ℕ
lowest n le v = first (λ u. same_class le u v) 0 n

unfoldable pub is_lowest : ℕ → Rel → ℕ → Bool
is_lowest n le v = eqb (lowest n le v) v

unfoldable pub class_count : ℕ → Rel → ℕ
class_count n le = count n (is_lowest n le)

-- classes are numbered from 0 by their lowest member
unfoldable pub class_number : ℕ → Rel → ℕ → ℕ
class_number n le v = count (lowest n le v) (is_lowest n le)

-- the lowest member of class c
unfoldable pub representative : ℕ → Rel → ℕ → ℕ
representative n le c = nth n (is_lowest n le) c

-- ---- edges between the classes of c and d, two lowest members

-- every member of c's class has a successor in d's
unfoldable pub quotient_edge : Game → Rel → Rel
quotient_edge g le c d = all_below g.n (λ v. imp (same_class le v c) (any_next g v (λ w. same_class le w d)))

-- d is no better than e for the player: for Even, d is below e; for Odd, e is below d
unfoldable pub no_better : Player → Rel → Rel
no_better even le d e = le d e
no_better odd le d e = le e d

-- c has another quotient edge, to e, and d is no better than e for c's owner. Document 004, table 4; the prose beside it says the reverse.
unfoldable pub dropped : Game → Rel → Rel
dropped g le c d =
    any_below g.n (λ e. is_lowest g.n le e & not (eqb e d) & quotient_edge g le c e & no_better (g.owner c) le d e)

unfoldable pub reduced_edge : Game → Rel → Rel
reduced_edge g le c d = quotient_edge g le c d & not (dropped g le c d)

-- ---- the two games of classes: a class has its members' priority and the owner of its lowest member

unfoldable pub class_game : Game → Rel → Rel → Game
class_game g le edge = record {
  n = class_count g.n le;
  priority = λ c. g.priority (representative g.n le c);
  owner = λ c. g.owner (representative g.n le c);
  edge = λ c d. edge (representative g.n le c) (representative g.n le d);
}

unfoldable pub quotient : Game → Game
quotient g = class_game g (order g) (quotient_edge g (order g))

unfoldable pub reduced : Game → Game
reduced g = class_game g (order g) (reduced_edge g (order g))

-- the number of v's class in both games
unfoldable pub class_of : Game → ℕ → ℕ
class_of g v = class_number g.n (order g) v
