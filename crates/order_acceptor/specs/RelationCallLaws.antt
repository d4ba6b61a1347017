-- Laws of the relation acceptors: their verdict at each way out, and what is asked of a marked pair.
use Rattle.std.specs.Prelude.{◌≡◌, Bool, ℕ, ◌-◌, ◌≤◌, ◌<◌, ltb, length, drop, Err}
use Rattle.std.proofs.Math.Path.{refl, sym, ap}
use Rattle.std.proofs.Common.{◌∙◌, arith, lt-ltb, le-ltb}
use Rattle.std.proofs.Math.Logic.{inl, inr}
use Rattle.std.proofs.Math.Bool.{true, false, not, So}
use mathlib.Core.List.{List, [], ◌∷◌}
use Rattle.theory.proofs.Logic.BoolsLaws.{decide, clash, and_in, and_out, and_first, and_one, not_in, not_out}
use Rattle.theory.proofs.Logic.RangeLaws.{first_le}
use Rattle.theory.specs.Order.Passes.{Rel}
use Rattle.theory.specs.Games.Game.{Game}
use Rattle.table.specs.Table.{vertex_count, pair_count, game_of}
use Rattle.table.specs.Answers.{Row, row, memory_row, accepted, refused, judge}
use Rattle.table.specs.AnswersLaws.{judge_hit, judge_next, judge_past}
use Rattle.table.specs.Reading.{game_rows, sizes_answer}
use Rattle.table.specs.Filling.{filling_answer}
use Rattle.table.specs.ReadingLaws.{reading_stays, well_clean}
use Rattle.table.specs.WellFormed.{WellFormed}
use Rattle.table.specs.declared.Refusal.{Refusal}
use Rattle.marks.specs.Marks.{marks_length, relation, has_unused}
use Rattle.order_acceptor.specs.RelationCall.{direct_pair, governed_pair, pair_by, fails, first_failing, acceptor_rows, acceptor_answer}

pub first_failing_le : (asked : Game → Rel → Rel) (g marks : List ℕ) → first_failing asked g marks ≤ pair_count g
unfolding first_failing
first_failing_le asked g marks = first_le _ 0 (pair_count g) (omega arith)

-- ---- the verdict at each way out, whatever is asked of a marked pair

module _ (asked : Game → Rel → Rel) (g marks : List ℕ) where
  -- the reader's refusal is the call's
  pub relation_handed : (f : Refusal) → filling_answer (Err f) ≡ sizes_answer g → refused f.number f.place ≡ acceptor_answer asked g marks
  unfolding acceptor_answer acceptor_rows
  relation_handed f e = sym (reading_stays g f e _ _)

  module _ (well : WellFormed g) where
    abbrev needed : ℕ
    needed = marks_length (vertex_count g)

    abbrev rows : List Row
    rows =
        memory_row 21 needed marks
        ∷ row 41 (has_unused marks (pair_count g)) (needed - 1)
        ∷ row 10 (ltb (first_failing asked g marks) (pair_count g)) (first_failing asked g marks)
        ∷ []

    game_reads : acceptor_answer asked g marks ≡ judge rows []
    unfolding acceptor_answer acceptor_rows
    game_reads = judge_past (game_rows g) _ _ (well_clean g well)

    pub relation_short : length marks < needed → refused 21 needed ≡ acceptor_answer asked g marks
    relation_short h = sym (game_reads ∙ judge_hit _ _ _ (lt-ltb (length marks) needed h))

    module _ (h : needed ≤ length marks) where
      marks_fit_lem : acceptor_answer asked g marks ≡ judge (drop 1 rows) []
      marks_fit_lem = game_reads ∙ judge_next _ _ _ (le-ltb (length marks) needed h)

      pub relation_unused : So (has_unused marks (pair_count g)) → refused 41 (needed - 1) ≡ acceptor_answer asked g marks
      relation_unused k = sym (marks_fit_lem ∙ judge_hit _ _ _ k)

      module _ (k : has_unused marks (pair_count g) ≡ false) where
        marks_clear : acceptor_answer asked g marks ≡ judge (drop 2 rows) []
        marks_clear = marks_fit_lem ∙ judge_next _ _ _ k

        pub relation_fails : first_failing asked g marks < pair_count g → refused 10 (first_failing asked g marks) ≡ acceptor_answer asked g marks
        relation_fails l = sym (marks_clear ∙ judge_hit _ _ _ (lt-ltb (first_failing asked g marks) (pair_count g) l))

        pub relation_passes : pair_count g ≤ first_failing asked g marks → accepted [] ≡ acceptor_answer asked g marks
        unfolding judge
        relation_passes l = sym (marks_clear ∙ judge_next _ [] [] (le-ltb (first_failing asked g marks) (pair_count g) l))

-- ---- what is asked of a pair

module _ (g marks : List ℕ) (v w : ℕ) where
  abbrev H : Rel
  H = relation (vertex_count g) marks

  -- a pair that fails the test fails in either
  pub fails_direct : (mirror : Bool) → So (fails direct_pair g marks v w) → fails (pair_by mirror) g marks v w ≡ true
  unfolding fails pair_by governed_pair
  fails_direct false t = t
  fails_direct true t =
      let c = and_out t in
      and_in c.0 (not_in (and_first (H w v) (not_out c.1)))

  -- without `mirror` no more is asked
  pub fails_plain : (mirror : Bool) → So (not mirror) → fails direct_pair g marks v w ≡ false → fails (pair_by mirror) g marks v w ≡ false
  unfolding pair_by
  fails_plain false m f = f
  fails_plain true m f = clash m refl

  pub fails_unmarked : (mirror : Bool) → H v w ≡ false → fails (pair_by mirror) g marks v w ≡ false
  unfolding fails
  fails_unmarked mirror e = and_first _ e

  -- with it, the reverse
  pub fails_reverse : (mirror : Bool) → not mirror ≡ false → fails direct_pair g marks v w ≡ false → So (H v w) → fails (pair_by mirror) g marks v w ≡ not (H w v)
  unfolding fails pair_by governed_pair
  fails_reverse false m f t = clash refl m
  fails_reverse true m f t =
      let d : So (direct_pair (game_of g) H v w) = elim (decide (direct_pair (game_of g) H v w)) [ inl a ↦ a | inr n ↦ clash (and_in t (not_in n)) f ] in
      and_one _ t ∙ ap not (and_one (H w v) d)
