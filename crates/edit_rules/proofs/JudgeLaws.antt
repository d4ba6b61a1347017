-- The edit's rows by what they go by, at each way out of the code; and that they are the table's rows where a scan found it.
use Rattle.std.specs.Prelude.{◌≡◌, refl, Bool, true, false, ℕ, ◌+◌, ◌≤◌, ◌<◌, leb, ltb}
use Rattle.std.proofs.Math.Path.{sym, ap}
use Rattle.std.proofs.Common.{◌∙◌, arith}
use Rattle.std.proofs.Math.Bool.{not, So}
use mathlib.Core.List.{List, [], ◌∷◌}
use borrow.Author.Tests.{le-leb, lt-leb, lt-ltb, le-ltb, ltb-true}
use Rattle.theory.specs.Logic.Bools.{◌or◌}
use Rattle.theory.proofs.Logic.BoolsLaws.{So_ext, or_left, or_right, or_fails}
use Rattle.theory.specs.Logic.Range.{any_below, first}
use Rattle.theory.proofs.Logic.RangeLaws.{any_in, any_out, first_passes, first_found}
use Rattle.table.specs.Limits.{edge_limit}
use Rattle.table.specs.Table.{table_length, game_of}
use Rattle.table.specs.Answers.{row, accepted, refused, judge}
use Rattle.table.specs.AnswersLaws.{judge_hit, judge_next, judge_clean}
use Rattle.table.specs.Reading.{lacks_edge}
use Rattle.edit_rules.specs.Edges.{edited, misplaced, change_rows, edit_rows}
use Rattle.edit_rules.specs.EditParts.{Formed, leads, Scanned, change_facts, edit_facts}
use Rattle.edit_rules.proofs.SearchLaws.{there_edge, elsewhere_stays}
use Rattle.edit_rules.specs.declared.Edit.{Edit}
use Rattle.edit_rules.specs.declared.Edit.TheVariants.{Arrival, Leaving}
use Rattle.edit_rules.specs.declared.Scan.{Scan}

module _ (n m size s t : ℕ) (there another : Bool) where
  -- ---- 39

  abbrev unfit : Bool
  unfit = leb edge_limit m or ltb size (table_length n m + 2)

  pub arrival_full : edge_limit ≤ m → refused 39 m ≡ judge (change_facts Arrival n m size s another) []
  unfolding change_facts
  arrival_full h = sym (judge_hit (row 39 unfit m) [] [] (or_left (ltb size (table_length n m + 2)) (le-leb edge_limit m h)))

  pub arrival_short : size < table_length n m + 2 → refused 39 m ≡ judge (change_facts Arrival n m size s another) []
  unfolding change_facts
  arrival_short h = sym (judge_hit (row 39 unfit m) [] [] (or_right (leb edge_limit m) (lt-ltb size (table_length n m + 2) h)))

  pub arrival_accepted : m < edge_limit → table_length n m + 2 ≤ size → accepted [] ≡ judge (change_facts Arrival n m size s another) []
  unfolding change_facts
  arrival_accepted h k =
      sym (judge_clean (row 39 unfit m ∷ []) [] ((or_fails _ _).1 (lt-leb edge_limit m h, le-ltb size (table_length n m + 2) k), tt))

  -- ---- 38

  pub leaving_refused : another ≡ false → refused 38 s ≡ judge (change_facts Leaving n m size s another) []
  unfolding change_facts
  leaving_refused h = sym (judge_hit _ [] [] (ap not h))

  pub leaving_accepted : So another → accepted [] ≡ judge (change_facts Leaving n m size s another) []
  unfolding change_facts
  leaving_accepted h = sym (judge_clean _ [] (ap not h, tt))

  -- ---- 37

  module _ (e : Edit) where
    outside : So (leb n s or leb n t) → refused 37 s ≡ judge (edit_facts e n m size s t there another) []
    unfolding edit_facts
    outside h = sym (judge_hit _ _ [] (or_left (misplaced e there) h))

    pub source_outside : n ≤ s → refused 37 s ≡ judge (edit_facts e n m size s t there another) []
    source_outside h = outside (or_left (leb n t) (le-leb n s h))

    pub target_outside : n ≤ t → refused 37 s ≡ judge (edit_facts e n m size s t there another) []
    target_outside h = outside (or_right (leb n s) (le-leb n t h))

    pub edit_misplaced : So (misplaced e there) → refused 37 s ≡ judge (edit_facts e n m size s t there another) []
    unfolding edit_facts
    edit_misplaced h = sym (judge_hit _ _ [] (or_right _ h))

    pub edit_placed : s < n → t < n → misplaced e there ≡ false
        → judge (change_facts e n m size s another) [] ≡ judge (edit_facts e n m size s t there another) []
    unfolding edit_facts
    edit_placed hs ht h = sym (judge_next _ _ [] ((or_fails _ _).1 ((or_fails _ _).1 (lt-leb n s hs, lt-leb n t ht), h)))

-- ---- the facts of a table

not_not : (b : Bool) → not (not b) ≡ b
not_not true = refl
not_not false = refl

module _ {g : List ℕ} {n m : ℕ} (f : Formed g n m) (size s t : ℕ) {there another : Bool}
    (is : there ≡ (game_of g).edge s t) (stays : another ≡ not (lacks_edge (edited Leaving g s t) s)) where
  change_rows_lem : (e : Edit) → change_facts e n m size s another ≡ change_rows e g size s t
  unfolding change_facts change_rows
  change_rows_lem Arrival = rw (f.vertices, f.edges)
  change_rows_lem Leaving = ap (λ (b : Bool). row 38 b s ∷ []) (ap not stays ∙ not_not _)

  pub facts_rows : (e : Edit) → edit_facts e n m size s t there another ≡ edit_rows e g size s t
  unfolding edit_facts edit_rows
  facts_rows e = rw (is, change_rows_lem e, f.vertices)

-- found below the end: some passes
first_any : (p : ℕ → Bool) (m : ℕ) → ltb (first p 0 m) m ≡ any_below m p
first_any p m = So_ext to from
  where
    to : So (ltb (first p 0 m) m) → So (any_below m p)
    to h = let l = ltb-true (first p 0 m) m h in any_in m p (first p 0 m) l (first_passes p 0 m (omega arith) l)

    from : So (any_below m p) → So (ltb (first p 0 m) m)
    from x = let (i, l, y) = any_out {n = m} {p = p} x in lt-ltb (first p 0 m) m (first_found p m i l y).0

-- what a scan says of the table: whether the edge is there, and the rows
module _ {g : List ℕ} {n m : ℕ} (f : Formed g n m) (s t : ℕ) {scan : Scan} (sc : Scanned g m s t scan) where
  pub scanned_there : ltb scan.copy m ≡ (game_of g).edge s t
  scanned_there =
      let there : any_below m (leads g s t true) ≡ (game_of g).edge s t = rw f.edges (there_edge g s t) in
      rw sc.found (first_any (leads g s t true) m ∙ there)

  pub scanned_rows : (size : ℕ) (e : Edit) → edit_facts e n m size s t (ltb scan.copy m) scan.another ≡ edit_rows e g size s t
  scanned_rows size e =
      let stays : any_below m (leads g s t false) ≡ not (lacks_edge (edited Leaving g s t) s) = rw f.edges (elsewhere_stays g s t) in
      facts_rows f size s t scanned_there (sc.other ∙ stays) e
