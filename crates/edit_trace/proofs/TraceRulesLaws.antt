-- Row 40 renders its rule, an entry's rows decide by its rules, and a run ends as the rules say.
use Rattle.std.specs.Prelude.{◌≡◌, refl, ◌↔◌, Bool, not, cond, ℕ, ◌+◌, ◌*◌, ◌≤◌, ◌<◌, max, eqb, ltb, leb, length}
use Rattle.std.proofs.Common.{sym, ◌∙◌, add-one, eqb-true, eq-eqb, leb-true, le-leb, ltb-true, lt-ltb}
use Rattle.std.proofs.Math.Path.{ap}
use Rattle.std.proofs.Math.Bool.{true, false, So}
use mathlib.Core.List.{List, [], ◌∷◌, ◌++◌, append-nil}
use native.Mathlib.Omega.{arith}
use Rattle.theory.specs.Logic.Bools.{◌&◌, ◌or◌}
use Rattle.theory.proofs.Logic.BoolsLaws.{clash, So_not, not_in, not_out, and_in, and_out, or_says, or_false}
use Rattle.table.specs.Limits.{edge_limit}
use Rattle.table.specs.Table.{vertex_count, table_edges, table_length, game_of}
use Rattle.table.specs.TableLaws.{edge_in, edge_out}
use Rattle.table.specs.Answers.{Row, row, refused, judge, Clean}
use Rattle.table.specs.AnswersLaws.{judge_clean, judge_accepted, not_both}
use Rattle.table.specs.Reading.{lacks_edge}
use Rattle.table.specs.Rules.{Rendered, none, next}
use Rattle.table.specs.RulesLaws.{renders_placed}
use Rattle.table.specs.Decisions.{Decides}
use Rattle.table.specs.DecisionsLaws.{rendered_decides}
use Rattle.edit_rules.specs.Edges.{edited, misplaced, change_rows, edit_rows}
use Rattle.edit_rules.proofs.SearchLaws.{lacks_says}
use Rattle.edit_rules.specs.declared.Edit.TheVariants.{Arrival, Leaving}
use Rattle.edit_trace.specs.Trace.{entry_limit, entry_count, trace_rows}
use Rattle.edit_trace.specs.Run.{toggle, toggled, entry_rows, Run, run_from, run_over}
use Rattle.edit_trace.proofs.RunLaws.{run_next, run_stops, run_ends, RunView, ends, goes, stops, run_view}
use Rattle.edit_trace.specs.TraceRules.{trace_rules, Present, entry_rules, Accepts, no_entry, entry, Refuses}

-- ---- both of two tests, and no test

and_says : {a b : Bool} {A B : Type 0} → So a ↔ A → So b ↔ B → So (a & b) ↔ (A × B)
and_says p q = (λ x. let y = and_out x in (p.0 y.0, q.0 y.1), λ x. and_in (p.1 x.0) (q.1 x.1))

not_says : {a : Bool} {A : Type 0} → So a ↔ A → So (not a) ↔ (A → ⊥)
not_says p = (λ h x. clash (p.1 x) (not_out h), λ d. not_in (So_not (λ x. d (p.0 x))))

eqb_says : (x y : ℕ) → So (eqb x y) ↔ (x ≡ y)
eqb_says x y = (eqb-true x y, eq-eqb x y)

leb_says : (x y : ℕ) → So (leb x y) ↔ (x ≤ y)
leb_says x y = (leb-true x y, le-leb x y)

ltb_says : (x y : ℕ) → So (ltb x y) ↔ (x < y)
ltb_says x y = (ltb-true x y, lt-ltb x y)

-- ---- 40

pub trace_render : (trace : List ℕ) → Rendered (trace_rows trace) (trace_rules trace)
unfolding trace_rows
trace_render trace =
    next (renders_placed 40 0 _ _
    (or_says (or_says (eqb_says (length trace) 0) (not_says (eqb_says (length trace) (1 + 2 * entry_count trace)))) (ltb_says entry_limit (entry_count trace)))) none

-- ---- an entry

module _ (g : List ℕ) (size : ℕ) (e : ℕ × ℕ) where
  abbrev outside : Bool
  outside = leb (vertex_count g) e.0 or leb (vertex_count g) e.1

  abbrev there : Bool
  there = (game_of g).edge e.0 e.1

  abbrev lacks : Bool
  lacks = lacks_edge (edited Leaving g e.0 e.1) e.0

  abbrev full : Bool
  full = leb edge_limit (table_edges g) or ltb size (table_length (vertex_count g) (table_edges g) + 2)

  -- its rows with a row for each number
  three_rows : Bool → List Row
  three_rows b = row 37 outside e.0 ∷ row 38 (b & lacks) e.0 ∷ row 39 (not b & full) (table_edges g) ∷ []

  three_judge : (counts : List ℕ) → judge (entry_rows g size e) counts ≡ judge (three_rows there) counts
  unfolding judge toggle edit_rows change_rows misplaced three_rows ◌&◌
  three_judge counts = go there
    where
      go : (b : Bool) → judge (row 37 (outside or misplaced (cond b Leaving Arrival) b) e.0 ∷ change_rows (cond b Leaving Arrival) g size e.0 e.1) counts
          ≡ judge (three_rows b) counts
      go true = rw (or_false outside)
      go false = rw (or_false outside)

  present_says : So there ↔ Present g e
  present_says = (edge_out g e.0 e.1, λ r. edge_in g e.0 e.1 r.0 r.1)

  three_render : Rendered (three_rows there) (entry_rules g size e)
  unfolding three_rows
  three_render =
      next (renders_placed 37 _ _ _ (or_says (leb_says (vertex_count g) e.0) (leb_says (vertex_count g) e.1)))
      (next (renders_placed 38 _ _ _ (and_says present_says (lacks_says g e.0 e.1)))
      (next (renders_placed 39 _ _ _ (and_says (not_says present_says) (or_says (leb_says edge_limit (table_edges g)) (ltb_says size _)))) none))

  pub entry_decides : Decides (entry_rows g size e) (entry_rules g size e)
  entry_decides =
      let d = rendered_decides three_render in record {
        refuses = λ counts k p. rw (three_judge counts) (d.refuses counts k p);
        none = λ c. d.none (judge_accepted (three_rows there) [] [] (sym (three_judge []) ∙ judge_clean (entry_rows g size e) [] c)).0;
        clean = λ n. (judge_accepted (entry_rows g size e) [] [] (three_judge [] ∙ judge_clean (three_rows there) [] (d.clean n))).0;
      }

-- ---- a run

module _ (size : ℕ) where
  -- no row stops it: all entries are accepted
  view_accepts : {es : List (ℕ × ℕ)} {g : List ℕ} {longest done : ℕ} {r : Run} → RunView size es g longest done r → Clean r.stop
      → Accepts size g es r.table × (r.done ≡ done + length es)
  view_accepts ends c = (no_entry, omega arith)
  view_accepts {es = e ∷ es} (goes {g = g} passed view) c =
      let a = view_accepts view c in
      (entry ((entry_decides g size e).none passed) a.0, a.1 ∙ omega arith)
  view_accepts (stops at) c = absurd (not_both (sym at ∙ judge_clean _ [] c))

  -- some row does: the first refused entry
  view_refuses : {es : List (ℕ × ℕ)} {g : List ℕ} {longest done : ℕ} {r : Run} → RunView size es g longest done r → (counts : List ℕ) (k p : ℕ)
      → judge r.stop counts ≡ refused k p → (n : ℕ) × Refuses size g es r.table n k p × (r.done ≡ done + n)
  unfolding judge
  view_refuses ends counts k p h = absurd (not_both (sym h))
  view_refuses {es = e ∷ es} (goes {g = g} passed view) counts k p h =
      let (n, s, d) = view_refuses view counts k p h in (
        n + 1,
        record {
          before = e ∷ s.before;
          first = s.first;
          behind = s.behind;
          split = ap (λ (l : List (ℕ × ℕ)). e ∷ l) s.split;
          accepted = entry ((entry_decides g size e).none passed) s.accepted;
          refused = s.refused;
          count = rw s.count (add-one (length s.before));
        },
        d ∙ omega arith,
      )
  view_refuses {es = e ∷ es} (stops {g = g} at) counts k p h = (
    0,
    record {
      before = [];
      first = e;
      behind = es;
      split = refl;
      accepted = no_entry;
      refused = ((entry_decides g size e).refuses counts k p).0 h;
      count = refl;
    },
    omega arith,
  )

  -- the other way round: accepted entries are done, and the rest of the run is from the table that they lead to
  accepts_goes : {g h : List ℕ} {before : List (ℕ × ℕ)} → Accepts size g before h → (behind : List (ℕ × ℕ)) (longest done : ℕ)
      → (l : ℕ) × (run_from size (before ++ behind) g longest done ≡ run_from size behind h l (done + length before))
  accepts_goes {g = g} no_entry behind longest done = (longest, ap (run_from size behind g longest) (omega arith))
  accepts_goes {g = g} {h = h} (entry {e = e} {es = es} passed rest) behind longest done =
      let (l, q) = accepts_goes rest behind (max longest (length (toggled g e))) (done + 1) in
      (l, run_next size e (es ++ behind) g longest done ((entry_decides g size e).clean passed) ∙ q ∙ ap (run_from size behind h l) (omega arith))

  module _ (es : List (ℕ × ℕ)) (g : List ℕ) where
    abbrev run : Run
    run = run_over size es g

    -- all entries are accepted exactly if the run has no row that stops it
    pub run_accepts : Clean run.stop → Accepts size g es run.table × (run.done ≡ length es)
    run_accepts c = let a = view_accepts (run_view size es g (length g) 0) c in (a.0, a.1 ∙ omega arith)

    pub accepts_run : (h : List ℕ) → Accepts size g es h → Clean run.stop × (run.table ≡ h)
    accepts_run h a =
        let (l, q) = accepts_goes a [] (length g) 0 in
        let e = (rw (append-nil es) at q) ∙ run_ends size h l _ in
        (rw e tt, rw e)

    -- refused exactly at the first refused entry, and the others before it are done
    pub run_refuses : (counts : List ℕ) (k p : ℕ) → judge run.stop counts ≡ refused k p → Refuses size g es run.table run.done k p
    run_refuses counts k p h =
        let (n, s, d) = view_refuses (run_view size es g (length g) 0) counts k p h in
        let e : run.done ≡ n = d ∙ omega arith in
        rw e s

    pub refuses_run : (counts : List ℕ) (h : List ℕ) (n k p : ℕ) → Refuses size g es h n k p
        → (judge run.stop counts ≡ refused k p) × (run.table ≡ h) × (run.done ≡ n)
    refuses_run counts h n k p s =
        let d = entry_decides h size s.first in
        let (l, q) = accepts_goes s.accepted (s.first ∷ s.behind) (length g) 0 in
        let e = ap (λ (es : List (ℕ × ℕ)). run_over size es g) s.split ∙ q ∙ run_stops size s.first s.behind h l _ ((d.refuses [] k p).1 s.refused) in
        (rw e ((d.refuses counts k p).1 s.refused), rw e, rw e (omega (arith, s.count)))
