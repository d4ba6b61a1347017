-- The edit's rows render its rules.
use Rattle.std.specs.Prelude.{◌↔◌, List, ℕ, ◌+◌}
use Rattle.std.proofs.Math.Bool.{So}
use Rattle.std.proofs.Common.{leb-true, le-leb, ltb-true, lt-ltb}
use Rattle.theory.proofs.Logic.BoolsLaws.{clash, So_not, not_in, not_out, or_says}
use Rattle.table.specs.Limits.{edge_limit}
use Rattle.table.specs.Table.{vertex_count, table_edges, table_length, Listed, game_of}
use Rattle.table.specs.TableLaws.{edge_in, edge_out}
use Rattle.table.specs.Rules.{Rendered, none, next}
use Rattle.table.specs.RulesLaws.{renders_placed}
use Rattle.edit_rules.specs.Edges.{misplaced, change_rows, edit_rows}
use Rattle.edit_rules.specs.EdgesRules.{Misplaced, change_rules, edit_rules}
use Rattle.edit_rules.proofs.SearchLaws.{lacks_says}
use Rattle.edit_rules.specs.declared.Edit.{Edit}
use Rattle.edit_rules.specs.declared.Edit.TheVariants.{Arrival, Leaving}

-- ---- 37

listed_says : (g : List ℕ) (s t : ℕ) → So ((game_of g).edge s t) ↔ ((j : ℕ) × Listed g s t j)
listed_says g s t = (edge_out g s t, λ r. edge_in g s t r.0 r.1)

misplaced_says : (e : Edit) (g : List ℕ) (s t : ℕ) → So (misplaced e ((game_of g).edge s t)) ↔ Misplaced e g s t
unfolding misplaced Misplaced
misplaced_says Arrival g s t = listed_says g s t
misplaced_says Leaving g s t = (
  λ h r. clash ((listed_says g s t).1 r) (not_out h),
  λ d. not_in (So_not (λ x. d ((listed_says g s t).0 x))),
)

-- ---- the rows

change_render : (e : Edit) (g : List ℕ) (size s t : ℕ) → Rendered (change_rows e g size s t) (change_rules e g size s t)
unfolding change_rows change_rules
change_render Arrival g size s t =
    let needed = table_length (vertex_count g) (table_edges g) + 2 in
    next (renders_placed 39 _ _ _ (or_says (leb-true edge_limit (table_edges g), le-leb edge_limit (table_edges g)) (ltb-true size needed, lt-ltb size needed))) none
change_render Leaving g size s t = next (renders_placed 38 _ _ _ (lacks_says g s t)) none

pub edit_render : (e : Edit) (g : List ℕ) (size s t : ℕ) → Rendered (edit_rows e g size s t) (edit_rules e g size s t)
unfolding edit_rows
edit_render e g size s t =
    let n = vertex_count g in
    next (renders_placed 37 _ _ _ (or_says (or_says (leb-true n s, le-leb n s) (leb-true n t, le-leb n t)) (misplaced_says e g s t))) (change_render e g size s t)
