-- Laws of the reader of large games: its computed rows render its rules, so it refuses k at p exactly as these say, and it accepts exactly
-- the tables that `LargeFormed` describes.
use Rattle.std.specs.Prelude.{◌≡◌, refl, ◌↔◌, ◌≢◌, List, [], ◌∷◌, ◌++◌, ℕ, ◌<◌, length, Ok, Err}
use Rattle.std.proofs.Common.{sym, arith, ltb-true, lt-ltb, eqb-true, eq-eqb}
use Rattle.std.proofs.Math.Decide.{ℕ_discrete}
use Rattle.table.specs.Table.{vertex_count, table_edges, table_length}
use Rattle.table.specs.Answers.{Row, accepted, refused, judge, Clean}
use Rattle.table.specs.AnswersLaws.{judge_accepted, judge_clean, judge_past, judge_stays}
use Rattle.table.specs.Rules.{FirstRule, NoRule, no_rule, fails, Rendered, none, next}
use Rattle.table.specs.RulesLaws.{renders_placed, refused_by, clean_none, none_clean}
use Rattle.table.specs.ReadingLaws.{differs, owner_renders, end_renders, owners_fit, ends_fit}
use Rattle.table.specs.Filling.{filling_answer}
use Rattle.table.specs.declared.FilledSizes.{FilledSizes}
use Rattle.table.specs.declared.Refusal.{Refusal}
use Rattle.large_table.specs.Reading.{large_rows, large_answer, LargeFormed, LargeSized}
use Rattle.large_table.specs.LargeRules.{large_rules}

pub large_render : (g : List ℕ) → Rendered (large_rows g) (large_rules g)
unfolding large_rows
large_render g =
    let n = vertex_count g in
    next (renders_placed 1 (length g) _ _ (ltb-true (length g) 2, lt-ltb (length g) 2))
    (next (renders_placed 2 0 _ _ (eqb-true n 0, eq-eqb n 0))
    (next (renders_placed 4 (length g) _ _ (differs (length g) (table_length n (table_edges g))))
    (next (owner_renders g)
    (next (end_renders g)
    none))))

-- ---- the reader refuses k at p exactly if rule k is the first whose condition holds, and it names p

pub large_refused : (g : List ℕ) (k p : ℕ) → (large_answer g ≡ refused k p) ↔ FirstRule (large_rules g) k p
unfolding large_answer
large_refused g = refused_by _ (large_render g) refl

-- ---- it accepts exactly the tables that are well formed but for the limits, with n and m

none_formed : (g : List ℕ) → NoRule (large_rules g) → LargeFormed g
none_formed g (fails d₁ (fails d₂ (fails d₄ (fails d₅ (fails d₆ no_rule))))) = record {
  some = omega (arith, d₂);
  size = elim (ℕ_discrete (length g) (table_length (vertex_count g) (table_edges g))) [ yes e ↦ e | no e ↦ absurd (d₄ e) ];
  owners = (owners_fit g).0 d₅;
  sources = ((ends_fit g).0 d₆).sources;
  targets = ((ends_fit g).0 d₆).targets;
}

formed_none : (g : List ℕ) → LargeFormed g → NoRule (large_rules g)
formed_none g w =
    fails (λ (h : length g < 2). omega (arith, w.size))
    (fails (λ (h : vertex_count g ≡ 0). omega (arith, w.some))
    (fails (λ (h : length g ≢ table_length (vertex_count g) (table_edges g)). h w.size)
    (fails ((owners_fit g).1 w.owners)
    (fails ((ends_fit g).1 (record { sources = w.sources; targets = w.targets })) no_rule))))

pub clean_formed : (g : List ℕ) → Clean (large_rows g) → LargeFormed g
clean_formed g c = none_formed g (clean_none (large_render g) c)

pub formed_clean : (g : List ℕ) → LargeFormed g → Clean (large_rows g)
formed_clean g w = none_clean (large_render g) (formed_none g w)

pub large_accepted : (g counts : List ℕ) → large_answer g ≡ accepted counts → LargeFormed g × (counts ≡ vertex_count g ∷ table_edges g ∷ [])
unfolding large_answer
large_accepted g counts e = let a = judge_accepted (large_rows g) _ counts e in (clean_formed g a.0, sym a.1)

pub large_accepts : (g : List ℕ) → LargeFormed g → large_answer g ≡ accepted (vertex_count g ∷ table_edges g ∷ [])
unfolding large_answer
large_accepts g w = judge_clean (large_rows g) _ (formed_clean g w)

-- ---- for a caller of `read`, whose rows are the reader's and then its own

pub large_sized : (g : List ℕ) (c : FilledSizes) → filling_answer (Ok c) ≡ large_answer g → LargeSized g c
large_sized g c e =
    let a = large_accepted g _ (sym e) in
    record { formed = a.0; vertices = cc a.1; edges = cc a.1 }

pub large_past : (g : List ℕ) (c : FilledSizes) → filling_answer (Ok c) ≡ large_answer g → (rs : List Row) (counts : List ℕ)
    → judge (large_rows g ++ rs) counts ≡ judge rs counts
large_past g c e rs counts = judge_past (large_rows g) rs counts (formed_clean g (large_sized g c e).formed)

pub large_stays : (g : List ℕ) (f : Refusal) → filling_answer (Err f) ≡ large_answer g → (rs : List Row) (counts : List ℕ)
    → judge (large_rows g ++ rs) counts ≡ filling_answer (Err f)
unfolding large_answer
large_stays g f e rs counts = judge_stays (large_rows g) rs _ counts f.number f.place (sym e)
