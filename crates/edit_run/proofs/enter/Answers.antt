-- Each way out is what the judge says of the entry by what is held, and the counts are taken over to the next.
use Rattle.std.proofs.lemmas.Result.{err_from_is_err_and}
use Rattle.std.proofs.Common.{◌+◌, ◌≤◌, ◌<◌, ℕ, List, [], length, get_or, refl, sym, ap, ◌∙◌, arith}
use Rattle.table.specs.Answers.{Row, judge}
use Rattle.table.specs.AnswersLaws.{judge_accepted}
use Rattle.edit_links.specs.Links.{Pairs, Linked}
use Rattle.edit_run.specs.Tally.{Tallied}
use Rattle.edit_run.specs.TallyLaws.{link_high, tallied_more}
use Rattle.edit_run.specs.EnterLaws.{stepped_le, counts_few, facts_are}
use Rattle.edit_run.proofs.enter.Goals as goal

-- both ends are vertices, and the source's degree is held; no more copies than edges of the source, and no more of these than edges
record Fit (S T : List ℕ) (m N n i : ℕ) (links copies degrees : List ℕ) (edges : ℕ) : Type 0 where
  pub source : get_or S (m + i) 0 < n
  pub target : get_or T (m + i) 0 < n
  pub wide : get_or S (m + i) 0 < length degrees
  pub copies_few : get_or copies (m + i) 0 ≤ get_or degrees (get_or S (m + i) 0) 0
  pub edges_few : get_or degrees (get_or S (m + i) 0) 0 ≤ edges
  pub next_few : get_or links (m + i) 0 ≤ N

fit : {S T : List ℕ} {m N n i : ℕ} {links copies degrees : List ℕ} {edges : ℕ} → Pairs S T N n → m ≤ N → Linked S T m N links → m + i < N
    → Tallied S T m N i copies degrees edges → N < length copies → n ≤ length degrees → Fit S T m N n i links copies degrees edges
fit {S} {T} {m} {N} {n} {i} {links} {copies} {degrees} pairs le linked below tally long high =
    let source = pairs.source (m + i) below in
    let wide : get_or S (m + i) 0 < length degrees = omega (arith, source, high) in
    let few = counts_few _ _ _ _ le _ linked _ below _ _ _ tally long wide in
    record {
      source = source;
      target = pairs.target (m + i) below;
      wide = wide;
      copies_few = few.0;
      edges_few = few.1;
      next_few = link_high _ _ _ _ le _ linked _ below _ _ _ tally long wide;
    }

pub overflow_cast-k : goal.overflow_cast-k
overflow_cast-k c =
    let p = c.requires.pairs in
    let q = c.requires.n_le_vertex_limit in
    omega (arith, fit p.0 p.1 p.2 p.3 c.requires.tallied q.3 q.4, q)

pub overflow_cast-s : goal.overflow_cast-s
overflow_cast-s c = omega (arith, c.requires.pairs.0.source _ c.requires.pairs.3, c.requires.n_le_vertex_limit)

pub overflow_cast-t : goal.overflow_cast-t
overflow_cast-t c = omega (arith, c.requires.pairs.0.target _ c.requires.pairs.3, c.requires.n_le_vertex_limit)

pub offset_bounds-degrees-s : goal.offset_bounds-degrees-s
offset_bounds-degrees-s c = omega (arith, c.requires.pairs.0.source _ c.requires.pairs.3, c.requires.n_le_vertex_limit)

pub bounds-degrees-s : goal.bounds-degrees-s
bounds-degrees-s c = omega (arith, c.requires.pairs.0.source _ c.requires.pairs.3, c.requires.n_le_vertex_limit)

pub overflow_cast-degree : goal.overflow_cast-degree
overflow_cast-degree c =
    let p = c.requires.pairs in
    let q = c.requires.n_le_vertex_limit in
    omega (arith, fit p.0 p.1 p.2 p.3 c.requires.tallied q.3 q.4, q)

pub returns-in_err-judge_edit : goal.returns-in_err-judge_edit
returns-in_err-judge_edit c =
    let h = err_from_is_err_and c.from_residual.result c.from_residual.ensures.1 in
    let p = c.requires.pairs in
    let q = c.requires.n_le_vertex_limit in
    let f = fit p.0 p.1 p.2 p.3 c.requires.tallied q.3 q.4 in
    let facts = facts_are _ _ _ _ p.1 _ p.2 _ p.3 _ _ _ c.requires.tallied q.3 f.wide _ _ _ c.find_edit.ensures in
    rw (h.1, h.2) (c.in_err-judge_edit.ensures ∙ ap (λ (rs : List Row). judge rs []) facts, refl, refl)

pub overflow_cast-next : goal.overflow_cast-next
overflow_cast-next c =
    let p = c.requires.pairs in
    let q = c.requires.n_le_vertex_limit in
    omega (arith, fit p.0 p.1 p.2 p.3 c.requires.tallied q.3 q.4, p.0.few)

pub offset_bounds-copies-next : goal.offset_bounds-copies-next
offset_bounds-copies-next c =
    let p = c.requires.pairs in
    let q = c.requires.n_le_vertex_limit in
    omega (arith, fit p.0 p.1 p.2 p.3 c.requires.tallied q.3 q.4, p.0.few)

pub bounds-copies-next : goal.bounds-copies-next
bounds-copies-next c =
    let p = c.requires.pairs in
    let q = c.requires.n_le_vertex_limit in
    omega (arith, fit p.0 p.1 p.2 p.3 c.requires.tallied q.3 q.4, q)

pub step-requires : goal.step-requires
step-requires c =
    let p = c.requires.pairs in
    let q = c.requires.n_le_vertex_limit in
    let f = fit p.0 p.1 p.2 p.3 c.requires.tallied q.3 q.4 in
    (f.copies_few, omega (arith, f, q))

pub overflow_cast-degrees : goal.overflow_cast-degrees
overflow_cast-degrees c =
    let a = c.args in
    let p = c.requires.pairs in
    let q = c.requires.n_le_vertex_limit in
    let y = a.m + a.i in
    let le = stepped_le (get_or a.degrees.now (get_or a.sources.now y 0) 0) (get_or a.copies.now y 0) in
    omega (arith, c.step.ensures, le, fit p.0 p.1 p.2 p.3 c.requires.tallied q.3 q.4, q)

pub offset_bounds-degrees-s-2 : goal.offset_bounds-degrees-s-2
offset_bounds-degrees-s-2 c = omega (arith, c.requires.pairs.0.source _ c.requires.pairs.3, c.requires.n_le_vertex_limit)

pub bounds-degrees-s-2 : goal.bounds-degrees-s-2
bounds-degrees-s-2 c = omega (arith, c.requires.pairs.0.source _ c.requires.pairs.3, c.requires.n_le_vertex_limit)

pub step-requires-2 : goal.step-requires-2
step-requires-2 c =
    let p = c.requires.pairs in
    let q = c.requires.n_le_vertex_limit in
    (omega (arith, fit p.0 p.1 p.2 p.3 c.requires.tallied q.3 q.4), q.1)

pub returns : goal.returns
returns c =
    let p = c.requires.pairs in
    let q = c.requires.n_le_vertex_limit in
    let f = fit p.0 p.1 p.2 p.3 c.requires.tallied q.3 q.4 in
    let facts = facts_are _ _ _ _ p.1 _ p.2 _ p.3 _ _ _ c.requires.tallied q.3 f.wide _ _ _ c.find_edit.ensures in (
      (judge_accepted _ [] [] (sym (c.in_ok-judge_edit.ensures ∙ ap (λ (rs : List Row). judge rs []) facts))).0,
      rw (c.flip.ensures, c.step.ensures, c.step-2.ensures)
          (tallied_more _ _ _ _ p.1 _ p.2 _ p.3 _ _ _ c.requires.tallied q.3 f.wide),
    )
