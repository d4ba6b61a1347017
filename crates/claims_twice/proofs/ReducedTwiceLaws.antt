-- The reduced game of the written table is the written table: the games agree, and what is written goes by the game alone.
use Rattle.std.specs.Prelude.{◌≡◌, refl, ◌↔◌, List, [], ◌∷◌, ℕ, ◌≤◌, ◌<◌, length, get_or, Result, Ok, Err}
use Rattle.std.proofs.Common.{sym, ap, ap₂, ◌∙◌, subst, arith}
use Rattle.std.proofs.Math.Bool.{So}
use Rattle.theory.specs.Games.Game.{Game, edge_count}
use Rattle.theory.specs.Order.Order.{order}
use Rattle.theory.specs.Classes.Reduction.{reduced, class_game, class_of}
use Rattle.theory.proofs.Classes.ReductionLaws.{class_of_reduced}
use Rattle.theory.proofs.Classes.SizeLaws.{reduced_size}
use Rattle.theory.specs.Games.Agreement.{Agree}
use Rattle.theory.proofs.Games.AgreementLaws.{agree_edge_count, agree_edges, agree_order, agree_class, agree_reduced}
use Rattle.theory.proofs.Classes.FixedPointLaws.{reduced_compares, reduced_antisymmetric, reduced_class, reduced_twice}
use Rattle.table.specs.Limits.{vertex_limit, edge_limit}
use Rattle.table.specs.Table.{vertex_count, table_edges, table_length, game_of}
use Rattle.table.specs.TableLaws.{game_n}
use Rattle.table.specs.TableWords.{edges_of, table_words}
use Rattle.table.specs.TableWordsLaws.{length_table_words, table_words_agree, table_words_one, edges_of_lists, length_edges_of}
use Rattle.table.specs.Answers.{Answer, accepted, refused}
use Rattle.table.specs.AnswersLaws.{accepted_inj, not_both, length_after}
use Rattle.table.specs.declared.Refusal.{Refusal}
use Rattle.table.specs.ReadingLaws.{read_accepted}
use Rattle.table.specs.WellFormed.{WellFormed}
use Rattle.marks.specs.Marks.{Marked}
use Rattle.classes.specs.ClassesCall.{class_total}
use Rattle.reduction.specs.TableCall.{table_rows, tabulation_answer, table_counts, class_table, TableCall}
use Rattle.reduction.specs.declared.TableCounts.{TableCounts}
use Rattle.reduction.proofs.TableRulesLaws.{table_accepted, table_accepts, table_clean}
use Rattle.claims.specs.WrittenMemory.{written_table}
use Rattle.claims.specs.Demands.{reduced_faithful, counts, table_is, table_edges_lem, table_read, table_leaves_marks, table_leaves_classes, written_mark, class_word}
use Rattle.claims_twice.specs.ReducedTwice.{SecondFits, SameAgain, ReducesTwice}

-- an output that holds a table of n vertices and e edges, which are within the limits
pub record Held (n e : ℕ) (output : List ℕ) : Type 0 where
  pub vertices : n ≤ vertex_limit
  pub edges : e ≤ edge_limit
  pub long : table_length n e ≤ length output

module _ {game marks spare classes output : List ℕ} {answer : Answer} {marks' spare' classes' output' : List ℕ}
    (call : TableCall reduced game marks spare classes output answer marks' spare' classes' output')
    (k n e : ℕ) (accepts : answer ≡ accepted (k ∷ n ∷ e ∷ [])) where
  abbrev G : Game
  G = game_of game

  abbrev T : List ℕ
  T = written_table n e output'

  abbrev R : Game
  R = reduced (game_of T)

  table_well : WellFormed T
  table_well = (read_accepted T _ (table_read reduced_faithful call k n e accepts)).0

  -- the reader's sizes of the written table
  sizes : (vertex_count T ≡ n) × (table_edges T ≡ e)
  sizes = let q = (read_accepted T _ (table_read reduced_faithful call k n e accepts)).1 in (cc q, cc q)

  agree : Agree (game_of T) (reduced G)
  agree = rw (table_is reduced_faithful call k n e accepts) (table_words_agree (reduced G) (edges_of (reduced G)) (edges_of_lists (reduced G)))

  pub held : Held n e output'
  held =
      let f = (table_accepted call _ accepts).0 in
      let well = f.classes_fit.order_fits.game in
      let c = counts reduced_faithful call k n e accepts in
      let few : n ≤ vertex_count game = omega (arith, reduced_size G, c.vertices, game_n game) in
      let less = table_edges_lem reduced_faithful call k n e accepts in
      let size : length (class_table reduced game) ≡ table_length n e =
      length_table_words (reduced G) (edges_of (reduced G)) ∙ ap₂ {C = ℕ} table_length c.vertices (length_edges_of (reduced G) ∙ c.edges) in
      let fits : table_length n e ≤ length output = omega (arith, f.output_fit, few, less) in record {
        vertices = omega (arith, few, well.vertices);
        edges = omega (arith, less, well.edges);
        long = rw (call.output_after, length_after (table_rows game marks spare classes output) (class_table reduced game) output (rw size fits)) fits;
      }

  -- the written table is that of its own reduced game
  again_table : table_words R (edges_of R) ≡ T
  again_table =
      table_words_one (agree_reduced agree) (edges_of R)
      ∙ table_words_one (reduced_twice G) (edges_of R)
      ∙ ap (table_words (reduced G)) (agree_edges (agree_reduced agree) ∙ agree_edges (reduced_twice G))
      ∙ sym (table_is reduced_faithful call k n e accepts)

  vertices_is : R.n ≡ n
  vertices_is = (agree_reduced agree).size ∙ (reduced_twice G).size ∙ (counts reduced_faithful call k n e accepts).vertices

  edges_is : edge_count R ≡ e
  edges_is = agree_edge_count (agree_reduced agree) ∙ agree_edge_count (reduced_twice G) ∙ (counts reduced_faithful call k n e accepts).edges

  -- its counts: as many classes as vertices
  again_counts : table_counts reduced T ≡ n ∷ n ∷ e ∷ []
  again_counts =
      let classes-is : class_total T ≡ n = unfold class_total game_of reduced class_game in vertices_is in
      cc (classes-is, vertices_is, edges_is)

  module _ {marks₂ spare₂ classes₂ output₂ : List ℕ} {answer₂ : Answer} {marks₂' spare₂' classes₂' output₂' : List ℕ}
      (call₂ : TableCall reduced T marks₂ spare₂ classes₂ output₂ answer₂ marks₂' spare₂' classes₂' output₂') where
    -- with buffers that are long enough for n and e the second call accepts
    pub accepts_again : SecondFits n e marks₂ spare₂ classes₂ output₂ → answer₂ ≡ accepted (n ∷ n ∷ e ∷ [])
    accepts_again room =
        table_accepts call₂ (record {
          classes_fit = record {
            order_fits = record { game = table_well; marks_fit = rw sizes.0 room.marks_fit; spare_fit = rw sizes.0 room.spare_fit };
            words_fit = rw sizes.0 room.classes_fit;
          };
          output_fit = rw (sizes.0, sizes.1) room.output_fit;
        }) ∙ ap accepted again_counts

    pub same_again : (given : List ℕ) → answer₂ ≡ accepted given → SameAgain game marks' classes' output' n e answer₂ marks₂' classes₂' output₂'
    same_again given accepts₂ =
        let f = table_accepted call₂ given accepts₂ in
        let c : answer₂ ≡ accepted (n ∷ n ∷ e ∷ []) = accepts₂ ∙ ap accepted (f.1 ∙ again_counts) in
        let clean₂ = table_clean T marks₂ spare₂ classes₂ output₂ f.0 in
        let clean = table_clean game marks spare classes output (table_accepted call _ accepts).0 in
        let inside : (c : ℕ) → c < n → c < (reduced G).n = λ c h. omega (arith, (counts reduced_faithful call k n e accepts).vertices) in
        -- the marks of the second call are the order of the reduced game
        let mark : (c d : ℕ) → c < n → d < n → Marked n marks₂' c d ↔ So (order (reduced G) c d) = λ c d hc hd.
        rw (agree_order agree, sizes.0) at (written_mark (table_leaves_marks call₂) clean₂ c d (rw sizes.0 hc) (rw sizes.0 hd)) in
        let word : (v : ℕ) → v < vertex_count game → get_or classes' v 0 ≡ class_of G v = class_word (table_leaves_classes call) clean in
        let class_lt : (v : ℕ) → v < vertex_count game → class_of G v < n = λ v h.
        omega (arith, class_of_reduced G v (unfold game_of in h), (counts reduced_faithful call k n e accepts).vertices) in record {
          counts = c;
          table = table_is reduced_faithful call₂ n n e c ∙ again_table;
          own = λ c h.
              class_word (table_leaves_classes call₂) clean₂ c (rw sizes.0 h) ∙ agree_class agree c ∙ reduced_class G c (inside c h);
          apart = λ c d hc hd s t. reduced_antisymmetric G c d (inside c hc) (inside d hd) ((mark c d hc hd).0 s) ((mark d c hd hc).0 t);
          compares = λ v w hv hw.
              let there = mark (class_of G v) (class_of G w) (class_lt v hv) (class_lt w hw) in
              let here = written_mark (table_leaves_marks call) clean v w hv hw in
              let q = reduced_compares G v w (unfold game_of in hv) (unfold game_of in hw) in
              rw (word v hv, word w hw) (λ m. here.1 (sym q ∙ there.0 m), λ m. there.1 (q ∙ here.0 m));
        }

-- ---- two calls in a row

module _ {game marks spare classes output marks₂ spare₂ classes₂ output₂ marks' spare' classes' output' : List ℕ} (r : Result TableCounts Refusal)
    (call : TableCall reduced game marks spare classes output (tabulation_answer r) marks' spare' classes' output') where
  pub twice_refused : (f : Refusal) → r ≡ Err f
      → ReducesTwice game marks spare classes output marks₂ spare₂ classes₂ output₂ (record { first = r; second = r })
      marks' spare' classes' output' marks₂ spare₂ classes₂ output₂
  twice_refused f q = record {
    first = call;
    refused = λ k p e. (e, refl, refl, refl, refl);
    second = λ k n e a. absurd (never a);
    accepts = λ k n e a. absurd (never a);
    same = λ k n e a. absurd (never a);
  }
    where
      never : {counts : List ℕ} → tabulation_answer r ≡ accepted counts → ⊥
      never a = not_both (sym (ap tabulation_answer q) ∙ a)

  pub twice_accepted : {marks₂' spare₂' classes₂' output₂' : List ℕ} (c : TableCounts) (v : Result TableCounts Refusal) → r ≡ Ok c
      → TableCall reduced (written_table c.vertices c.edges output') marks₂ spare₂ classes₂ output₂ (tabulation_answer v) marks₂' spare₂' classes₂' output₂'
      → ReducesTwice game marks spare classes output marks₂ spare₂ classes₂ output₂ (record { first = Ok c; second = v })
      marks' spare' classes' output' marks₂' spare₂' classes₂' output₂'
  twice_accepted {marks₂'} {spare₂'} {classes₂'} {output₂'} c v q call₂ = record {
    first = told;
    refused = λ k p e. absurd (not_both (sym e));
    second = next;
    accepts = λ k n e a. accepts_again told k n e a (next k n e a);
    same = λ k n e a. same_again told k n e a (next k n e a);
  }
    where
      told : TableCall reduced game marks spare classes output (tabulation_answer (Ok c)) marks' spare' classes' output'
      told = subst (λ (x : Result TableCounts Refusal). TableCall reduced game marks spare classes output (tabulation_answer x) marks' spare' classes' output') q call

      next : (k n e : ℕ) → tabulation_answer (Ok c) ≡ accepted (k ∷ n ∷ e ∷ [])
          → TableCall reduced (written_table n e output') marks₂ spare₂ classes₂ output₂ (tabulation_answer v) marks₂' spare₂' classes₂' output₂'
      next k n e a =
          let p = accepted_inj a in
          let hn : c.vertices ≡ n = cc p in
          let he : c.edges ≡ e = cc p in
          rw (← hn, ← he) call₂
