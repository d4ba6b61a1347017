-- Laws of words put one behind another, and of the words of a table with other edges.
use Rattle.std.specs.Prelude.{◌≡◌, refl, List, ◌++◌, ℕ, ◌+◌, ◌-◌, ◌*◌, ◌≤◌, ◌<◌, length, get_or, take, drop, set}
use Rattle.std.proofs.Common.{sym, ap, ◌∙◌, arith, length-append, get_or-append-add, get_or-take, get_or-drop}
use Rattle.std.proofs.Math.ListN.{get_or-append}
use Rattle.theory.specs.Logic.Range.{tabulate}
use Rattle.theory.proofs.Logic.ListLaws.{length_tabulate, get_d_tabulate}
use Rattle.table.specs.Table.{vertex_count, table_edges, table_length, table_in}
use Rattle.table.specs.TableLaws.{in_word}
use Rattle.table.specs.Answers.{written}
use Rattle.table.specs.AnswersLaws.{get_d_written}
use Rattle.table.specs.Placing.{placed}
use Rattle.table.specs.PlacingLaws.{placed_written, placed_join, written_join}
use Rattle.edit_rules.specs.EditParts.{Formed}
use Rattle.edit_rules.proofs.EditPartsLaws.{formed_room}
use Rattle.edit_rules.proofs.BufferLaws.{in_vertices, in_edges}
use Rattle.edit_rules.proofs.ListedPartLaws.{head, length_head, head_kept}
use Rattle.edit_trace.specs.Trace.{entry_count}
use Rattle.edit_run.specs.Gathered.{JoinedWords, Gathered, edge_words}

module _ (a : List ℕ) (m : ℕ) (b : List ℕ) (k : ℕ) (old : List ℕ) where
  abbrev fa : ℕ → ℕ
  fa x = get_or a x 0

  abbrev fb : ℕ → ℕ
  fb x = get_or b x 0

  pub joined : (w₁ w₂ : List ℕ) → m + k ≤ length old → w₁ ≡ placed 0 (tabulate m (λ i. get_or a i 0)) old → w₂ ≡ placed m (tabulate k (λ i. get_or b i 0)) w₁
      → JoinedWords a m b k w₂
  joined w₁ w₂ h p q =
      let A = tabulate m fa in
      let B = tabulate k fb in
      let la = length_tabulate m fa in
      let lb = length_tabulate k fb in
      let l = length-append A B in
      let at : m ≡ 0 + length A = omega arith in
      let e : w₂ ≡ written (A ++ B) old =
      q ∙ ap (λ (w : List ℕ). placed m B w) p ∙ ap (λ (z : ℕ). placed z B (placed 0 A old)) at ∙ placed_join 0 A B old (omega arith) ∙ placed_written (A ++ B) old in
      record {
        front = λ x hx. rw e (get_d_written (A ++ B) old x 0 (omega arith) ∙ get_or-append A B 0 x (omega arith) ∙ get_d_tabulate m fa 0 x hx);
        back = λ i hi.
            let j : m + i ≡ length A + i = omega arith in
            rw (e, j) (get_d_written (A ++ B) old (length A + i) 0 (omega arith) ∙ get_or-append-add A B i 0 ∙ get_d_tabulate k fb 0 i hi);
      }

-- the words from a place on
abbrev pub words_from : List ℕ → ℕ → List ℕ
words_from w at = take (length w - at) (drop at w)

word_from : (w : List ℕ) (at x : ℕ) → at + x < length w → get_or (words_from w at) x 0 ≡ get_or w (at + x) 0
word_from w at x h = get_or-take (length w - at) (drop at w) x 0 (omega arith) ∙ get_or-drop at w x 0

pub gathered : (buffer trace : List ℕ) {n m : ℕ} → Formed (table_in buffer) n m → length trace ≡ 1 + 2 * entry_count trace → (k : ℕ) → k ≤ entry_count trace
    → {S T : List ℕ} → JoinedWords (words_from buffer (2 + 2 * n)) m (words_from trace 1) k S
    → JoinedWords (words_from buffer (2 + 2 * n + m)) m (words_from trace (1 + entry_count trace)) k T → Gathered (table_in buffer) trace m k S T
gathered buffer trace {n} {m} f size k few s t =
    let room = formed_room buffer n m f in
    let v = f.vertices ∙ in_vertices buffer in
    let w = f.edges ∙ in_edges buffer in
    let word : (i : ℕ) → i < table_length n m → get_or buffer i 0 ≡ get_or (table_in buffer) i 0 =
    λ i h. sym (in_word buffer i (rw (v, w) at h)) in
    record {
      edge = λ x h. (
        s.front x h ∙ word_from buffer (2 + 2 * n) x (omega arith) ∙ word (2 + 2 * n + x) (omega arith) ∙ rw f.vertices,
        t.front x h ∙ word_from buffer (2 + 2 * n + m) x (omega arith) ∙ word (2 + 2 * n + m + x) (omega arith) ∙ rw (f.vertices, f.edges),
      );
      entry = λ i h. (
        s.back i h ∙ word_from trace 1 i (omega arith),
        t.back i h ∙ word_from trace (1 + entry_count trace) i (omega arith),
      );
    }

-- the words of a table with other edges
pub edges_put : (buffer : List ℕ) (n e top : ℕ) (sources ends b₁ b₂ b₃ b₄ : List ℕ) → n ≡ vertex_count buffer
    → table_length (vertex_count buffer) (table_edges buffer) ≤ length buffer → e ≤ top → table_length n top ≤ length buffer
    → b₁ ≡ set buffer 1 e → b₂ ≡ placed (2 + 2 * n) (tabulate e (λ i. get_or sources i 0)) b₁
    → b₃ ≡ placed (2 + 2 * n + e) (tabulate e (λ i. get_or ends i 0)) b₂ → b₄ ≡ placed (2 + 2 * n + 2 * e) (tabulate (2 * (top - e)) (λ i. 0)) b₃
    → b₄ ≡ written (edge_words buffer e sources ends top) buffer
edges_put buffer n e top sources ends b₁ b₂ b₃ b₄ v room few long q₁ q₂ q₃ q₄ =
    let S = tabulate e (λ i. get_or sources i 0) in
    let U = tabulate e (λ i. get_or ends i 0) in
    let Z : List ℕ = tabulate (2 * (top - e)) (λ i. 0) in
    let w₁ = head buffer e in
    let w₂ = w₁ ++ S in
    let w₃ = w₂ ++ U in
    let l₁ = length_head buffer e in
    let ls = length_tabulate e (λ i. get_or sources i 0) in
    let lu = length_tabulate e (λ i. get_or ends i 0) in
    let lz = length_tabulate {A = ℕ} (2 * (top - e)) (λ i. 0) in
    let l₂ = length-append w₁ S in
    let l₃ = length-append w₂ U in
    let r₁ : b₁ ≡ written w₁ buffer = q₁ ∙ head_kept buffer buffer room (λ i h. refl) e in
    let r₂ : b₂ ≡ written w₂ buffer = q₂ ∙ rw r₁ (written_join (2 + 2 * n) w₁ S buffer (omega arith) (omega arith)) in
    let r₃ : b₃ ≡ written w₃ buffer = q₃ ∙ rw r₂ (written_join (2 + 2 * n + e) w₂ U buffer (omega arith) (omega arith)) in
    q₄ ∙ rw r₃ (written_join (2 + 2 * n + 2 * e) w₃ Z buffer (omega arith) (omega arith))
