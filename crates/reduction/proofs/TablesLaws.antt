-- Laws of the table of a game of classes: the words that the code puts together are it.
use Rattle.std.specs.Prelude.{◌≡◌, refl, Bool, true, false, get_or, set}
use Rattle.std.proofs.Math.Path.{sym, ap}
use Rattle.std.proofs.Common.{◌∙◌, length-append}
use mathlib.Core.List.{List, [], ◌∷◌, ◌++◌, map, append_assoc}
use Prim.Native.Nat.{ℕ, zero, suc, ◌+◌, ◌*◌, ◌≤◌, ◌<◌}
use native.Mathlib.Omega.{arith}
use Rattle.std.proofs.Math.ListN.{length, length-map}
use Rattle.theory.specs.Logic.Range.{tabulate, pairs_of}
use Rattle.theory.proofs.Logic.ListLaws.{tabulate_ext, length_tabulate}
use Rattle.theory.specs.Games.Game.{Game}
use Rattle.theory.specs.Order.Order.{order}
use Rattle.theory.specs.Classes.Reduction.{representative, class_game, quotient, reduced}
use Rattle.theory.proofs.Classes.QuotientLaws.{rep_lt}
use Rattle.table.specs.Table.{vertex_count, owner_at, player_of, game_of}
use Rattle.table.specs.Answers.{written}
use Rattle.table.specs.WellFormed.{WellFormed}
use Rattle.table.specs.TableWords.{owner_word, edges_of, table_words}
use Rattle.table.specs.TableWordsLaws.{length_edges_of}
use Rattle.classes.specs.ClassesCall.{class_total, class_words}
use Rattle.table.specs.Placing.{placed}
use Rattle.table.specs.Listing.{sources_of, targets_of}
use Rattle.table.specs.PlacingLaws.{written_join, written_two}
use Rattle.classes.specs.Numbering.{classes_in, Represented}
use Rattle.reduction_edges.specs.Rows.{game_by, Listed}
use Rattle.reduction_edges.proofs.ListingLaws.{game_by_n}
use Rattle.reduction.specs.Tables.{head_by, spread, TableFilled}
use Rattle.reduction.proofs.SourcesLaws.{sources_spread, written_over}

-- ---- the words of a table, part by part

pub head_parts : (k e : ℕ) (priorities owners sources old o₁ o₂ o₃ o₄ : List ℕ)
    → length priorities ≡ k → length owners ≡ k → 2 + 2 * k ≤ length old
    → o₁ ≡ set (set old 0 k) 1 e → o₂ ≡ placed 2 priorities o₁ → o₃ ≡ placed (2 + k) owners o₂ → o₄ ≡ placed (2 + 2 * k) sources o₃
    → o₄ ≡ written (k ∷ e ∷ (priorities ++ (owners ++ sources))) old
head_parts k e P O S old o₁ o₂ o₃ o₄ lp lo room q₁ q₂ q₃ q₄ =
    let w₁ = k ∷ e ∷ [] in
    let w₂ = w₁ ++ P in
    let w₃ = w₂ ++ O in
    let l₂ = length-append w₁ P in
    let l₃ = length-append w₂ O in
    let r₁ : o₁ ≡ written w₁ old = q₁ ∙ written_two k e old (omega arith) in
    let r₂ : o₂ ≡ written w₂ old = q₂ ∙ rw r₁ (written_join 2 w₁ P old refl (omega arith)) in
    let r₃ : o₃ ≡ written w₃ old = q₃ ∙ rw r₂ (written_join (2 + k) w₂ O old (omega arith) (omega arith)) in
    let r₄ : o₄ ≡ written (w₃ ++ S) old = q₄ ∙ rw r₃ (written_join (2 + 2 * k) w₃ S old (omega arith) (omega arith)) in
    r₄ ∙ simp append_assoc

-- an owner is 0 or 1
owner_word_lem : (w : ℕ) → w ≤ 1 → w ≡ owner_word (player_of w)
unfolding owner_word player_of
owner_word_lem zero h = refl
owner_word_lem (suc zero) h = refl
owner_word_lem (suc (suc w)) h = absurd (omega arith)

-- a class has the priority and the owner of its representative
game_by_priority : (drop : Bool) (G : Game) (c : ℕ) → (game_by drop G).priority c ≡ G.priority (representative G.n (order G) c)
unfolding game_by quotient reduced class_game
game_by_priority true G c = refl
game_by_priority false G c = refl

game_by_owner : (drop : Bool) (G : Game) (c : ℕ) → (game_by drop G).owner c ≡ G.owner (representative G.n (order G) c)
unfolding game_by quotient reduced class_game
game_by_owner true G c = refl
game_by_owner false G c = refl

-- the words by the representatives and the listed edges are those of the game of classes
module _ (game reps : List ℕ) (drop : Bool) (k e : ℕ) (well : WellFormed game) (represented : Represented (game_of game).n (order (game_of game)) reps)
    (total : k ≡ classes_in (game_of game)) (count : e ≡ length (pairs_of k (game_by drop (game_of game)).edge)) where
  abbrev K : Game
  K = game_by drop (game_of game)

  abbrev es : List (ℕ × ℕ)
  es = pairs_of k K.edge

  size : k ≡ K.n
  size = total ∙ sym (game_by_n drop (game_of game))

  edges_size : es ≡ edges_of K
  edges_size = ap (λ (n : ℕ). pairs_of n K.edge) size

  priorities : tabulate k (λ c. get_or game (2 + get_or reps c 0) 0) ≡ tabulate K.n K.priority
  unfolding game_of
  priorities =
      tabulate_ext k _ _ (λ c h. rw (represented.lowest c (omega arith)) (sym (game_by_priority drop (game_of game) c)))
      ∙ ap (λ (n : ℕ). tabulate n K.priority) size

  owners : tabulate k (λ c. get_or game (2 + vertex_count game + get_or reps c 0) 0) ≡ tabulate K.n (λ c. owner_word (K.owner c))
  unfolding game_of
  owners =
      tabulate_ext k _ _ (λ c h.
      let l : c < classes_in (game_of game) = omega arith in
      rw (represented.lowest c l, game_by_owner drop (game_of game) c)
      (owner_word_lem (owner_at game (representative (vertex_count game) (order (game_of game)) c)) (well.owners _ (rep_lt (game_of game) c l))))
      ∙ ap (λ (n : ℕ). tabulate n (λ c. owner_word (K.owner c))) size

  table_words_lem : head_by game reps k e (sources_of es) ++ targets_of es ≡ table_words K (edges_of K)
  unfolding head_by table_words
  table_words_lem =
      let m : e ≡ length (edges_of K) = count ∙ ap length edges_size in
      let a : sources_of es ≡ map (λ x. x.0) (edges_of K) = ap sources_of edges_size in
      let b : targets_of es ≡ map (λ x. x.1) (edges_of K) = ap targets_of edges_size in
      simp append_assoc (cc (size, m, priorities, owners, a, b))

  head_length : length (head_by game reps k e (sources_of es)) ≡ 2 + 2 * k + e
  unfolding head_by
  head_length = simp (length-append, length_tabulate) (omega (arith, length-map es (λ (x : ℕ × ℕ). x.0), count))

  -- all is written: the targets, the targets again, and the words before them
  pub table_filled : (classes output classes' o₁ o₂ o₃ stops : List ℕ) (stop : ℕ) → classes' ≡ written (class_words game) classes
      → 2 + 2 * k + e + e ≤ length output → Listed k K.edge (2 + 2 * k) k output o₁ stops stop
      → o₂ ≡ placed (2 + 2 * k + e) (tabulate e (λ i. get_or o₁ (2 + 2 * k + i) 0)) o₁ → o₃ ≡ written (head_by game reps k e (spread (2 + 2 * k) stops k)) o₂
      → TableFilled (game_by drop) game classes output (record { classes = k; vertices = k; edges = e }) classes' o₃
  unfolding pairs_of
  table_filled classes output classes' o₁ o₂ o₃ stops stop p room listed q₂ q₃ =
      let q : o₃ ≡ written (head_by game reps k e (sources_of es)) o₂ = q₃ ∙ ap (λ (s : List ℕ). written (head_by game reps k e s) o₂) (sources_spread listed) in
      let n : e ≡ length (targets_of es) = count ∙ sym (length-map es (λ (x : ℕ × ℕ). x.1)) in
      record {
        class_count_lem = unfold class_total game_of in total;
        vertex_count_lem = size;
        edge_count_lem = count ∙ ap length edges_size ∙ length_edges_of K;
        classes_after = p;
        output_after = written_over (2 + 2 * k) e (targets_of es) output _ o₁ o₂ o₃ n head_length room listed.targets.after q₂ q
            ∙ ap (λ (ws : List ℕ). written ws output) table_words_lem;
      }
