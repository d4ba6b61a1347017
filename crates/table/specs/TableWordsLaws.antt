-- The reader accepts the table of a game that fits, and the table stands for that game.
use Rattle.std.specs.Prelude.{◌≡◌, ◌↔◌, List, map, eqb}
use Rattle.std.proofs.Math.Path.{refl, sym, ap}
use Rattle.std.proofs.Common.{◌∙◌, arith}
use Rattle.std.proofs.Math.Bool.{So}
use Prim.Native.Nat.{ℕ, ◌*◌, ◌≤◌, ◌<◌}
use Rattle.std.proofs.Math.Nat.{le_antisymm}
use Rattle.std.proofs.Math.Decide.{dec_lt}
use Rattle.std.proofs.Math.ListN.{length, get_or, get_or-map}
use Rattle.std.proofs.lemmas.List.{length-map}
use borrow.Author.Tests.{eqb-true, eq-eqb}
use Rattle.theory.proofs.Logic.BoolsLaws.{So_ext, and_in, and_out}
use Rattle.theory.specs.Logic.Range.{count, tabulate, pairs_of, Before}
use Rattle.theory.proofs.Logic.RangeLaws.{any_in, any_out}
use Rattle.theory.proofs.Logic.CountLaws.{count_inject}
use Rattle.theory.proofs.Logic.ListLaws.{length_tabulate, get_d_tabulate, tabulate_ext}
use Rattle.theory.specs.Games.Game.{Player, even, odd, Game, Succ, Total, edge_count}
use Rattle.theory.proofs.Plans.LinkLaws.{pair_is_lem, linked_at, linked_find, pairs_of_in, pairs_of_out, pairs_of_single, pairs_of_ascend, length_pairs_below}
use Rattle.theory.specs.Classes.Totals.{out_degree}
use Rattle.theory.specs.Games.Agreement.{Agree}
use Rattle.table.specs.Limits.{vertex_limit, edge_limit}
use Rattle.table.specs.Table.{vertex_count, table_edges, priority_at, owner_at, source_at, target_at, table_length, player_of, is_edge, game_of}
use Rattle.table.specs.WellFormed.{WellFormed}
use Rattle.table.specs.ColumnsLaws.{Columns, length_columns, priority_column, owner_column, source_column, target_column}
use Rattle.table.specs.TableWords.{owner_word, edges_of, table_words, Lists}

-- ---- owners as words

pub owner_le : (a : Player) → owner_word a ≤ 1
unfolding owner_word
owner_le even = omega arith
owner_le odd = omega arith

pub player_owner : (a : Player) → player_of (owner_word a) ≡ a
unfolding owner_word player_of
player_owner even = refl
player_owner odd = refl

-- ---- words by place

module _ (K : Game) (es : List (ℕ × ℕ)) where
  abbrev table : List ℕ
  table = table_words K es

  game_columns : Columns K.n (length es) (tabulate K.n K.priority) (tabulate K.n (λ c. owner_word (K.owner c)))
      (map (λ (e : ℕ × ℕ). e.0) es) (map (λ (e : ℕ × ℕ). e.1) es)
  game_columns = record {
    priorities = length_tabulate K.n K.priority;
    owners = length_tabulate K.n (λ c. owner_word (K.owner c));
    sources = length-map es (λ (e : ℕ × ℕ). e.0);
    targets = length-map es (λ (e : ℕ × ℕ). e.1);
  }

  vertices_is : vertex_count table ≡ K.n
  unfolding table_words
  vertices_is = refl

  edges_is : table_edges table ≡ length es
  unfolding table_words
  edges_is = refl

  pub length_table_words : length table ≡ table_length K.n (length es)
  unfolding table_words
  length_table_words = length_columns game_columns

  priority_is : (v : ℕ) → v < K.n → priority_at table v ≡ K.priority v
  unfolding table_words
  priority_is v h = priority_column game_columns v h ∙ get_d_tabulate K.n K.priority 0 v h

  owner_is : (v : ℕ) → v < K.n → owner_at table v ≡ owner_word (K.owner v)
  unfolding table_words
  owner_is v h = owner_column game_columns v h ∙ get_d_tabulate K.n (λ c. owner_word (K.owner c)) 0 v h

  pub source_is : (j : ℕ) → j < length es → source_at table j ≡ (get_or es j (0, 0)).0
  unfolding table_words
  source_is j h = source_column game_columns j h ∙ get_or-map (λ (e : ℕ × ℕ). e.0) es j (0, 0)

  pub target_is : (j : ℕ) → j < length es → target_at table j ≡ (get_or es j (0, 0)).1
  unfolding table_words
  target_is j h = target_column game_columns j h ∙ get_or-map (λ (e : ℕ × ℕ). e.1) es j (0, 0)

  -- ---- the table of a game that fits, with its edges listed

  module _ (lists : Lists K es) where
    ends : (j : ℕ) → j < length es → ((get_or es j (0, 0)).0 < K.n) × Succ K (get_or es j (0, 0)).0 (get_or es j (0, 0)).1
    ends j h = (lists.edges _ _).0 (linked_at es j h)

    -- an edge of K's has its number
    number : (c d : ℕ) → c < K.n → Succ K c d → (j : ℕ) × (j < length es) × (source_at table j ≡ c) × (target_at table j ≡ d)
    number c d h s =
        let (j, l, e) = linked_find es c d ((lists.edges c d).1 (h, s)) in
        (j, l, source_is j l ∙ ap (λ (x : ℕ × ℕ). x.0) e, target_is j l ∙ ap (λ (x : ℕ × ℕ). x.1) e)

    pub table_words_well : 0 < K.n → K.n ≤ vertex_limit → length es ≤ edge_limit → Total K → WellFormed table
    table_words_well some few fit total = record {
      some = omega (arith, vertices_is);
      vertices = omega (arith, vertices_is);
      edges = omega (arith, edges_is);
      size = omega (arith, length_table_words, vertices_is, edges_is);
      owners = λ v h. let l : v < K.n = omega (arith, vertices_is) in rw (owner_is v l) (owner_le (K.owner v));
      sources = λ j h. let l : j < length es = omega (arith, edges_is) in omega (arith, source_is j l, vertices_is, (ends j l).0);
      targets = λ j h. let l : j < length es = omega (arith, edges_is) in omega (arith, target_is j l, vertices_is, (ends j l).1.inside);
      total = λ v h.
          let l : v < K.n = omega (arith, vertices_is) in
          let t = total v l in
          let (j, hj, e, f) = number v t.0 l t.1 in
          (j, omega (arith, edges_is), e);
    }

    -- its edges are exactly those of K
    pub table_words_edge : (c d : ℕ) → So ((game_of table).edge c d) ↔ ((c < K.n) × Succ K c d)
    unfolding game_of is_edge
    table_words_edge c d = (
      λ t.
          let r = any_out t in
          let q = and_out r.2 in
          let l : r.0 < length es = omega (arith, edges_is, r.1) in
          let e : (get_or es r.0 (0, 0)).0 ≡ c = sym (source_is r.0 l) ∙ eqb-true _ _ q.0 in
          let f : (get_or es r.0 (0, 0)).1 ≡ d = sym (target_is r.0 l) ∙ eqb-true _ _ q.1 in
          rw (e, f) at (ends r.0 l),
      λ s.
          let (j, hj, e, f) = number c d s.0 s.1 in
          any_in _ _ j (omega (arith, edges_is)) (and_in (eq-eqb _ _ e) (eq-eqb _ _ f)),
    )

    pub table_words_agree : Agree (game_of table) K
    unfolding game_of
    table_words_agree = record {
      size = vertices_is;
      priority = λ v h. priority_is v (rw vertices_is at h);
      apart = λ v w h k e. e;
      owner = λ v h. ap player_of (owner_is v (rw vertices_is at h)) ∙ player_owner (K.owner v);
      edge = λ v w h k. So_ext
          (λ t. ((table_words_edge v w).0 t).1.along)
          (λ t. (table_words_edge v w).1 (rw vertices_is at h, record { inside = rw vertices_is at k; along = t }));
    }

    -- as many of them have the source c as edges leave c in K
    pub table_words_degree : (c : ℕ) → c < K.n → count (length es) (λ j. eqb (source_at table j) c) ≡ out_degree K c
    unfolding out_degree
    table_words_degree c h = le_antisymm
        (count_inject (length es) K.n _ _ Partner
        (λ j l t.
        let e = sym (source_is j l) ∙ eqb-true _ _ t in
        let s = (ends j l).1 in
        ((get_or es j (0, 0)).1, s.inside, rw e at s.along, pair_is_lem e refl))
        (λ i j d hi hj hd p q. one i j hi hj (p ∙ sym q)))
        (count_inject K.n (length es) _ _ (λ d j. Partner j d)
        (λ d l t.
        let (j, hj, e) = linked_find es c d ((lists.edges c d).1 (h, record { inside = l; along = t })) in
        (j, hj, eq-eqb _ _ (source_is j hj ∙ ap (λ (x : ℕ × ℕ). x.0) e), e))
        (λ d d' j hd hd' hj p q. ap (λ (x : ℕ × ℕ). x.1) (sym p ∙ q)))
      where
        Partner : ℕ → ℕ → Type 0
        Partner j d = get_or es j (0, 0) ≡ (c, d)

        one : (i j : ℕ) → i < length es → j < length es → get_or es i (0, 0) ≡ get_or es j (0, 0) → i ≡ j
        one i j hi hj e = elim (dec_lt i j) [
          | yes l ↦ absurd (lists.single i j l hj e)
          | no m ↦ elim (dec_lt j i) [ yes l ↦ absurd (lists.single j i l hi (sym e)) | no m' ↦ omega arith ]
        ]

-- the ascending list is one, and it ascends
pub edges_of_lists : (K : Game) → Lists K (edges_of K)
edges_of_lists K = record {
  edges = λ c d. (
    λ t. let p = pairs_of_out K.n K.edge c d t in (p.0, record { inside = p.1; along = p.2 }),
    λ s. pairs_of_in K.n K.edge c d s.0 s.1.inside s.1.along,
  );
  single = pairs_of_single K.n K.edge;
}

pub edges_of_ascend : (K : Game) (i j : ℕ) → i < j → j < length (edges_of K) → Before (get_or (edges_of K) i (0, 0)) (get_or (edges_of K) j (0, 0))
edges_of_ascend K = pairs_of_ascend K.n K.edge

pub length_edges_of : (K : Game) → length (edges_of K) ≡ edge_count K
unfolding pairs_of edge_count
length_edges_of K = length_pairs_below K.n K.edge (K.n * K.n)

-- ---- games that agree have one table

module _ {G K : Game} (e : Agree G K) where
  pub table_words_one : (es : List (ℕ × ℕ)) → table_words G es ≡ table_words K es
  unfolding table_words
  table_words_one es =
      rw (
        tabulate_ext G.n G.priority K.priority e.priority,
        tabulate_ext G.n (λ c. owner_word (G.owner c)) (λ c. owner_word (K.owner c)) (λ c h. ap owner_word (e.owner c h)),
        e.size,
      )
