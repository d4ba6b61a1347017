-- Laws of rounds over rows: the first round is pass 0, a later one is the pass after, and the one that takes nothing out is the last.
use Rattle.std.specs.Prelude.{◌≡◌, refl, Bool, true, false, List, ℕ, ◌+◌, ◌<◌, eqb, ltb}
use Rattle.std.proofs.Common.{sym, ap, ◌∙◌, subst, inl, inr, arith, eqb-true, eq-eqb, ltb-true, lt-ltb, le-ltb}
use Rattle.std.proofs.Math.Path.{ap₂}
use Rattle.std.proofs.Math.Bool.{not, So, not-not}
use Rattle.std.proofs.Math.Decide.{ℕ_discrete}
use Rattle.theory.specs.Logic.Bools.{◌&◌, ◌or◌}
use Rattle.theory.proofs.Logic.BoolsLaws.{decide, clash, So_ext, eqb_flip, So_not, and_in, and_out, and_fails, and_true, or_left, or_right, or_out, not_in, not_out, and_one, and_first}
use Rattle.theory.specs.Logic.Range.{any_below}
use Rattle.theory.proofs.Logic.RangeLaws.{any_in, any_ext}
use Rattle.theory.specs.Order.Passes.{Rel}
use Rattle.theory.specs.Order.Rounds.{cleared}
use Rattle.theory.proofs.Order.RoundsLaws.{cleared_none, cleared_some, cleared_le}
use Rattle.theory.specs.Games.Game.{Game, Total}
use Rattle.theory.specs.Order.Order.{any_next, equal_priority}
use Rattle.theory.proofs.Order.OrderLaws.{any_next_in}
use Rattle.theory.specs.Order.Rows.{fall, loses, taken, Mirrored, AfterRound}
use Rattle.theory.proofs.Order.RowsLaws.{fall_same, loses_same, loses_none, mirrored_by_same, mirrored_by_out, taken_in, round_start, round_next, last_count, last_left}
use Rattle.table.specs.Table.{vertex_count, priority_at, owner_at, game_of}
use Rattle.table.specs.WellFormed.{WellFormed}
use Rattle.order_sets.specs.Sets.{Is, With, PutIn, united_in, struck}
use Rattle.order_sets.specs.MembersLaws.{kept_end}
use Rattle.order_sets.specs.Losses.{differs, EdgeSets, Whole, FellIn, LossesIn, GameLosses}
use Rattle.order_sets.specs.LossesLaws.{near_is, next_vertex, loses_vertex}
use Rattle.order_sets.specs.Removal.{TakenIn}
use Rattle.order_sets.specs.RemovalLaws.{out_count}
use Rattle.order_sets.specs.Reverses.{CompletedIn}
use Rattle.order_sets.specs.Rounds.{unequal, equal, AllIn, PartedIn, StartedIn, BegunIn, RoundIn, SettledIn}

below_next : (q : ℕ → Bool) (v u : ℕ) → ((eqb u v & q v) or (ltb u v & q u)) ≡ ltb u (v + 1) & q u
below_next q v u =
    So_ext
    (λ t. elim (or_out t) [
      | inl a ↦ (let c = and_out a in
          let e = eqb-true u v c.0 in
          and_in (lt-ltb u (v + 1) (omega arith)) (subst (λ (i : ℕ). So (q i)) (sym e) c.1))
      | inr a ↦ (let c = and_out a in and_in (lt-ltb u (v + 1) (omega (arith, ltb-true u v c.0))) c.1)
    ])
    (λ t. let c = and_out t in elim (ℕ_discrete u v) [
      | yes e ↦ or_left _ (and_in (eq-eqb u v e) (subst (λ (i : ℕ). So (q i)) e c.1))
      | no d ↦ or_right _ (and_in (lt-ltb u v (omega (arith, ltb-true u (v + 1) c.0))) c.1)
    ])

-- ---- what was taken out, as the rows that changed tell it

module _ (B : ℕ) (G : Game) (edges next : Rel) (losing : ℕ → Bool) (old : Rel) (c : ℕ) (related lost falls : Rel) (s : EdgeSets B G edges)
    (t : TakenIn B edges next losing B old c related lost falls) where
  taken_left : (u x : ℕ) → u < B → x < B → related u x ≡ old u x & not (struck losing next u x)
  taken_left u x h k = t.left u x h k ∙ ap (λ b. old u x & not b) (kept_end losing B (λ v. next v x) B (omega arith) u h)

  struck_is : (v w : ℕ) → v < B → w < B → struck losing lost v w ≡ struck losing next v w
  struck_is v w hv hw =
      So_ext
      (λ o. let a = and_out o in and_in a.0 (sym (t.loss v hv a.0 w hw) ∙ a.1))
      (λ o. let a = and_out o in and_in a.0 (t.loss v hv a.0 w hw ∙ a.1))

  taken_fell : FellIn B G related lost falls losing
  taken_fell v a w hv ha hw o i j r =
      let k : a < B = omega (arith, ha, s.small) in
      t.fallen G s a k o v w hv hw i j r ∙ fall_same G _ _ _ _ w (λ x h. sym (t.loss a k o x (omega (arith, h, s.small)))) (λ x h. refl)

-- ---- the first round

-- a row is the vertices of another priority
pub unequal_row : (g : List ℕ) (v x : ℕ) → differs g 2 (vertex_count g) (priority_at g v) x ≡ unequal (game_of g) v x
unfolding differs unequal equal_priority game_of
unequal_row g v x = ap (λ b. ltb x (vertex_count g) & not b) (eqb_flip (priority_at g x) (priority_at g v))

-- a vertex of equal priority the same row
unequal_same : (G : Game) (u v x : ℕ) → So (equal_priority G G u v) → unequal G u x ≡ unequal G v x
unfolding unequal equal_priority
unequal_same G u v x t = rw (eqb-true (G.priority u) (G.priority v) t)

equal_same : (G : Game) (u v x : ℕ) → So (equal_priority G G u v) → equal G u x ≡ equal G v x
unfolding equal
equal_same G u v x t = ap (λ b. ltb x G.n & not b) (unequal_same G u v x t)

-- no vertex owner 2
pub all_row : (B : ℕ) (g : List ℕ) (all : ℕ → Bool) → WellFormed g → Is B all (differs g (2 + vertex_count g) (vertex_count g) 2) → AllIn B (game_of g) all
unfolding differs game_of
all_row B g all well e x h =
    e x h ∙ So_ext (λ t. (and_out t).0)
    (λ t. and_in t (not_in (So_not (λ d. let i = eqb-true (owner_at g x) 2 d in let k = well.owners x (ltb-true x (vertex_count g) t) in absurd (omega arith)))))

-- rows before k hold p, and the next one is put
row_next : (B : ℕ) (p : Rel) (v : ℕ) (words words' : Rel) (r : ℕ → Bool) → ((u x : ℕ) → u < v → x < B → words u x ≡ p u x) → Is B r (p v) → PutIn B words words' v r
    → (u x : ℕ) → u < v + 1 → x < B → words' u x ≡ p u x
row_next B p v words words' r s e t u x h k = elim (ℕ_discrete u v) [
  | yes i ↦ subst (λ (i : ℕ). words' i x ≡ p i x) (sym i) (sym (t.here x k) ∙ e x k)
  | no n ↦ t.other u x n k ∙ s u x (omega arith) k
]

pub parted_none : (B : ℕ) (G : Game) (related lost falls : Rel) → PartedIn B G 0 related lost falls
parted_none B G related lost falls = record {
  left = λ u x h. absurd (omega arith);
  loss = λ u x h. absurd (omega arith);
  fallen = λ u x h. absurd (omega arith);
}

split : (n e : Bool) → ((n & not e) or (n & not (n & not e))) ≡ n
unfolding ◌&◌ ◌or◌
split true true = refl
split true false = refl
split false e = refl

module _ (B : ℕ) (G : Game) (v : ℕ) (all out left : ℕ → Bool) (a : AllIn B G all) (o : Is B out (unequal G v)) (l : Is B left (λ x. all x & not (out x))) where
  row_left : Is B left (equal G v)
  unfolding equal
  row_left x k = l x k ∙ ap₂ (λ b c. b & not c) (a x k) (o x k)

  -- what is taken out and what is left are all vertices
  pub row_all : Whole B G out left
  unfolding equal unequal
  row_all x k = ap₂ ◌or◌ (o x k) (row_left x k) ∙ split (ltb x G.n) (equal_priority G G v x)

module _ (B : ℕ) (G : Game) (v : ℕ) (related lost falls : Rel) (left out fallen : ℕ → Bool) (related' lost' falls' : Rel) (s : PartedIn B G v related lost falls)
    (ph : PutIn B related related' v left) (pl : PutIn B lost lost' v out) (pf : PutIn B falls falls' v fallen) where
  parted_next : Is B left (equal G v) → Is B out (unequal G v) → Is B fallen (fall G (unequal G v) (equal G v))
      → PartedIn B G (v + 1) related' lost' falls'
  parted_next l o f = record {
    left = row_next B (equal G) v related related' left s.left l ph;
    loss = row_next B (unequal G) v lost lost' out s.loss o pl;
    fallen = row_next B (λ u w. fall G (unequal G u) (equal G u) w) v falls falls' fallen s.fallen f pf;
  }

  pub parted_copy : (u : ℕ) → u < v → So (equal_priority G G u v) → Is B left (related u) → Is B out (lost u) → Is B fallen (falls u)
      → PartedIn B G (v + 1) related' lost' falls'
  parted_copy u h t l o f =
      parted_next
      (λ x k. l x k ∙ s.left u x h k ∙ equal_same G u v x t)
      (λ x k. o x k ∙ s.loss u x h k ∙ unequal_same G u v x t)
      (λ w k. f w k ∙ s.fallen u w h k
      ∙ fall_same G _ _ _ _ w (λ x m. unequal_same G u v x t) (λ x m. equal_same G u v x t))

  pub parted_row : (all : ℕ → Bool) → AllIn B G all → Is B out (unequal G v) → Is B left (λ x. all x & not (out x)) → (edges : Rel) → EdgeSets B G edges
      → Is B fallen (fall G out left) → PartedIn B G (v + 1) related' lost' falls'
  parted_row all a o l edges e f = let r = row_left B G v all out left a o l in
      parted_next r o
      (λ w k. f w k ∙ fall_same G _ _ _ _ w (λ x m. o x (omega (arith, m, e.small))) (λ x m. r x (omega (arith, m, e.small))))

pub started_none : (B : ℕ) (G : Game) (changed : ℕ → Bool) → ((x : ℕ) → x < B → changed x ≡ false) → StartedIn B G 0 changed
started_none B G changed z u h = z u h ∙ sym (and_first _ (le-ltb u 0 (omega arith)))

pub started_next : (B : ℕ) (G : Game) (v : ℕ) (related lost falls : Rel) (out changed changed' : ℕ → Bool) (b : Bool) → PartedIn B G (v + 1) related lost falls
    → StartedIn B G v changed → Is B out (lost v) → b ≡ any_below B out → With B changed changed' v b → StartedIn B G (v + 1) changed'
started_next B G v related lost falls out changed changed' b p s e k add u h =
    add u h
    ∙ ap₂ ◌or◌
    (ap (λ c. eqb u v & c) (k ∙ any_ext B out (unequal G v) (λ x m. e x m ∙ p.loss v x (omega arith) m)))
    (s u h)
    ∙ below_next (λ w. any_below B (unequal G w)) v u

and_some : (n : ℕ) (p : ℕ → Bool) (x : ℕ) → x < n → any_below n p & p x ≡ p x
and_some n p x h = So_ext (λ t. (and_out t).1) (λ t. and_in (any_in n p x h t) t)

pub begun : (B : ℕ) (G : Game) (edges related lost falls : Rel) (changed : ℕ → Bool) → EdgeSets B G edges → Total G → PartedIn B G G.n related lost falls
    → StartedIn B G G.n changed → BegunIn B G related lost falls changed
unfolding unequal equal
begun B G edges related lost falls changed s total p st = record {
  fell = λ v a w hv ha hw o i j r.
      p.fallen a w ha hw
      ∙ fall_same G _ _ _ _ w
      (λ x h. sym (p.loss a x ha (omega (arith, h, s.small))))
      (λ x h. sym (p.left a x ha (omega (arith, h, s.small))));
  after = round_start G total related (struck changed lost) kept
      (λ v w hv hw.
      let kv : v < B = omega (arith, hv, s.small) in
      let kw : w < B = omega (arith, hw, s.small) in
      ap₂ ◌&◌ (st v kv ∙ and_one _ (lt-ltb v G.n hv)) (p.loss v w hv kw)
      ∙ and_some B (unequal G v) w kw ∙ and_one _ (lt-ltb w G.n hw) ∙ ap not (sym (kept v w hv hw)));
}
  where
    kept : (v w : ℕ) → v < G.n → w < G.n → related v w ≡ equal_priority G G v w
    kept v w hv hw = let t = lt-ltb w G.n hw in
        p.left v w hv (omega (arith, hw, s.small)) ∙ and_one _ t ∙ ap not (and_one _ t) ∙ not-not (equal_priority G G v w)

-- ---- a later round

module _ (B : ℕ) (G : Game) (edges related lost falls : Rel) (changed before near : ℕ → Bool) (next : Rel) (losing : ℕ → Bool) (s : EdgeSets B G edges) (f : FellIn B G related lost falls changed)
    (same : Is B before changed) (e : Is B near (united_in B edges B before))
    (l : GameLosses B edges related lost falls before near B next losing) where
  near_any : (v : ℕ) → v < B → near v ≡ any_next G v before
  near_any v h = e v h ∙ near_is B G edges s before v h

  near_vertex : (u : ℕ) → u < B → So (near u) → u < G.n
  near_vertex u h t = next_vertex B G edges s before u (sym (near_any u h) ∙ t)

  abbrev lose : Rel
  lose = loses G related (struck before lost)

  fell : FellIn B G related lost falls before
  fell v a w hv ha hw o = f v a w hv ha hw (sym (same a (omega (arith, ha, s.small))) ∙ o)

  found : LossesIn B lose near B next losing
  found = l G s fell near_vertex

  -- only a vertex near one that changed loses something
  far : (v w : ℕ) → v < B → near v ≡ false → lose v w ≡ false
  far v w hv n =
      loses_none G related (struck before lost) v
      (λ a x t h. So_not (λ c. clash (near_any v hv ∙ any_next_in G v before a t (and_out c).0) n)) w

  losses : (v w : ℕ) → v < B → w < B → struck losing next v w ≡ lose v w
  losses v w hv hw =
      ap (λ b. b & next v w) (found.some v hv ∙ kept_end near B (λ u. any_below B (lose u)) B (omega arith) v hv)
      ∙ elim (decide (near v)) [
        | inl t ↦ ap₂ ◌&◌ (and_one _ t) (found.rows v hv t w hw) ∙ and_some B (lose v) w hw
        | inr n ↦ and_first _ (and_first _ n) ∙ sym (far v w hv n)
      ]

  vertex : (v w : ℕ) → v < B → So (lose v w) → v < G.n
  vertex v w hv p = elim (decide (near v)) [ inl t ↦ near_vertex v hv t | inr n ↦ clash p (far v w hv n) ]

  changed_lose : (v w : ℕ) → lose v w ≡ loses G related (struck changed lost) v w
  changed_lose = loses_same G related _ _ (λ a x ha hx. ap (λ b. b & lost a x) (same a (omega (arith, ha, s.small))))

  module _ (mirror : Bool) (next' : Rel) (losing' : ℕ → Bool) (completed : CompletedIn B mirror next losing next' losing')
      (mirrored : So mirror → Mirrored G related) where
    -- what the round takes out
    out : (v w : ℕ) → v < B → w < B → struck losing' next' v w ≡ taken mirror G related (struck changed lost) v w
    out v w hv hw =
        completed v w hv hw
        ∙ mirrored_by_same mirror _ _ v w (losses v w hv hw ∙ changed_lose v w) (losses w v hw hv ∙ changed_lose w v)

    out_vertices : (v w : ℕ) → v < B → w < B → So (struck losing' next' v w) → (v < G.n) × (w < G.n)
    out_vertices v w hv hw t = elim (mirrored_by_out mirror _ v w (sym (completed v w hv hw) ∙ t)) [
      | inl o ↦ (let p = sym (losses v w hv hw) ∙ o in (vertex v w hv p, loses_vertex B G edges s _ _ v w p))
      | inr o ↦ (let p = sym (losses w v hw hv) ∙ o in (loses_vertex B G edges s _ _ w v p, vertex w v hw p))
    ]

    pub round_of : (c : ℕ) (related' lost' falls' : Rel) → TakenIn B edges next' losing' B related c related' lost' falls'
        → RoundIn B mirror G related lost changed c related' lost' falls' losing'
    round_of c related' lost' falls' t = record {
      fell = taken_fell B G edges next' losing' related c related' lost' falls' s t;
      round = record {
        out = λ v w hv hw.
            let kv : v < B = omega (arith, hv, s.small) in
            let kw : w < B = omega (arith, hw, s.small) in
            struck_is B G edges next' losing' related c related' lost' falls' s t v w kv kw ∙ out v w kv kw;
        left = λ v w hv hw.
            let kv : v < B = omega (arith, hv, s.small) in
            let kw : w < B = omega (arith, hw, s.small) in
            taken_left B G edges next' losing' related c related' lost' falls' s t v w kv kw
            ∙ ap (λ b. related v w & not b) (sym (struck_is B G edges next' losing' related c related' lost' falls' s t v w kv kw));
      };
      count = size;
      few = omega (arith, size, cleared_le G.n related related');
    }
      where
        size : c ≡ cleared G.n related related'
        size =
            t.size ∙ out_count B G.n related related' (struck losing' next') s.small
            (λ v w hv hw. taken_left B G edges next' losing' related c related' lost' falls' s t v w (omega (arith, hv, s.small)) (omega (arith, hw, s.small)))
            (λ v w hv hw o.
            taken_in G mirror related (struck changed lost) mirrored v w hv hw
            (sym (out v w (omega (arith, hv, s.small)) (omega (arith, hw, s.small))) ∙ o))
            out_vertices

-- ---- rounds are passes

module _ (B : ℕ) (mirror : Bool) (G : Game) (k c : ℕ) (related lost : Rel) (changed : ℕ → Bool) (related' lost' falls' : Rel) (changed' : ℕ → Bool) (a : AfterRound mirror G k related (struck changed lost))
    (r : RoundIn B mirror G related lost changed c related' lost' falls' changed') where
  -- a pair that was counted is lost
  counted : (v w : ℕ) → v < G.n → w < G.n → So (related v w & not (related' v w)) → So (struck changed' lost' v w)
  counted v w hv hw t = elim (decide (struck changed' lost' v w)) [
    | inl o ↦ o
    | inr n ↦ clash (r.round.left v w hv hw ∙ and_in (and_out t).0 (not_in n)) (not_out (and_out t).1)
  ]

  pub after_more : (c ≡ 0 → ⊥) → AfterRound mirror G (k + 1) related' (struck changed' lost')
  after_more d =
      let p = cleared_some G.n related related' (λ e. d (r.count ∙ e)) in
      round_next G mirror k related (struck changed lost) a related' (struck changed' lost') r.round p.0 p.1 p.2 p.3
      (counted p.0 p.1 p.2 p.3 p.4)

  pub after_last : c ≡ 0 → SettledIn mirror G (k + 1) related'
  after_last e = record {
    count = last_count G mirror k related (struck changed lost) a none;
    marks = λ v w hv hw.
        r.round.left v w hv hw ∙ rw (r.round.out v w hv hw ∙ none v w hv hw) (and_true (related v w))
        ∙ last_left G mirror k related (struck changed lost) a none v w hv hw;
  }
    where
      none : (v w : ℕ) → v < G.n → w < G.n → taken mirror G related (struck changed lost) v w ≡ false
      none v w hv hw = So_not (λ t.
          let gone : related' v w ≡ false = r.round.left v w hv hw ∙ and_fails _ _ (ap not (r.round.out v w hv hw ∙ t)) in
          clash (and_in (taken_in G mirror related (struck changed lost) a.mirrored v w hv hw t) (not_in gone)) (cleared_none G.n related related' (sym r.count ∙ e) v w hv hw))
