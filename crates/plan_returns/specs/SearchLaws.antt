-- Laws of the search, for any test of positions.
use Rattle.std.specs.Prelude.{◌≡◌, ◌⊎◌, Bool, List, [], ◌∷◌, length, set}
use Rattle.std.proofs.Math.Path.{refl}
use Rattle.std.proofs.Common.{sym, ap, ◌∙◌, subst, le_refl, not-suc-le-zero, lt_irrefl, arith, get_or-set_same, eqb-true, eq-eqb, ne_eqb}
use Rattle.std.proofs.Math.Logic.{inl, inr}
use Rattle.std.proofs.Math.Bool.{true, false, not, So}
use Prim.Native.Nat.{ℕ, zero, suc, ◌+◌, ◌≤◌, ◌<◌}
use Rattle.std.proofs.Math.Decide.{dec_lt, ℕ_discrete}
use Rattle.std.proofs.Math.Dec.{eqb}
use Rattle.std.proofs.Math.ListN.{get_or}
use Rattle.std.proofs.Math.Seq.{get_or-set_other}
use Rattle.theory.specs.Logic.Bools.{◌&◌, bit}
use Rattle.theory.proofs.Logic.BoolsLaws.{decide, clash, So_ext, and_in, and_out, and_fails, not_in, not_out}
use Rattle.theory.specs.Logic.Range.{any_from, count}
use Rattle.theory.proofs.Logic.RangeLaws.{from_in, from_end, from_more, from_less}
use Rattle.theory.proofs.Logic.CountLaws.{count_ext, count_none, count_le}
use Rattle.theory.proofs.Logic.ListLaws.{after_set}
use Rattle.theory.specs.Plans.Plan.{Walk}
use Rattle.theory.specs.Plans.Reach.{Each, Reach, reaches}
use Rattle.theory.proofs.Plans.ReachLaws.{reaches_in, reaches_out, reach_more}
use Rattle.index.specs.Index.{among}
use Rattle.plan_blocks.specs.Blocks.{link_by}
use Rattle.plan_returns.specs.Search.{stamped, fresh, Visited, Queued, Grown, followed, follows, Searched}

-- ---- one visit

module _ (pass : ℕ → Bool) (stamp : ℕ) (seen : List ℕ) (j : ℕ) where
  not_fresh : fresh pass stamp seen j ≡ false → So (pass j) → So (stamped stamp seen j)
  unfolding fresh
  not_fresh e t = elim (decide (stamped stamp seen j)) [ inl s ↦ s | inr f ↦ clash (and_in t (not_in f)) e ]

  module _ (queue : List ℕ) (tail : ℕ) where
    visited_not : fresh pass stamp seen j ≡ false → Visited (fresh pass stamp seen j) stamp j seen queue tail seen queue tail
    unfolding bit
    visited_not e = rw e (record { end = omega arith; stamps = refl; entries = refl })

    pub visited_out : pass j ≡ false → Visited (fresh pass stamp seen j) stamp j seen queue tail seen queue tail
    unfolding fresh ◌&◌
    visited_out e = visited_not (ap (λ (b : Bool). b & not (stamped stamp seen j)) e)

    pub visited_seen : get_or seen j 0 ≡ stamp → Visited (fresh pass stamp seen j) stamp j seen queue tail seen queue tail
    unfolding fresh stamped
    visited_seen h = visited_not (and_fails (pass j) _ (ap not (eq-eqb (get_or seen j 0) stamp h)))

    pub visited_new : So (pass j) → (get_or seen j 0 ≡ stamp → ⊥) → Visited (fresh pass stamp seen j) stamp j seen queue tail (set seen j stamp) (set queue tail j) (tail + 1)
    unfolding bit fresh stamped
    visited_new t d =
        let e : fresh pass stamp seen j ≡ true = and_in t (ap not (ne_eqb (get_or seen j 0) stamp d)) in
        rw e (record { end = refl; stamps = refl; entries = refl })

-- ---- the queue

-- one number more passes
count_more : (n : ℕ) (q r : ℕ → Bool) (j : ℕ) → j < n → q j ≡ false → So (r j) → ((k : ℕ) → (k ≡ j → ⊥) → r k ≡ q k) → count n r ≡ count n q + 1
unfolding count bit
count_more zero q r j h e t f = absurd (not-suc-le-zero h)
count_more (suc n) q r j h e t f = elim (dec_lt j n) [
  | yes l ↦ omega (arith, count_more n q r j l e t f, ap bit (f n (λ d. lt_irrefl n (subst (λ (k : ℕ). k < n) (sym d) l))))
  | no m ↦ (
      let d : j ≡ n = omega arith in
      rw (← d, t, e) (omega (arith, count_ext j r q (λ k l. f k (λ d. lt_irrefl j (subst (λ (k : ℕ). k < j) d l))))))
]

-- stamps after one more
stamped_here : (stamp : ℕ) (seen : List ℕ) (j : ℕ) → j < length seen → So (stamped stamp (set seen j stamp) j)
unfolding stamped
stamped_here stamp seen j h = eq-eqb _ stamp (get_or-set_same seen j stamp 0 h)

stamped_other : (stamp : ℕ) (seen : List ℕ) (j k : ℕ) → (k ≡ j → ⊥) → stamped stamp (set seen j stamp) k ≡ stamped stamp seen k
unfolding stamped
stamped_other stamp seen j k d = ap (λ (x : ℕ). eqb x stamp) (get_or-set_other seen j k stamp 0 d)

stamped_keeps : (stamp : ℕ) (seen : List ℕ) (j : ℕ) → j < length seen → (k : ℕ) → So (stamped stamp seen k) → So (stamped stamp (set seen j stamp) k)
stamped_keeps stamp seen j h k b = elim (ℕ_discrete k j) [ yes d ↦ rw d (stamped_here stamp seen j h) | no d ↦ rw (stamped_other stamp seen j k d) b ]

-- no stamp yet
none_stamped : (stamp : ℕ) (seen : List ℕ) → ((j : ℕ) → get_or seen j 0 < stamp) → (j : ℕ) → stamped stamp seen j ≡ false
unfolding stamped
none_stamped stamp seen f j = ne_eqb (get_or seen j 0) stamp (λ e. omega (arith, f j, e))

pub queued_none : (p stamp : ℕ) (seen queue : List ℕ) → ((j : ℕ) → get_or seen j 0 < stamp) → Queued p stamp seen queue 0
queued_none p stamp seen queue f = record {
  size = sym (count_none p (stamped stamp seen) (λ j h. none_stamped stamp seen f j));
  inside = λ s l. absurd (not-suc-le-zero l);
  bears = λ s l. absurd (not-suc-le-zero l);
  listed = λ j l t. clash t (none_stamped stamp seen f j);
  latest = λ j. omega (arith, f j);
}

module _ (p stamp : ℕ) (seen queue : List ℕ) (tail : ℕ) (st : Queued p stamp seen queue tail) where
  pub queued_le : tail ≤ p
  queued_le = omega (arith, st.size, count_le p (stamped stamp seen))

  queued_more : (j : ℕ) → j < p → j < length seen → tail < length queue → stamped stamp seen j ≡ false
      → Queued p stamp (set seen j stamp) (set queue tail j) (tail + 1)
  queued_more j h a b e = record {
    size = ap (λ (k : ℕ). k + 1) st.size ∙ sym (count_more p (stamped stamp seen) (stamped stamp (set seen j stamp)) j h e (stamped_here stamp seen j a) (stamped_other stamp seen j));
    inside = λ s l. after_set (λ (s x : ℕ). s < tail + 1 → x < p) queue tail j b (λ k. h) (λ s d k. st.inside s (omega arith)) s l;
    bears = λ s l. after_set (λ (s x : ℕ). s < tail + 1 → So (stamped stamp (set seen j stamp) x)) queue tail j b (λ k. stamped_here stamp seen j a)
        (λ s d k. stamped_keeps stamp seen j a (get_or queue s 0) (st.bears s (omega arith))) s l;
    listed = listed';
    latest = after_set (λ (k x : ℕ). x ≤ stamp) seen j stamp a (omega arith) (λ k d. st.latest k);
  }
    where
      listed' : (k : ℕ) → k < p → So (stamped stamp (set seen j stamp) k) → (s : ℕ) × (s < tail + 1) × (get_or (set queue tail j) s 0 ≡ k)
      listed' k l t = elim (ℕ_discrete k j) [
        | yes d ↦ (tail, omega arith, get_or-set_same queue tail j 0 b ∙ sym d)
        | no d ↦ (
            let r = st.listed k l (rw (stamped_other stamp seen j k d) at t) in
            (r.0, omega (arith, r.1), get_or-set_other queue tail r.0 j 0 (omega (arith, r.1)) ∙ r.2))
      ]

-- ---- following the links of one position

module _ (p stamp : ℕ) (pass : ℕ → Bool) (targets : List ℕ) (a : ℕ) (seen₀ queue₀ : List ℕ) (tail₀ : ℕ) where
  pub grown_none : Queued p stamp seen₀ queue₀ tail₀ → Grown p stamp (followed pass targets a a) seen₀ queue₀ tail₀ seen₀ queue₀ tail₀
  unfolding followed
  grown_none st = record {
    queued = st;
    longer = omega arith;
    keeps = λ s l. refl;
    grows = λ j t. t;
    sound = λ j t. inl t;
    complete = λ j t. clash (and_out t).0 (from_end a a _ (le_refl a));
  }

  module _ (t : ℕ) (seen queue : List ℕ) (tail : ℕ) (h : a ≤ t) (st : Grown p stamp (followed pass targets a t) seen₀ queue₀ tail₀ seen queue tail) where
    wider : (j : ℕ) → So (stamped stamp seen₀ j) ⊎ So (followed pass targets a t j) → So (stamped stamp seen₀ j) ⊎ So (followed pass targets a (t + 1) j)
    unfolding followed
    wider j (inl b) = inl b
    wider j (inr b) = let c = and_out b in inr (and_in (from_less a t _ c.0) c.1)

    -- the next target has a stamp or doesn't pass
    grown_old : fresh pass stamp seen (get_or targets t 0) ≡ false → Grown p stamp (followed pass targets a (t + 1)) seen₀ queue₀ tail₀ seen queue tail
    unfolding followed
    grown_old e = record {
      queued = st.queued;
      longer = st.longer;
      keeps = st.keeps;
      grows = st.grows;
      sound = λ j b. wider j (st.sound j b);
      complete = λ j b. let c = and_out b in next j (from_more a t _ c.0) c.1;
    }
      where
        next : (j : ℕ) → So (any_from a t (λ k. eqb (get_or targets k 0) j)) ⊎ So (eqb (get_or targets t 0) j) → So (pass j) → So (stamped stamp seen j)
        next j (inl b) c = st.complete j (and_in b c)
        next j (inr b) c = not_fresh pass stamp seen j (rw (eqb-true (get_or targets t 0) j b) at e) c

    -- the next target is stamped and queued
    grown_new : (j : ℕ) → get_or targets t 0 ≡ j → j < p → j < length seen → tail < length queue → So (fresh pass stamp seen j)
        → Grown p stamp (followed pass targets a (t + 1)) seen₀ queue₀ tail₀ (set seen j stamp) (set queue tail j) (tail + 1)
    unfolding followed fresh
    grown_new j here l ls lq e = record {
      queued = queued_more p stamp seen queue tail st.queued j l ls lq (not_out (and_out e).1);
      longer = omega (arith, st.longer);
      keeps = λ s m. get_or-set_other queue tail s j 0 (omega (arith, st.longer)) ∙ st.keeps s m;
      grows = λ k b. keep k (st.grows k b);
      sound = λ k b. elim (ℕ_discrete k j) [
        | yes d ↦ inr (rw d (and_in (from_in a (t + 1) _ t h (omega arith) (eq-eqb (get_or targets t 0) j here)) (and_out e).0))
        | no d ↦ wider k (st.sound k (rw (stamped_other stamp seen j k d) at b))
      ];
      complete = λ k b. let c = and_out b in next k (from_more a t _ c.0) c.1;
    }
      where
        keep : (k : ℕ) → So (stamped stamp seen k) → So (stamped stamp (set seen j stamp) k)
        keep = stamped_keeps stamp seen j ls

        next : (k : ℕ) → So (any_from a t (λ x. eqb (get_or targets x 0) k)) ⊎ So (eqb (get_or targets t 0) k) → So (pass k) → So (stamped stamp (set seen j stamp) k)
        next k (inl b) c = keep k (st.complete k (and_in b c))
        next k (inr b) c = rw (sym (eqb-true (get_or targets t 0) k b) ∙ here) (stamped_here stamp seen j ls)

    pub grown_more : (j : ℕ) → get_or targets t 0 ≡ j → j < p → j < length seen → tail < length queue → (seen' queue' : List ℕ) (tail' : ℕ)
        → Visited (fresh pass stamp seen j) stamp j seen queue tail seen' queue' tail'
        → Grown p stamp (followed pass targets a (t + 1)) seen₀ queue₀ tail₀ seen' queue' tail'
    unfolding bit
    grown_more j here l ls lq seen' queue' tail' v = go (fresh pass stamp seen j) refl v
      where
        go : (b : Bool) → fresh pass stamp seen j ≡ b → Visited b stamp j seen queue tail seen' queue' tail' → Grown p stamp (followed pass targets a (t + 1)) seen₀ queue₀ tail₀ seen' queue' tail'
        go true e v = rw (v.stamps, v.entries, v.end) (grown_new j here l ls lq e)
        go false e v =
            let d : tail' ≡ tail = omega (arith, v.end) in
            rw (v.stamps, v.entries, d) (grown_old (rw here e))

-- a whole group
pub grown_all : {p stamp : ℕ} (pass : ℕ → Bool) (starts targets : List ℕ) (i t : ℕ) {seen₀ queue₀ : List ℕ} {tail₀ : ℕ} {seen queue : List ℕ} {tail : ℕ} → t ≡ get_or starts (i + 1) 0
    → Grown p stamp (followed pass targets (get_or starts i 0) t) seen₀ queue₀ tail₀ seen queue tail → Grown p stamp (follows pass (link_by starts targets) i) seen₀ queue₀ tail₀ seen queue tail
unfolding followed follows link_by among
grown_all pass starts targets i t e g = rw e at g

-- ---- the search from i

module _ (p : ℕ) (link : ℕ → ℕ → Bool) (pass : ℕ → Bool) (i stamp : ℕ) where
  pub searched_none : (seen₀ queue₀ : List ℕ) → ((j : ℕ) → get_or seen₀ j 0 < stamp) → (seen queue : List ℕ) (tail : ℕ)
      → Grown p stamp (follows pass link i) seen₀ queue₀ 0 seen queue tail → Searched p link pass i stamp seen queue 0 tail
  unfolding follows
  searched_none seen₀ queue₀ f seen queue tail g = record {
    queued = g.queued;
    reached = λ j t. first j (g.sound j t);
    begun = λ j l t. g.complete j (and_in l t);
    done = λ s l. absurd (not-suc-le-zero l);
  }
    where
      first : (j : ℕ) → So (stamped stamp seen₀ j) ⊎ So (follows pass link i j) → Reach p link pass i j × So (pass j)
      first j (inl t) = clash t (none_stamped stamp seen₀ f j)
      first j (inr t) = let c = and_out t in (record { between = []; walk = c.0; each = tt }, c.1)

  module _ (seen queue : List ℕ) (head tail : ℕ) (st : Searched p link pass i stamp seen queue head tail) where
    pub searched_more : head < tail → (seen' queue' : List ℕ) (tail' : ℕ)
        → Grown p stamp (follows pass link (get_or queue head 0)) seen queue tail seen' queue' tail' → Searched p link pass i stamp seen' queue' (head + 1) tail'
    unfolding follows
    searched_more h seen' queue' tail' g = record {
      queued = g.queued;
      reached = λ j t. next j (g.sound j t);
      begun = λ j l t. g.grows j (st.begun j l t);
      done = λ s l j. followed_by s j (dec_lt s head) l;
    }
      where
        k : ℕ
        k = get_or queue head 0

        next : (j : ℕ) → So (stamped stamp seen j) ⊎ So (follows pass link k j) → Reach p link pass i j × So (pass j)
        next j (inl t) = st.reached j t
        next j (inr t) =
            let c = and_out t in
            let r = st.reached k (st.queued.bears head h) in
            (reach_more p link pass i k j r.0 (st.queued.inside head h) r.1 c.0, c.1)

        followed_by : (s j : ℕ) → Dec (s < head) → s < head + 1 → So (link (get_or queue' s 0) j) → So (pass j) → So (stamped stamp seen' j)
        followed_by s j (yes m) l a t = g.grows j (st.done s m j (rw (g.keeps s (omega arith)) at a) t)
        followed_by s j (no m) l a t =
            let d : s ≡ head = omega arith in
            g.complete j (and_in (subst (λ (s : ℕ). So (link (get_or queue s 0) j)) d (rw (g.keeps s (omega arith)) at a)) t)

    pub searched_found : So (stamped stamp seen i) → So (reaches p link pass p i i)
    searched_found t = reaches_in p link pass i i (st.reached i t).0

    -- the stamped positions are closed under links to positions that pass, so a walk back to i never leaves them
    stays : So (pass i) → head ≡ tail → (k : ℕ) (ks : List ℕ) → ((j : ℕ) → So (link k j) → So (pass j) → So (stamped stamp seen j))
        → Walk link k ks i → Each (λ m. (m < p) × So (pass m)) ks → So (stamped stamp seen i)
    stays own e k [] f w a = f i w own
    stays own e k (m ∷ ks) f w a = stays own e m ks (step m a.0.0 (f m w.0 a.0.1)) w.1 a.1
      where
        step : (m : ℕ) → m < p → So (stamped stamp seen m) → (j : ℕ) → So (link m j) → So (pass j) → So (stamped stamp seen j)
        step m h t j l u = let r = st.queued.listed m h t in st.done r.0 (omega (arith, r.1)) j (rw r.2 l) u

    -- once all links are followed, i is stamped exactly if it reaches itself
    pub searched_all : So (pass i) → head ≡ tail → stamped stamp seen i ≡ reaches p link pass p i i
    searched_all own e = So_ext searched_found (λ t.
        let r = reaches_out p link pass p i i t in
        stays own e i r.between st.begun r.walk r.each)
