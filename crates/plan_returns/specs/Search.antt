-- A breadth-first search over positions that pass, and what it keeps: a stamp in `seen` says that a position was reached, and the queue
-- lists these.
use Rattle.std.specs.Prelude.{◌≡◌, ◌⊎◌, Bool, not, cond, List, ℕ, ◌+◌, ◌≤◌, ◌<◌, eqb, get_or, set}
use Rattle.std.proofs.Math.Bool.{So}
use Rattle.theory.specs.Logic.Bools.{◌&◌, bit}
use Rattle.theory.specs.Logic.Range.{any_from, count}
use Rattle.theory.specs.Plans.Reach.{Reach}

unfoldable pub stamped : ℕ → List ℕ → ℕ → Bool
stamped stamp seen j = eqb (get_or seen j 0) stamp

-- no stamp is later
abbrev pub NoLater : ℕ → List ℕ → Type 0
NoLater stamp seen = (j : ℕ) → get_or seen j 0 ≤ stamp

-- ---- one position

-- position j passes and has no stamp yet
unfoldable pub fresh : (ℕ → Bool) → ℕ → List ℕ → ℕ → Bool
fresh pass stamp seen j = pass j & not (stamped stamp seen j)

-- position j is stamped and queued, or nothing changes
pub record Visited (yes : Bool) (stamp j : ℕ) (seen queue : List ℕ) (tail : ℕ) (seen' queue' : List ℕ) (tail' : ℕ) : Type 0 where
  pub end : tail' ≡ tail + bit yes
  pub stamps : seen' ≡ cond yes (set seen j stamp) seen
  pub entries : queue' ≡ cond yes (set queue tail j) queue

-- ---- the links of one position

-- the queue lists the positions below p that bear the stamp, each once; no stamp is later
pub record Queued (p stamp : ℕ) (seen queue : List ℕ) (tail : ℕ) : Type 0 where
  pub size : tail ≡ count p (stamped stamp seen)
  pub inside : (s : ℕ) → s < tail → get_or queue s 0 < p
  pub bears : (s : ℕ) → s < tail → So (stamped stamp seen (get_or queue s 0))
  pub listed : (j : ℕ) → j < p → So (stamped stamp seen j) → (s : ℕ) × (s < tail) × (get_or queue s 0 ≡ j)
  pub latest : NoLater stamp seen

-- what a step of the search changes: the positions in `new` are stamped, and those that had no stamp stand at the queue's end
pub record Grown (p stamp : ℕ) (new : ℕ → Bool) (seen queue : List ℕ) (tail : ℕ) (seen' queue' : List ℕ) (tail' : ℕ) : Type 0 where
  pub queued : Queued p stamp seen' queue' tail'
  pub longer : tail ≤ tail'
  pub keeps : (s : ℕ) → s < tail → get_or queue' s 0 ≡ get_or queue s 0
  pub grows : (j : ℕ) → So (stamped stamp seen j) → So (stamped stamp seen' j)
  pub sound : (j : ℕ) → So (stamped stamp seen' j) → So (stamped stamp seen j) ⊎ So (new j)
  pub complete : (j : ℕ) → So (new j) → So (stamped stamp seen' j)

-- position j is a target in the part of a group from a to t, and passes
unfoldable pub followed : (ℕ → Bool) → List ℕ → ℕ → ℕ → ℕ → Bool
followed pass targets a t j = any_from a t (λ k. eqb (get_or targets k 0) j) & pass j

-- a link leads from i to j, and j passes
unfoldable pub follows : (ℕ → Bool) → (ℕ → ℕ → Bool) → ℕ → ℕ → Bool
follows pass link i j = link i j & pass j

-- ---- the search from i

-- whatever is stamped is reached, and the links of i and of the first `head` positions in the queue were followed
pub record Searched (p : ℕ) (link : ℕ → ℕ → Bool) (pass : ℕ → Bool) (i stamp : ℕ) (seen queue : List ℕ) (head tail : ℕ) : Type 0 where
  pub queued : Queued p stamp seen queue tail
  pub reached : (j : ℕ) → So (stamped stamp seen j) → Reach p link pass i j × So (pass j)
  pub begun : (j : ℕ) → So (link i j) → So (pass j) → So (stamped stamp seen j)
  pub done : (s : ℕ) → s < head → (j : ℕ) → So (link (get_or queue s 0) j) → So (pass j) → So (stamped stamp seen j)
