-- Laws of the two players, and of games whose vertices all have successors.
use Rattle.std.specs.Prelude.{◌≡◌, refl, false, not, ℕ, ◌%◌, eqb}
use Rattle.std.proofs.Common.{sym, true≢false}
use Rattle.std.proofs.Math.Bool.{So, not-not}
use Rattle.std.proofs.lemmas.Bool.{false≢true}
use Rattle.theory.proofs.Logic.RangeLaws.{all_in, all_out, any_in, any_out}
use Rattle.theory.specs.Games.Game.{Player, even, odd, other, same, parity, Game, Total, is_total}

pub same_refl : (a : Player) → So (same a a)
unfolding same
same_refl even = refl
same_refl odd = refl

pub same_out : (a b : Player) → So (same a b) → a ≡ b
unfolding same
same_out even even t = refl
same_out even odd t = absurd (false≢true t)
same_out odd even t = absurd (false≢true t)
same_out odd odd t = refl

pub same_fails : (a b : Player) → same a b ≡ false → other b ≡ a
unfolding same other
same_fails even even e = absurd (true≢false e)
same_fails even odd e = refl
same_fails odd even e = refl
same_fails odd odd e = absurd (true≢false e)

-- the opponent moves where the player doesn't
pub same_other : (a b : Player) → same (other a) b ≡ not (same a b)
unfolding same other
same_other even even = refl
same_other even odd = refl
same_other odd even = refl
same_other odd odd = refl

-- each priority has the parity of one player only
pub parity_other : (a : Player) (q : ℕ) → parity (other a) q ≡ not (parity a q)
unfolding parity other
parity_other even q = refl
parity_other odd q = sym (not-not (eqb (q % 2) 0))

-- the computed test is the definition
pub total_in : (G : Game) → Total G → So (is_total G)
unfolding is_total
total_in G total = all_in G.n _ (λ v h. let s = total v h in any_in G.n (G.edge v) s.0 s.1.inside s.1.along)

pub total_out : (G : Game) → So (is_total G) → Total G
unfolding is_total
total_out G t v h = let s = any_out ((all_out t).at v h) in (s.0, record { inside = s.1; along = s.2 })
