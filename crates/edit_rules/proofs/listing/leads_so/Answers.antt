-- The source decides first, then the target.
use mathlib.Core.Bool.{Bool, true, false, cond, not, beq}
use mathlib.Core.Path.{◌≡◌, refl, sym, ◌∙◌}
use Rattle.edit_rules.proofs.SearchLaws.{leads_no, leads_by}
use Rattle.edit_rules.proofs.listing.leads_so.Goals as goal

beq_cond : (hit there : Bool) → beq hit there ≡ cond there hit (not hit)
beq_cond true true = refl
beq_cond true false = refl
beq_cond false true = refl
beq_cond false false = refl

pub returns-then-table-n : goal.returns-then-table-n
returns-then-table-n c = sym (leads_no c.requires.0 _ _ _ _ c.if-table-n.true)

pub returns : goal.returns
returns c = beq_cond _ _ ∙ sym (leads_by c.requires.0 _ _ _ _ c.if-table-n.false)
