-- Each way out is a row of the call's table of refusals, or the table written.
use native.Mathlib.Omega.{arith}
use mathlib.Core.Path.{◌≡◌, ap, ◌∙◌}
use Prim.Native.Nat.{ℕ, ◌+◌, ◌≤◌}
use Rattle.table.specs.Table.{priority_at}
use Rattle.table.specs.ReadingLaws.{reading_accepted}
use Rattle.table.specs.Highest.{highest_of}
use Rattle.table_convert.specs.LowestTable.{highest, even_from}
use Rattle.table_convert.specs.ConvertCall.{first_oversize}
use Rattle.table_convert.specs.ConvertCallLaws.{convert_handed, convert_short, convert_oversize, convert_done}
use Rattle.table_convert.specs.PriorityRangeLaws.{room}
use Rattle.table_convert.proofs.write_lowest.Goals as goal

pub returns-in_default : goal.returns-in_default
returns-in_default c = rw (c.refusal_of.ensures, c.in_default.is) (convert_handed _ _ c.in_default.field-0 (rw c.in_default.is at c.read_sizes-reading.ensures))

pub overflow_mul-needed : goal.overflow_mul-needed
overflow_mul-needed c = let s = reading_accepted _ _ (rw c.in-Ok.is at c.read_sizes-reading.ensures) in
    omega (arith, s.vertices, s.edges, s.well.vertices, s.well.edges)

pub overflow_add-needed : goal.overflow_add-needed
overflow_add-needed c = let s = reading_accepted _ _ (rw c.in-Ok.is at c.read_sizes-reading.ensures) in
    omega (arith, s.vertices, s.edges, s.well.vertices, s.well.edges)

pub overflow_mul-needed-2 : goal.overflow_mul-needed-2
overflow_mul-needed-2 c = let s = reading_accepted _ _ (rw c.in-Ok.is at c.read_sizes-reading.ensures) in
    omega (arith, s.vertices, s.edges, s.well.vertices, s.well.edges)

pub overflow_add-needed-2 : goal.overflow_add-needed-2
overflow_add-needed-2 c = let s = reading_accepted _ _ (rw c.in-Ok.is at c.read_sizes-reading.ensures) in
    omega (arith, s.vertices, s.edges, s.well.vertices, s.well.edges)

pub returns-then-output-needed : goal.returns-then-output-needed
returns-then-output-needed c = let s = reading_accepted _ _ (rw c.in-Ok.is at c.read_sizes-reading.ensures) in
    rw c.refused.ensures (convert_short _ _ s.well _ _ s.vertices s.edges c.if-output-needed.true)

pub highest-highest-requires : goal.highest-highest-requires
highest-highest-requires c = let s = reading_accepted _ _ (rw c.in-Ok.is at c.read_sizes-reading.ensures) in
    omega (arith, s.vertices, s.well.size)

pub first_oversize-oversize-requires : goal.first_oversize-oversize-requires
first_oversize-oversize-requires c = let s = reading_accepted _ _ (rw c.in-Ok.is at c.read_sizes-reading.ensures) in
    (s.vertices, c.highest-highest.ensures ∙ ap (λ (n : ℕ). highest_of n (priority_at c.args.game.now)) s.vertices, omega (arith, s.vertices, s.well.size))

pub returns-then-oversize-n : goal.returns-then-oversize-n
returns-then-oversize-n c = let s = reading_accepted _ _ (rw c.in-Ok.is at c.read_sizes-reading.ensures) in
    rw c.refused-then-oversize-n.ensures (convert_oversize _ _ s.well _ _ s.vertices s.edges c.if-output-needed.false _ c.first_oversize-oversize.ensures c.if-oversize-n.true)

pub write_table-requires : goal.write_table-requires
write_table-requires c = let g = c.args.game.now in
    let s = reading_accepted _ _ (rw c.in-Ok.is at c.read_sizes-reading.ensures) in
    -- what was found is the highest priority, and it is a word
    let most : c.highest-highest.result ≡ highest g = c.highest-highest.ensures ∙ ap (λ (n : ℕ). highest_of n (priority_at g)) s.vertices in
    let few : highest g ≤ 65535 = omega (arith, most) in
    -- no word of a priority is 36's
    let none : 2 + c.in-Ok.sizes.vertices ≤ first_oversize g = omega (arith, c.if-oversize-n.false, c.first_oversize-oversize.ensures) in
    let even = c.even_from.ensures ∙ ap even_from most in
    record { well_formed = (s.well, s.vertices, s.edges, even); m_in_bounds = (c.if-output-needed.false, room _ few _ _ s.vertices even none) }

pub returns : goal.returns
returns c = let s = reading_accepted _ _ (rw c.in-Ok.is at c.read_sizes-reading.ensures) in
    let none : 2 + c.in-Ok.sizes.vertices ≤ first_oversize c.args.game.now = omega (arith, c.if-oversize-n.false, c.first_oversize-oversize.ensures) in
    rw c.write_table.ensures (convert_done _ _ s.well _ _ s.vertices s.edges c.if-output-needed.false none)
