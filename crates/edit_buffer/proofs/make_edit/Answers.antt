-- A case for each edit; that its rows are passed gives what it needs.
use Rattle.std.proofs.Common.{arith}
use Rattle.edit_rules.proofs.EditedLaws.{edit_placed, arrival_fits}
use Rattle.edit_rules.specs.declared.Edit.TheVariants.{Arrival}
use Rattle.edit_buffer.proofs.make_edit.Goals as goal

pub overflow_cast-source : goal.overflow_cast-source
overflow_cast-source c =
    let p = edit_placed _ _ _ _ Arrival (rw c.in-Arrival.is at c.requires.clean) in
    omega (arith, p.source, c.requires.formed.0.well.vertices)

pub overflow_cast-target : goal.overflow_cast-target
overflow_cast-target c =
    let p = edit_placed _ _ _ _ Arrival (rw c.in-Arrival.is at c.requires.clean) in
    omega (arith, p.target, c.requires.formed.0.well.vertices)

pub arrive-requires : goal.arrive-requires
arrive-requires c =
    let p = c.requires.formed.0 in
    let f = arrival_fits _ _ _ _ (rw c.in-Arrival.is at c.requires.clean) in
    record {
      formed = (p, omega (arith, f.0, p.edges));
      m_in_bounds = omega (arith, f.1, p.vertices, p.edges);
    }

pub returns-in-Arrival : goal.returns-in-Arrival
returns-in-Arrival c = rw c.in-Arrival.is c.arrive.ensures

pub returns-in-Leaving : goal.returns-in-Leaving
returns-in-Leaving c = rw c.in-Leaving.is c.leave.ensures
