use Rattle.std.proofs.Common.{subst}
use Rattle.vd_space_tables.specs.Parts.{AreCharges, AreMoved, AreSmallOnSlots}
use Rattle.vd_space_tables.proofs.Finished.{charges_small, moved_small, tables_made}
use Rattle.vd_space_tables.proofs.assembly.tables.Goals as goal

pub kept_parts-requires-clause-parts : goal.kept_parts-requires-clause-parts
kept_parts-requires-clause-parts c =
    let formed = c.requires.well_formed in
    record {
      charges = charges_small c.args.problem.now formed.labelled formed.limits c.as_slice-7.result.now c.in_ok-charges.charges c.in_ok-charges.ensures.charges c.in_ok-charges.ensures.small;
      moved = moved_small c.args.problem.now formed.labelled formed.limits c.as_slice-4.result.now c.in_ok-moved.moved c.in_ok-moved.ensures;
    }

pub returns-clause-tables : goal.returns-clause-tables
returns-clause-tables c =
    let problem = c.args.problem.now in
    let charges = c.in_ok-charges.charges in
    let moved = c.in_ok-moved.moved in
    tables_made problem c.requires.well_formed.labelled c.requires.well_formed.limits c.args.shifts charges moved
    (subst (λ s. AreCharges problem s charges) c.as_slice-7.ensures c.in_ok-charges.ensures.charges)
    (subst (λ s. AreMoved problem s moved) c.as_slice-4.ensures c.in_ok-moved.ensures)
    c.in_ok-list.list c.in_ok-kept.kept
    (subst (AreSmallOnSlots problem) c.as_slice-7.ensures c.in_ok-charges.ensures.small)
    c.in_ok-kept.ensures c.in_ok-list.ensures c.requires.well_formed
