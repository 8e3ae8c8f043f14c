use Rattle.std.proofs.Common.{List, ap, ◌∙◌}
use Rattle.vd_base.specs.declared.protocols.Proto.{Proto}
use Rattle.vd_cmd_compile.proofs.Front.{can_run}
use Rattle.vd_cmd_needs.specs.Needing.{needs_text}
use Rattle.vd_cmd_needs.proofs.Told.{needs_told, prints}
use Rattle.vd_cmd_needs.proofs.needs_command.needs_at.Goals as goal

pub needs_text-requires : goal.needs_text-requires
needs_text-requires c = can_run c.args.program.now c.args.assignment.now c.form-form.ensures.well_made c.form-form.ensures.fit c.requires c.as_slice-protocols.result.now c.as_slice-protocols.ensures

pub returns-clause-computes : goal.returns-clause-computes
returns-clause-computes c =
    prints c.printing.result c.in_ok-printed.printed _ c.printing.ensures
    (c.in_ok-printed.ensures {u = tt} ∙ ap (λ (l : List Proto). needs_text c.args.kind c.args.program.now l) c.as_slice-protocols.ensures)

pub returns-clause-tells : goal.returns-clause-tells
returns-clause-tells c =
    needs_told c.args.kind c.args.program.now c.args.assignment.now c.form-form.ensures.well_made c.form-form.ensures.fit c.requires c.printing.result c.in_ok-printed.printed
    c.as_slice-protocols.result.now c.printing.ensures (c.in_ok-printed.ensures {u = tt}) c.as_slice-protocols.ensures
