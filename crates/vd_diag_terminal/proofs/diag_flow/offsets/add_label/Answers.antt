use Rattle.vd_diag_terminal.specs.FlowSteps.{written_offsets}
use Rattle.vd_diag_terminal.proofs.Offsets.{no_label, no_slot, none_added}
use Rattle.vd_diag_terminal.proofs.diag_flow.offsets.add_label.Goals as goal

pub returns-in-None-label : goal.returns-in-None-label
returns-in-None-label c =
    let lookup = c.in-Some.ensures.lookup in
    none_added c.args.offsets.now (written_offsets c.args.form.now c.args.slot)
    (no_label c.args.form.now c.args.slot c.as_slice.result.now c.as_slice.ensures c.from.result c.from.ensures c.in-Some.slot.now lookup.0 lookup.1 c.in-None-label.is)

pub returns-in-None : goal.returns-in-None
returns-in-None c =
    none_added c.args.offsets.now (written_offsets c.args.form.now c.args.slot)
    (no_slot c.args.form.now c.args.slot c.as_slice.result.now c.as_slice.ensures c.from.result c.from.ensures c.in-None.ensures.lookup.3)
