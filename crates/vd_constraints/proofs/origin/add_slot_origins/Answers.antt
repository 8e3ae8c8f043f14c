use Rattle.vd_constraints.specs.Origins.{slot_origins}
use Rattle.vd_constraints.proofs.Asking.{no_label_asks, no_slot_asks, none_asks}
use Rattle.vd_constraints.proofs.origin.add_slot_origins.Goals as goal

pub returns-in-None-label : goal.returns-in-None-label
returns-in-None-label c =
    let lookup = c.in-Some.ensures.lookup in
    none_asks c.args.origins.now (slot_origins c.args.program.now c.args.slot)
    (no_label_asks c.args.program.now c.args.slot c.as_slice.result.now c.as_slice.ensures c.from.result c.from.ensures c.in-Some.slot.now lookup.0 lookup.1 c.in-None-label.is)

pub returns-in-None : goal.returns-in-None
returns-in-None c =
    none_asks c.args.origins.now (slot_origins c.args.program.now c.args.slot)
    (no_slot_asks c.args.program.now c.args.slot c.as_slice.result.now c.as_slice.ensures c.from.result c.from.ensures c.in-None.ensures.lookup.3)
