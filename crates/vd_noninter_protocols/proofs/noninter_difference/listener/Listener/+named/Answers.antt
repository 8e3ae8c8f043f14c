use Rattle.vd_noninter_protocols.proofs.Runs.{held_in_other}
use Rattle.vd_noninter_protocols.proofs.noninter_difference.listener.Listener.+named.Goals as goal

pub holds_named_by-returns-else-holds_named : goal.holds_named_by-returns-else-holds_named
holds_named_by-returns-else-holds_named t c =
    held_in_other c.args.self.now c.args.stmt.now c.in-If.guard c.in-If.then_block c.in-If.else_block c.as_slice.result.now c.as_slice-else-holds_named.result.now c.in-If.field-3 c.holds-in-If.result c.holds_named.result c.holds_named-else-holds_named.result c.in-If.is c.as_slice.ensures c.as_slice-else-holds_named.ensures c.holds-in-If.ensures c.if-holds-6.false c.holds_named.ensures c.if-holds_named.false c.holds_named-else-holds_named.ensures
