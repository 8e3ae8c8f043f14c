use Rattle.vd_noninter_protocols.proofs.Runs.{told_in_other}
use Rattle.vd_noninter_protocols.proofs.noninter_difference.listener.Listener.+told.Goals as goal

pub is_told_by-returns-else-is_told : goal.is_told_by-returns-else-is_told
is_told_by-returns-else-is_told t c =
    told_in_other c.args.self.now c.args.stmt.now c.in-If.field-0 c.in-If.then_block c.in-If.else_block c.as_slice.result.now c.as_slice-else-is_told.result.now c.in-If.field-3 c.is_told.result c.is_told-else-is_told.result c.in-If.is c.as_slice.ensures c.as_slice-else-is_told.ensures c.is_told.ensures c.if-is_told.false c.is_told-else-is_told.ensures
