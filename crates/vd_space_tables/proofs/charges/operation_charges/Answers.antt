use Rattle.vd_space.specs.Costs.{operation_term}
use Rattle.vd_space_prefix.proofs.Front.{grows}
use Rattle.vd_space_tables.specs.Charges.{charge_of}
use Rattle.vd_space_tables.proofs.charges.operation_charges.Goals as goal

pub loop-slot-preserved : goal.loop-slot-preserved
loop-slot-preserved c = grows (λ slot. charge_of c.args.problem.now (operation_term c.args.problem.now slot)) c.loop-slot.slot c.loop-slot.charges c.push.new.self c.in_ok-operation_charge.field-0 c.loop-slot.invariant c.in_ok-operation_charge.ensures c.in_ok-push.ensures.ok
