use Rattle.vd_space_prefix.specs.Naming.{naming_of}
use Rattle.vd_space_prefix.proofs.Fills.{grows}
use Rattle.vd_space_prefix.proofs.numbers.namings.Goals as goal

pub loop-slot-preserved : goal.loop-slot-preserved
loop-slot-preserved c = grows (naming_of c.args.problem.now) c.loop-slot.slot c.loop-slot.namings c.push.new.self c.in_ok-naming.field-0 c.loop-slot.invariant c.in_ok-naming.ensures c.in_ok-push.ensures.ok
