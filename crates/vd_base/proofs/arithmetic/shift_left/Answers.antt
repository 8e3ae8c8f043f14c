use Rattle.vd_base.proofs.Shifts.{none_left}
use Rattle.vd_base.proofs.arithmetic.shift_left.Goals as goal

pub returns-else-bits-lt-BITS : goal.returns-else-bits-lt-BITS
returns-else-bits-lt-BITS c = none_left c.args.x c.args.bits c.if-bits-lt-BITS.false
