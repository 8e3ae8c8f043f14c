use Rattle.vd_base.proofs.Shifts.{none_right}
use Rattle.vd_base.proofs.arithmetic.shift_right.Goals as goal

pub returns-else-bits-lt-BITS : goal.returns-else-bits-lt-BITS
returns-else-bits-lt-BITS c = none_right c.args.x c.args.bits c.ranges.x.fits c.if-bits-lt-BITS.false
