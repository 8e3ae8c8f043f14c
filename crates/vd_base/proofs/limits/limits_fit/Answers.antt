use Rattle.std.proofs.Common.{arith}
use Rattle.vd_base.proofs.limits.limits_fit.Goals as goal

pub returns : goal.returns
returns c = record {
  inputs = omega arith;
  steps = omega arith;
  schedules = omega arith;
}
