use Rattle.std.proofs.Common.{sym, ap}
use Rattle.vd_cmd_choose.specs.Certifying.{as_proved}
use Rattle.vd_cmd_choose.proofs.Statuses.{check_refusal}
use Rattle.vd_cmd_choose.proofs.certify_command.confirm_space.Goals as goal

pub returns-in-Ok : goal.returns-in-Ok
returns-in-Ok c = record { ok = sym (ap as_proved ((rw c.problem.ensures.same at c.in-Ok.ensures.exact) (λ e. cc e))); err = tt }

pub returns-in-Err : goal.returns-in-Err
returns-in-Err c = record { ok = tt; err = rw c.check_status.ensures (check_refusal _ c.in-Err.fault (rw c.problem.ensures.same at c.in-Err.ensures.exact)) }
