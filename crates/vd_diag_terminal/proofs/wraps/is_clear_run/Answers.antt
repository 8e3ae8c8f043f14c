use Rattle.vd_diag_terminal.proofs.Wrapped.{no_clear_run}
use Rattle.vd_diag_terminal.proofs.wraps.is_clear_run.Goals as goal

pub returns-in-Ended : goal.returns-in-Ended
returns-in-Ended c = rw c.in-Ended.is c.is_command.ensures

pub returns-in_default : goal.returns-in_default
returns-in_default c = no_clear_run c.args.words.now c.args.status.now c.in_default.not-Ended
