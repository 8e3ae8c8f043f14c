use Rattle.vd_cmd_choose.proofs.Read.{is_read}
use Rattle.vd_cmd_choose.proofs.cmd_trial_laws.generated_sources_are_read.Goals as goal

pub returns : goal.returns
returns c = is_read
