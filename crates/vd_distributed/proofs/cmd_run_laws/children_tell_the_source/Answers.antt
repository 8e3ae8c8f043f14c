use Rattle.vd_distributed.proofs.Reports.{children_tell_the_source}
use Rattle.vd_distributed.proofs.cmd_run_laws.children_tell_the_source.Goals as goal

pub returns : goal.returns
returns c = children_tell_the_source
