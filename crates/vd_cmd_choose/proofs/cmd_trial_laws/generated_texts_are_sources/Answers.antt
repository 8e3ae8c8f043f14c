use Rattle.vd_cmd_choose.proofs.Read.{gives_source}
use Rattle.vd_cmd_choose.proofs.cmd_trial_laws.generated_texts_are_sources.Goals as goal

pub returns : goal.returns
returns c = gives_source
