use Rattle.vd_cmd_host.proofs.Instance.{equal_words}
use Rattle.vd_cmd_host.proofs.cmd_host_laws.equal_words_are_enough.Goals as goal

pub returns : goal.returns
returns c = equal_words
