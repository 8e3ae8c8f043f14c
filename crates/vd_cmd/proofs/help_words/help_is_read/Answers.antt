use Rattle.vd_cmd.proofs.HelpRead.{help_read}
use Rattle.vd_cmd.proofs.help_words.help_is_read.Goals as goal

pub returns : goal.returns
returns c = help_read
