use Rattle.vd_shell.proofs.AheadNamed.{named_ahead}
use Rattle.vd_shell.proofs.ahead.named_files_are_ahead.Goals as goal

pub returns : goal.returns
returns c = named_ahead
