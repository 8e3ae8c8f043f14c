use Rattle.vd_cmd_files.proofs.ChoiceTold.{lines_tell}
use Rattle.vd_cmd_files.proofs.report_laws.choice_lines_tell_the_choice.Goals as goal

pub returns : goal.returns
returns c = lines_tell
