use Rattle.vd_cmd_run.proofs.Ways.{not_played}
use Rattle.vd_cmd_run.proofs.run_command.play_answer.Goals as goal

pub returns-in_default : goal.returns-in_default
returns-in_default g c = not_played c.args.words.now c.args.names _ c.args.answer c.requires.given c.in_default.not-Ended
