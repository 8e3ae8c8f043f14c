use Rattle.std.proofs.Common.{◌∙◌}
use Rattle.vd_diag_terminal.proofs.Others.{unsaid_of_host}
use Rattle.vd_diag_terminal.proofs.alone.of_host.Goals as goal

pub returns-in-ProgramText : goal.returns-in-ProgramText
returns-in-ProgramText c = rw c.in-ProgramText.is c.of_program.ensures

pub returns-in_default : goal.returns-in_default
returns-in_default c = c.new.ensures ∙ unsaid_of_host c.args.words.now c.args.fault.now c.in_default.not-ProgramText
