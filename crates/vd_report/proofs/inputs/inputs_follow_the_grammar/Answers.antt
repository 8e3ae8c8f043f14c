use Rattle.vd_report.proofs.InputsFaults.{follows_grammar}
use Rattle.vd_report.proofs.inputs.inputs_follow_the_grammar.Goals as goal

pub returns : goal.returns
returns c = follows_grammar
