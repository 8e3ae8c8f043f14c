use Rattle.vd_parser.proofs.OutcomeLaws.{parses_once}
use Rattle.vd_parser.proofs.laws.outcomes_are_single.Goals as goal

pub returns : goal.returns
returns c = parses_once
