use Rattle.vd_parser.proofs.OutcomeTotal.{parses_somehow}
use Rattle.vd_parser.proofs.laws.outcomes_are_total.Goals as goal

pub returns : goal.returns
returns c = parses_somehow
