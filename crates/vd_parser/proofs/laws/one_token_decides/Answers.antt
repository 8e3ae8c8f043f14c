use Rattle.vd_parser.proofs.Ready.{F, E, language_ll1}
use Rattle.vd_parser.proofs.laws.one_token_decides.Goals as goal

pub returns : goal.returns
returns c = (F, E, language_ll1)
