use Rattle.vd_parser.proofs.Named.{names_are_names}
use Rattle.vd_parser.proofs.laws.names_are_names.Goals as goal

pub returns : goal.returns
returns c = names_are_names
