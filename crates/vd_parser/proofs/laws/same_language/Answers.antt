use Rattle.vd_parser.proofs.Document.{same_language}
use Rattle.vd_parser.proofs.laws.same_language.Goals as goal

pub returns : goal.returns
returns c = same_language
