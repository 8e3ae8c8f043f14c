use Rattle.vd_search_tree.proofs.Outcomes.{one_outcome}
use Rattle.vd_search_tree.proofs.search_certificate.files.files_have_one_outcome.Goals as goal

pub returns : goal.returns
returns c = one_outcome
