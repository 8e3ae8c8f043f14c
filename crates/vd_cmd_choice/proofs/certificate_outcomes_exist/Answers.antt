use Rattle.vd_cmd_choice.proofs.Certificates.{some_certificates}
use Rattle.vd_cmd_choice.proofs.certificate_outcomes_exist.Goals as goal

pub returns : goal.returns
returns c = some_certificates
