-- The outcomes of certificate files.
use Rattle.vd_search_tree.proofs.Front.{one_outcome}
use Rattle.vd_cmd_choice.specs.Outcomes.{CertificateOutcomes}

-- there is a function that gives each file its one outcome
pub some_certificates : CertificateOutcomes
some_certificates = record { read = λ bytes. (one_outcome bytes).outcome; read_is = λ bytes. (one_outcome bytes).has }
