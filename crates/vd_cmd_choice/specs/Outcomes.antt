-- The function that picks the one outcome of each certificate file.
use Rattle.std.specs.Prelude.{ℕ, List, Result}
use Rattle.vd_search_tree.specs.declared.search_certificate.certificate.Certificate.{Certificate}
use Rattle.vd_search_tree.specs.Outcomes.{HasOutcome}

-- the function that gives each file its certificate, or the first offset at which no certificate goes on
pub record CertificateOutcomes : Type 0 where
  pub read : List ℕ → Result Certificate ℕ
  pub read_is : (bytes : List ℕ) → HasOutcome bytes (read bytes)
