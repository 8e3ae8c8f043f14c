use Rattle.vd_backend_laws.proofs.Compared.{copies_are_compared, nonces_are_drawn, digests_are_compared}
use Rattle.vd_backend_laws.proofs.backend_openings.what_differs_is_found.Goals as goal

pub returns-clause-copies : goal.returns-clause-copies
returns-clause-copies c = copies_are_compared

pub returns-clause-nonces : goal.returns-clause-nonces
returns-clause-nonces c = nonces_are_drawn

pub returns-clause-digests : goal.returns-clause-digests
returns-clause-digests c = digests_are_compared
