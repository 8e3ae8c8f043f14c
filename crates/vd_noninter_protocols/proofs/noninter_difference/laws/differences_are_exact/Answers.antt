use Rattle.vd_noninter_protocols.proofs.Differences.{first_is, differs_exactly}
use Rattle.vd_noninter_protocols.proofs.noninter_difference.laws.differences_are_exact.Goals as goal

pub returns-clause-first : goal.returns-clause-first
returns-clause-first c = first_is

pub returns-clause-exact : goal.returns-clause-exact
returns-clause-exact c = differs_exactly
