use Rattle.vd_backend_sharing.proofs.Computing.{and_computes, xor_computes, or_computes, not_computes, flip_computes, shl_computes, shr_computes}
use Rattle.vd_backend_sharing.proofs.backend_algebra.circuits.bitwise_circuits.Goals as goal

pub returns-clause-and : goal.returns-clause-and
returns-clause-and c = and_computes

pub returns-clause-xor : goal.returns-clause-xor
returns-clause-xor c = xor_computes

pub returns-clause-or : goal.returns-clause-or
returns-clause-or c = or_computes

pub returns-clause-not : goal.returns-clause-not
returns-clause-not c = not_computes

pub returns-clause-flip : goal.returns-clause-flip
returns-clause-flip c = flip_computes

pub returns-clause-shl : goal.returns-clause-shl
returns-clause-shl c = λ amount x h. shl_computes amount x

pub returns-clause-shr : goal.returns-clause-shr
returns-clause-shr c = shr_computes
