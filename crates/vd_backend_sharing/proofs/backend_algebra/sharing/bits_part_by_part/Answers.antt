use Rattle.vd_backend_sharing.proofs.BackendAlgebraParts.{xor_turn, shl_each, shr_each, mask_each, xor_past}
use Rattle.vd_backend_sharing.proofs.backend_algebra.sharing.bits_part_by_part.Goals as goal

pub returns-clause-xor : goal.returns-clause-xor
returns-clause-xor c = λ x0 x1 y0 y1. xor_turn x0 y0 x1 y1

pub returns-clause-shl : goal.returns-clause-shl
returns-clause-shl c = shl_each

pub returns-clause-shr : goal.returns-clause-shr
returns-clause-shr c = shr_each

pub returns-clause-mask : goal.returns-clause-mask
returns-clause-mask c = mask_each

pub returns-clause-not : goal.returns-clause-not
returns-clause-not c = xor_past 4294967295

pub returns-clause-flip : goal.returns-clause-flip
returns-clause-flip c = xor_past 1
