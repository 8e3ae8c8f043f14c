use Rattle.vd_backend_sharing.proofs.Conversions.{bits_kept, sums_kept}
use Rattle.vd_backend_sharing.proofs.backend_algebra.sharing.conversions_keep_the_word.Goals as goal

pub returns-clause-bits : goal.returns-clause-bits
returns-clause-bits c = bits_kept

pub returns-clause-sums : goal.returns-clause-sums
returns-clause-sums c = sums_kept
