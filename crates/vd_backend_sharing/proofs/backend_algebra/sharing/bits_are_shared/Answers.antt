use Rattle.std.proofs.lemmas.Nat.{xor_comm}
use Rattle.std.specs.Int.Bits.{xor_zero_r}
use Rattle.vd_backend_sharing.proofs.BackendAlgebraParts.{taken_off, put_on}
use Rattle.vd_backend_sharing.proofs.backend_algebra.sharing.bits_are_shared.Goals as goal

pub returns-clause-opened : goal.returns-clause-opened
returns-clause-opened c = λ p q. xor_comm q p

pub returns-clause-alone : goal.returns-clause-alone
returns-clause-alone c = λ x h. xor_zero_r x

pub returns-clause-hidden : goal.returns-clause-hidden
returns-clause-hidden c = λ x r hx hr. (taken_off x r, put_on x r)
