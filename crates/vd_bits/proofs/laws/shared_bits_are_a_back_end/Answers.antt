use Rattle.vd_bits.specs.BitCalls.{circuit_shares, bit_serves}
use Rattle.vd_bits.proofs.BitLaws.{circuit_gives, bit_laws}
use Rattle.vd_bits.proofs.BitActs.{bit_acts}
use Rattle.vd_bits.proofs.laws.shared_bits_are_a_back_end.Goals as goal

pub returns-clause-calls : goal.returns-clause-calls
returns-clause-calls c = λ a b apart. (bit_laws a b apart, bit_acts a b)

pub returns-clause-circuits : goal.returns-clause-circuits
returns-clause-circuits c = λ a b apart t next w ready o has xs vs count os.
    circuit_gives a b apart bit_serves (circuit_shares a b) t next w ready o has xs vs count os
