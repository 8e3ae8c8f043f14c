-- The calls of two hosts that share words by exclusive or and compute by circuits.
use Rattle.std.specs.Prelude.{Bool, is_some}
use Rattle.vd_base.specs.declared.ids.HostId.{HostId}
use Rattle.vd_base.specs.declared.operations.Op.{Op}
use Rattle.vd_base.specs.Costs.{xored_cost}
use Rattle.vd_execution.specs.Gadgets.{ByXors}
use Rattle.vd_duet.specs.Calls.{Calls}
use Rattle.vd_backend_sharing.specs.PairCalls.{pair_calls}
use Rattle.vd_bits.specs.BitCalls.{circuit_shares}

-- the operations that the table of costs has at exclusive or
abbrev pub circuit_serves : Op → Bool
circuit_serves o = is_some (xored_cost o)

abbrev pub circuit_calls : HostId → HostId → Calls
circuit_calls a b = pair_calls ByXors a b circuit_serves (circuit_shares a b)
