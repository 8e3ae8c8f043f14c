-- The calls of two hosts whose parts add up to the word.
use Rattle.std.specs.Prelude.{ℕ, Bool, is_some, List, []}
use Rattle.vd_base.specs.declared.ids.HostId.{HostId}
use Rattle.vd_base.specs.declared.operations.Op.{Op}
use Rattle.vd_base.specs.declared.operations.Op.TheVariants as op
use Rattle.vd_base.specs.Costs.{added_cost}
use Rattle.vd_execution.specs.declared.instructions.Binary.TheVariants as binary
use Rattle.vd_execution.specs.Gadgets.{BySums}
use Rattle.vd_duet.specs.Calls.{Places, Made, Calls}
use Rattle.vd_backend_sharing.specs.declared.shares.PartRegisters.{PartRegisters}
use Rattle.vd_backend_sharing.specs.PairCalls.{two, operand, applied_shares, numbered_shares, product_shares, pair_calls}

-- the operations that the table of costs has at added parts
abbrev pub add_serves : Op → Bool
add_serves o = is_some (added_cost o)

abbrev pub add_apply : HostId → HostId → Op → List Places → List ℕ → Made PartRegisters
add_apply a b op.Add xs next = applied_shares binary.Add a b (operand xs 0) (operand xs 1) next
add_apply a b op.Sub xs next = applied_shares binary.Sub a b (operand xs 0) (operand xs 1) next
add_apply a b (op.Scale k) xs next = numbered_shares binary.Mul k a b (operand xs 0) next
add_apply a b op.Mul xs next = product_shares BySums a b (operand xs 0) (operand xs 1) next
add_apply a b o xs next = record { given = two 0 0; gadgets = []; next = next }

abbrev pub add_calls : HostId → HostId → Calls
add_calls a b = pair_calls BySums a b add_serves (add_apply a b)
