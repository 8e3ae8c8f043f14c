-- The table of operations: what each costs at a protocol, or that it cannot stand there.
use Rattle.std.specs.Prelude.{ℕ, if◌then◌else◌, Option, Some, None}
use Rattle.vd_base.specs.declared.operations.Op.TheVariants as op
use Rattle.vd_base.specs.declared.operations.Op.{Op}
use Rattle.vd_base.specs.declared.ids.HostId.{HostId}
use Rattle.vd_base.specs.declared.protocols.Proto.{Proto}
use Rattle.vd_base.specs.declared.protocols.Proto.TheVariants.{Local, Rep, Commit, Add, Xor}
use Rattle.vd_base.specs.declared.rows.Row.{Row}
use Rattle.vd_base.specs.declared.rows.Row.TheVariants.{Constant, Carry, Input, Variable, Apply}
use Rattle.vd_base.specs.HostSets.{same_host, size}

-- on additive shares
abbrev pub added_cost : Op → Option ℕ
added_cost op.Add = Some 2
added_cost op.Sub = Some 2
added_cost (op.Scale k) = Some 2
added_cost op.Mul = Some 20
added_cost o = None

-- on shares by exclusive or
abbrev pub xored_cost : Op → Option ℕ
xored_cost op.Add = Some 200
xored_cost op.Sub = Some 200
xored_cost op.Xor = Some 2
xored_cost op.Not = Some 2
xored_cost op.Flip = Some 2
xored_cost (op.Shl k) = Some 2
xored_cost (op.Shr k) = Some 2
xored_cost op.And = Some 20
xored_cost op.Or = Some 20
xored_cost op.Mux = Some 20
xored_cost op.Eq = Some 100
xored_cost op.Ne = Some 100
xored_cost op.Lt = Some 200
xored_cost op.Le = Some 200
xored_cost op.Min = Some 220
xored_cost op.Max = Some 220
xored_cost (op.Scale k) = None
xored_cost op.Mul = None
xored_cost op.Div = None
xored_cost op.Rem = None

abbrev pub op_cost_at : Op → Proto → Option ℕ
op_cost_at o (Local h) = Some 1
op_cost_at o (Rep set) = Some (size set)
op_cost_at o (Commit p v) = None
op_cost_at o (Add a b) = added_cost o
op_cost_at o (Xor a b) = xored_cost o

-- what is made in clear or in shares, but never as a commitment
abbrev pub made_at : Proto → Option ℕ
made_at (Commit p v) = None
made_at p = Some 0

-- an input word comes in at its host alone
abbrev pub input_at : HostId → Proto → Option ℕ
input_at h (Local k) = if same_host h k then Some 0 else None
input_at h p = None

abbrev pub cost_at : Row → Proto → Option ℕ
cost_at Constant p = made_at p
cost_at Carry p = Some 0
cost_at (Input h) p = input_at h p
cost_at Variable p = made_at p
cost_at (Apply o) p = op_cost_at o p
