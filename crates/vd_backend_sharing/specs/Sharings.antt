-- Two ways in which two hosts share a word: by parts of which it is the sum, or the exclusive or.
use Rattle.std.specs.Prelude.{ℕ}
use Rattle.vd_base.specs.declared.ids.HostId.{HostId}
use Rattle.vd_base.specs.declared.protocols.Proto.{Proto}
use Rattle.vd_base.specs.declared.protocols.Proto.TheVariants as proto
use Rattle.vd_execution.specs.declared.instructions.Binary.{Binary}
use Rattle.vd_execution.specs.declared.instructions.Binary.TheVariants as binary
use Rattle.vd_execution.specs.Registers.{applied}
use Rattle.vd_execution.specs.Gadgets.{Sharing, BySums, ByXors, hide}
use Rattle.vd_backend_sharing.specs.declared.shares.Sharing.{Sharing as Way}
use Rattle.vd_backend_sharing.specs.declared.shares.Sharing.TheVariants as way

abbrev pub sharing_of : Way → Sharing
sharing_of way.Sums = BySums
sharing_of way.Xors = ByXors

-- the protocol of two hosts that share
abbrev pub shared_by : Sharing → HostId → HostId → Proto
shared_by BySums a b = proto.Add a b
shared_by ByXors a b = proto.Xor a b

-- the operation that gives the word from its parts
abbrev pub join : Sharing → Binary
join BySums = binary.Add
join ByXors = binary.Xor

-- the operation of which dealt items are examples
abbrev pub multiply : Sharing → Binary
multiply BySums = binary.Mul
multiply ByXors = binary.And

-- the word of two parts
abbrev pub joined : Sharing → ℕ → ℕ → ℕ
joined s x y = applied (join s) x y

-- a word without a part
abbrev pub hidden : Sharing → ℕ → ℕ → ℕ
hidden s x r = applied (hide s) x r

abbrev pub multiplied : Sharing → ℕ → ℕ → ℕ
multiplied s x y = applied (multiply s) x y
