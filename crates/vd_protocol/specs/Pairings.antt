-- The kinds of protocols that two hosts hold together.
use Rattle.std.specs.Prelude.{Bool}
use Rattle.vd_base.specs.declared.ids.HostId.{HostId}
use Rattle.vd_base.specs.declared.protocols.Proto.{Proto}
use Rattle.vd_base.specs.declared.protocols.Proto.TheVariants as proto
use Rattle.vd_base.specs.Protocols.{differ, is_earlier}
use Rattle.vd_protocol.specs.declared.list.Pairing.{Pairing}
use Rattle.vd_protocol.specs.declared.list.Pairing.TheVariants.{Commit, Add, Xor}

-- which two hosts, in this order
abbrev pub takes : Pairing → HostId → HostId → Bool
takes Commit = differ
takes Add = is_earlier
takes Xor = is_earlier

abbrev pub protocol_of : Pairing → HostId → HostId → Proto
protocol_of Commit = proto.Commit
protocol_of Add = proto.Add
protocol_of Xor = proto.Xor
