-- What is proved of the calls of back ends, of the moves that are calls of none, and of commitments.
use Rattle.std.specs.Prelude.{ℕ, ◌<◌, ◌≤◌, List}
use Rattle.vd_base.specs.declared.ids.HostId.{HostId}
use Rattle.vd_base.specs.declared.protocols.HostSet.{HostSet}
use Rattle.vd_base.specs.declared.protocols.Proto.{Proto}
use Rattle.vd_base.specs.declared.protocols.Proto.TheVariants.{Rep}
use Rattle.vd_base.specs.Holders.{HasHosts}
use Rattle.vd_execution.specs.declared.instructions.Reg.{Reg}
use Rattle.vd_clear.specs.Copies.{clear_calls, spread_to}
use Rattle.vd_words.specs.AddCalls.{add_calls}
use Rattle.vd_circuit.specs.CircuitCalls.{circuit_calls}
use Rattle.vd_convert.specs.Convert.{to_xor_made, to_add_made}
use Rattle.vd_commit.specs.declared.ends.Held.{Held}
use Rattle.vd_commit.specs.declared.ends.Seen.{Seen}
use Rattle.vd_commit.specs.Commit.{committed, revealed}
use Rattle.vd_projection.specs.Fits.{EndsMade, RegisterMade, Room, MoveFits, CallsFit}

abbrev pub ClearCallsFit : Type 0
ClearCallsFit = (hosts bound : ℕ) (p : Proto) → HasHosts hosts p → CallsFit hosts bound (clear_calls p)

abbrev pub SpreadingFits : Type 0
SpreadingFits = (hosts bound : ℕ) (set : HostSet) → HasHosts hosts (Rep set) → MoveFits hosts bound (spread_to set)

abbrev pub SumCallsFit : Type 0
SumCallsFit = (hosts bound : ℕ) (a b : HostId) → a.0 < hosts → b.0 < hosts → CallsFit hosts bound (add_calls a b)

abbrev pub CircuitCallsFit : Type 0
CircuitCallsFit = (hosts bound : ℕ) (a b : HostId) → a.0 < hosts → b.0 < hosts → CallsFit hosts bound (circuit_calls a b)

abbrev pub ConversionToBitsFits : Type 0
ConversionToBitsFits = (hosts bound : ℕ) (a b : HostId) → a.0 < hosts → b.0 < hosts → MoveFits hosts bound (to_xor_made a b)

abbrev pub ConversionToSumsFits : Type 0
ConversionToSumsFits = (hosts bound : ℕ) (a b : HostId) → a.0 < hosts → b.0 < hosts → MoveFits hosts bound (to_add_made a b)

abbrev pub CommittingFits : Type 0
CommittingFits =
    (hosts bound : ℕ) (p v : HostId) → p.0 < hosts → v.0 < hosts → (x : Reg) (m n : ℕ) (next : List ℕ) → x.0 ≤ m → Room bound m n next
    → EndsMade hosts bound n (committed p v x next)

abbrev pub RevealingFits : Type 0
RevealingFits =
    (hosts bound : ℕ) (p v : HostId) → p.0 < hosts → v.0 < hosts → (held : Held) (seen : Seen) (m n : ℕ) (next : List ℕ)
    → held.value.0 ≤ m → held.nonce.0 ≤ m → seen.digest.0 ≤ m → Room bound m n next → RegisterMade hosts bound n (revealed p v held seen next)
