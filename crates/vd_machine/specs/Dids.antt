-- What others see of a step, as the machine tells it.
use Rattle.std.specs.Prelude.{ℕ, ◌<◌, ◌≤◌, All}
use Rattle.vd_base.specs.Limits.{most_packet_words}
use Rattle.vd_base.specs.Packets.{packet_words}
use Rattle.vd_execution.specs.Ranges.{IsPacketRange}
use Rattle.vd_execution.specs.Registers.{Registers}
use Rattle.vd_execution.specs.Step.{Deed, Quiet, Said, Heard, Printed, words_in}
use Rattle.vd_machine.specs.declared.did.Did.{Did}
use Rattle.vd_machine.specs.declared.did.Did.TheVariants as did
use Rattle.vd_machine.specs.declared.did.Outgoing.{Outgoing}
use Rattle.vd_machine.specs.declared.did.Outgoing.TheVariants as outgoing

abbrev pub deed_of_did : Did → Deed
deed_of_did did.Quiet = Quiet
deed_of_did (did.Say p packet) = Said p.0 (packet_words packet)
deed_of_did (did.Print x) = Printed x

-- the same, where the words of a packet stand in registers
abbrev pub deed_of_outgoing : Registers → Outgoing → Deed
deed_of_outgoing f outgoing.Quiet = Quiet
deed_of_outgoing f (outgoing.Say p rs) = Said p.0 (words_in f rs.now)
deed_of_outgoing f (outgoing.Print x) = Printed x

-- that a packet was taken is known from what was wanted
abbrev pub seen : Deed → Deed
seen Quiet = Quiet
seen (Said p words) = Said p words
seen (Heard p) = Quiet
seen (Printed x) = Printed x

-- a packet goes to one of so many hosts, and has a count that is none of too many words
abbrev pub IsToHost : ℕ → Did → Type 0
IsToHost hosts did.Quiet = Unit {0}
IsToHost hosts (did.Say p packet) = (p.0 < hosts) × (packet.count ≤ most_packet_words)
IsToHost hosts (did.Print x) = Unit {0}

-- the same of registers, which are below n
abbrev pub OutgoingFits : ℕ → ℕ → Outgoing → Type 0
OutgoingFits n hosts outgoing.Quiet = Unit {0}
OutgoingFits n hosts (outgoing.Say p rs) = IsPacketRange hosts p.0 rs.now × All (λ r. r.0 < n) rs.now
OutgoingFits n hosts (outgoing.Print x) = Unit {0}
