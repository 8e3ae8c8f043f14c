-- The line that tells a person why a call of the outside failed.
use Rattle.std.specs.Prelude.{◌≡◌, ◌⊎◌, ℕ, List, [], ◌∷◌, ◌++◌, codes, Option, None, Some, slice_get, nat_eq, option_map, if◌then◌else◌}
use Rattle.std.specs.Fmt.{decimal}
use Rattle.vd_base_codec.specs.Digits.{key_text}
use Rattle.vd_cmd.specs.declared.command.Command.{Command}
use Rattle.vd_cmd.specs.declared.command.Command.TheVariants.{Host}
use Rattle.vd_cmd.specs.declared.command.HostWords.{HostWords}
use Rattle.vd_channel_link.specs.declared.fault.SealFault.{SealFault}
use Rattle.vd_channel_link.specs.declared.fault.SealFault.TheVariants as seal_fault
use Rattle.vd_edge.specs.PeerReasons.{call_text}
use Rattle.vd_edge.specs.declared.peer_reason.PeerReason.{PeerReason}
use Rattle.vd_cmd_host.specs.Loading.{HoldsProgram}
use Rattle.vd_hostcode.specs.declared.host_text.program.HostProgram.{HostProgram}
use Rattle.vd_outside.specs.Files.{Contents}
use Rattle.vd_cmd_plan.specs.Shown.{shown}

-- a host speaks by its name, since several can write to one terminal
abbrev pub speaker : Option (List ℕ) → List ℕ
speaker None = []
speaker (Some host) = codes "host " ++ (shown host ++ codes ", ")

abbrev pub reason_line : Option (List ℕ) → List ℕ → List ℕ
reason_line host reason = codes "viaduct: " ++ (speaker host ++ (shown reason ++ 10 ∷ []))

-- what was wrong with a sealed link; a link below that failed or ended tells so itself
abbrev pub seal_words : SealFault → Option (List ℕ)
seal_words seal_fault.Peer = None
seal_words seal_fault.End = None
seal_words seal_fault.Version = Some (codes "no viaduct host of this version")
seal_words seal_fault.Dealing = Some (codes "another dealing")
seal_words seal_fault.Host = Some (codes "another host")
seal_words seal_fault.Head = Some (codes "no record")
seal_words seal_fault.Code = Some (codes "a record without proof")

abbrev pub seal_text : Option SealFault → Option (List ℕ)
seal_text None = None
seal_text (Some fault) = option_map (λ words. codes "sealed link: " ++ words) (seal_words fault)

-- a peer goes by its name, where it is known for whom something was done
abbrev pub peer_part : Option (List ℕ) → List ℕ
peer_part None = codes "a peer"
peer_part (Some name) = name

abbrev pub address_part : Option (List ℕ) → List ℕ
address_part None = []
address_part (Some address) = codes " at " ++ address

-- what was done for which peer, at which address, and what the system says of it
abbrev pub peer_text : Option (List ℕ) → PeerReason → List ℕ
peer_text peer reason = call_text reason.call ++ (codes " " ++ (peer_part peer ++ (address_part reason.address ++ (codes ": " ++ reason.cause))))

-- which plan a peer has, and which one this host
abbrev pub plans_text : (peer ours theirs : List ℕ) → List ℕ
plans_text peer ours theirs = peer ++ (codes " has plan " ++ (key_text theirs ++ (codes ", and this host plan " ++ key_text ours)))

-- one packet, or so many packets
abbrev pub noun_of : ℕ → List ℕ
noun_of count = if nat_eq count 1 then codes "packet" else codes "packets"

-- how many packets a host sent, and how many came to it
abbrev pub packets_text : (sent came : ℕ) → List ℕ
packets_text sent came = decimal sent ++ (codes " " ++ (noun_of sent ++ (codes " sent, " ++ (decimal came ++ codes " received"))))

-- how many packets the hosts of a replay sent to one another
abbrev pub sent_text : (sent : ℕ) → List ℕ
sent_text sent = decimal sent ++ (codes " " ++ (noun_of sent ++ codes " sent"))

-- the host of a program goes by its own name, and by that of the program's file where that is none
abbrev pub IsOwnName : HostWords → Contents → List ℕ → Type 0
IsOwnName words contents name = (program : HostProgram) × HoldsProgram words contents program × (slice_get program.hosts program.me.0 ≡ Some name)

abbrev pub IsHostName : HostWords → Contents → List ℕ → Type 0
IsHostName words contents name = IsOwnName words contents name ⊎ (name ≡ words.program)

-- the host that a command line runs; other commands run none here
abbrev pub IsSpeaker : Option Command → Contents → List ℕ → Type 0
IsSpeaker (Some (Host words)) contents name = IsHostName words contents name
IsSpeaker command contents name = ⊥

-- a host goes by its number, counted from 0, where its name is not known
abbrev pub host_part : Option (List ℕ) → (number : ℕ) → List ℕ
host_part None number = decimal number
host_part (Some name) number = name

-- which host of a run was the first to end with a fault, and how
abbrev pub first_text : Option (List ℕ) → (number status : ℕ) → List ℕ
first_text host number status = codes "host " ++ (host_part host number ++ (codes " ended first, with status " ++ decimal status))
