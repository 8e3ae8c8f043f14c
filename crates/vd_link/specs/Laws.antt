-- What holds of every stream of packets.
use Rattle.std.specs.Prelude.{◌≡◌, ◌≢◌, ℕ, List, [], ◌∷◌, ◌++◌, length}
use Rattle.vd_base.specs.Words.{AreWords}
use Rattle.vd_link.specs.Frames.{frame, frames}
use Rattle.vd_link.specs.Sessions.{Ends, IsGreetFault, IsLinkFault, wanted_greeting}
use Rattle.vd_link.specs.declared.faults.GreetFault.{GreetFault}
use Rattle.vd_link.specs.declared.faults.GreetFault.TheVariants as greet_fault
use Rattle.vd_link.specs.declared.faults.LinkFault.{LinkFault}
use Rattle.vd_link.specs.declared.faults.LinkFault.TheVariants as link_fault

-- each packet has words alone
abbrev pub ArePackets : List (List ℕ) → Type 0
ArePackets [] = Unit {0}
ArePackets (packet ∷ packets) = AreWords packet × ArePackets packets

-- A stream that begins with as many packets begins with these, and goes on behind them in one way, however it was cut.
abbrev pub StreamsHaveOneReading : Type 0
StreamsHaveOneReading = (packets others : List (List ℕ)) (rest behind : List ℕ) → ArePackets packets → ArePackets others
    → length packets ≡ length others → frames packets ++ rest ≡ frames others ++ behind → (packets ≡ others) × (rest ≡ behind)

-- Where a packet of so many words comes, no byte is wrong and no end comes too early.
abbrev pub FaultsExcludePackets : Type 0
FaultsExcludePackets = (words rest : List ℕ) (offset : ℕ) (fault : LinkFault)
    → fault ≢ link_fault.Peer → IsLinkFault (length words) offset (frame words ++ rest) fault → ⊥

-- Where the greeting that is awaited comes, it has no fault.
abbrev pub FaultsExcludeGreetings : Type 0
FaultsExcludeGreetings = (ends : Ends) (rest : List ℕ) (fault : GreetFault) → length ends.plan ≡ 32
    → fault ≢ greet_fault.Peer → IsGreetFault ends (wanted_greeting ends ++ rest) fault → ⊥
