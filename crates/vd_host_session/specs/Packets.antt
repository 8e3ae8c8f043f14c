-- With whom a code exchanges packets.
use Rattle.std.specs.Prelude.{◌≢◌, ◌<◌, ℕ, List, [], ◌∷◌}
use Rattle.vd_execution.specs.declared.instructions.Instr.{Instr}
use Rattle.vd_execution.specs.declared.instructions.Instr.TheVariants as instr
use Rattle.vd_engine.specs.Hosts.{IsPacketWith}

-- another one of so many hosts
abbrev pub IsOther : (me hosts : ℕ) → ℕ → Type 0
IsOther me hosts peer = (peer < hosts) × (peer ≢ me)

-- an instruction that sends or receives does so with a host of which this holds, and a packet of 1 to 16 words
abbrev pub SpeaksWith : (ℕ → Type 0) → Instr → Type 0
SpeaksWith holds (instr.Send p rs) = IsPacketWith holds p.0 rs
SpeaksWith holds (instr.Recv p rs) = IsPacketWith holds p.0 rs
SpeaksWith holds i = Unit {0}

abbrev pub AllSpeakWith : (ℕ → Type 0) → List Instr → Type 0
AllSpeakWith holds [] = Unit {0}
AllSpeakWith holds (i ∷ is) = SpeaksWith holds i × AllSpeakWith holds is
