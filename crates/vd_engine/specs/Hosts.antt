-- A host's machine as what steps, and what its code asks of its sessions.
use Rattle.std.specs.Prelude.{◌<◌, ◌≤◌, ℕ, IsSome, List, length}
use Rattle.vd_base.specs.Limits.{most_packet_words}
use Rattle.vd_base.specs.Packets.{packet_words}
use Rattle.vd_execution.specs.declared.instructions.Reg.{Reg}
use Rattle.vd_execution.specs.Code.{Code, Finished, Then, Send, Recv, Choose, Repeat}
use Rattle.vd_execution.specs.Step.{State, Deed, need, next, deed}
use Rattle.vd_machine.specs.declared.lists.Lists.{Lists}
use Rattle.vd_machine.specs.declared.want.Want.{Want}
use Rattle.vd_machine.specs.declared.did.Did.{Did}
use Rattle.vd_machine.specs.declared.did.Did.TheVariants as did
use Rattle.vd_machine.specs.Dids.{seen}
use Rattle.vd_machine.specs.Machines.{words_for}
use Rattle.vd_machine.specs.Wants.{want_of}
use Rattle.vd_engine.specs.Links.{session_at}
use Rattle.vd_engine.specs.declared.links.Links.{Links}

-- what a host with these lists wants, where a step leads on the words that it heard, and what others see of that
abbrev pub wants_with : Lists → State → Want
wants_with lists state = want_of lists state.cursors (need state)

abbrev pub next_with : Lists → State → List ℕ → State
next_with lists state heard = next state (words_for lists state.cursors heard (need state))

abbrev pub seen_at : State → Deed
seen_at state = seen (deed state)

-- each packet of a code has 1 to 16 words, and goes to or comes from a host of which this holds
abbrev pub IsPacketWith : (ℕ → Type 0) → ℕ → List Reg → Type 0
IsPacketWith holds peer registers = holds peer × (1 ≤ length registers) × (length registers ≤ most_packet_words)

abbrev pub PacketsAreWith : (ℕ → Type 0) → Code → Type 0
PacketsAreWith holds Finished = Unit {0}
PacketsAreWith holds (Then action rest) = PacketsAreWith holds rest
PacketsAreWith holds (Send peer registers rest) = IsPacketWith holds peer registers × PacketsAreWith holds rest
PacketsAreWith holds (Recv peer registers rest) = IsPacketWith holds peer registers × PacketsAreWith holds rest
PacketsAreWith holds (Choose guard first other rest) = PacketsAreWith holds first × (PacketsAreWith holds other × PacketsAreWith holds rest)
PacketsAreWith holds (Repeat counter turn count body rest) = PacketsAreWith holds body × PacketsAreWith holds rest

-- a session with a host stands
abbrev pub stands_in : {L : Type 0} → Links L → ℕ → Type 0
stands_in links host = IsSome (session_at links host)

-- what is seen of a step can be passed on: a packet goes to a host with a session, and has a word
abbrev pub CanShow : (ℕ → Type 0) → Did → Type 0
CanShow holds did.Quiet = Unit {0}
CanShow holds (did.Say host packet) = holds host.0 × (0 < length (packet_words packet))
CanShow holds (did.Print word) = Unit {0}
