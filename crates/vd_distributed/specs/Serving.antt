-- What the hosts of a joint code send a host is all that it wants.
use Rattle.std.specs.Prelude.{◌≡◌, ℕ, List, [], Option, Some, None, slice_get}
use Rattle.vd_base.specs.declared.protocols.Proto.{Proto}
use Rattle.vd_core.specs.declared.normal.NormalForm.{NormalForm}
use Rattle.vd_tape.specs.declared.deal_items.deal.Deal.{Deal}
use Rattle.vd_execution.specs.Code.{Code}
use Rattle.vd_execution.specs.Joint.{Joint, code_of}
use Rattle.vd_execution.specs.Step.{Source}
use Rattle.vd_execution.specs.Text.{IsCodeOf}
use Rattle.vd_execution.specs.World.{Supply}
use Rattle.vd_execution.specs.Claims.{Suffices, last_of}
use Rattle.vd_machine.specs.declared.lists.Lists.{Lists}
use Rattle.vd_machine.specs.Kept.{at_start}
use Rattle.vd_machine.specs.Machines.{items_of}
use Rattle.vd_link.specs.Frames.{frames}
use Rattle.vd_engine.specs.Drives.{SessionView, Sessions}
use Rattle.vd_engine.specs.Enough.{IsEnough}
use Rattle.vd_projection.specs.Programs.{joint_of}
use Rattle.vd_hostcode.specs.declared.host_text.program.Digest.{Digest}
use Rattle.vd_world.specs.Supplies.{AreFiles, lists_for, supply_of_files}
use Rattle.vd_distributed.specs.Linked.{AreOwnHosts}
use Rattle.vd_projection.specs.Stored.{CanBeStored, stored_program}

-- these packets come on a session, and nothing else; where there is no session there are none
abbrev pub Brings : List (List ℕ) → Option SessionView → Type 0
Brings packets None = packets ≡ []
Brings packets (Some session) = session.link.coming ≡ frames packets

-- on its session with each other host comes what that one sends it in the joint run
abbrev pub IsSentAll : Supply → Joint → ℕ → Sessions → Type 0
IsSentAll s j h sessions = (p : ℕ) → Brings ((last_of s j p).sent h) (sessions p)

-- Where the lists of all hosts suffice, a host has all that it wants to whom the others send what they send in the joint run: wherever
-- its steps lead on the packets that come, the awaited one comes whole, no compared words differ, and its own lists suffice.
abbrev pub OthersSendEnough : Type 0
OthersSendEnough = (s : Supply) (j : Joint) (lists : ℕ → Lists) (h : ℕ) (sessions : Sessions) → AreOwnHosts s j → Suffices s (last_of s j)
    → ((g : ℕ) (source : Source) (i : ℕ) → s g source i ≡ items_of (lists g) source i) → IsSentAll s j h sessions
    → IsEnough (lists h) (at_start (code_of h j)) sessions

-- So it is with each host of a program that is stored at a list of protocols, from its own code on its own inputs and deal.
abbrev pub StoredHostsAreServed : Type 0
StoredHostsAreServed = (program : NormalForm) (list : List Proto) (plan : Digest) (inputs : List (List ℕ)) (deals : List Deal) (h : ℕ)
    → CanBeStored program list plan h → AreFiles inputs deals
    → Suffices (supply_of_files inputs deals) (last_of (supply_of_files inputs deals) (joint_of program list))
    → (deal : Deal) → slice_get deals h ≡ Some deal → (code : Code) → IsCodeOf (stored_program program list plan h).code code
    → (sessions : Sessions) → IsSentAll (supply_of_files inputs deals) (joint_of program list) h sessions
    → IsEnough (lists_for inputs h deal) (at_start code) sessions
