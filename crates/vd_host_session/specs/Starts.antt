-- A host at its start.
use Rattle.std.specs.Prelude.{◌≡◌, ◌<◌, ◌≤◌, ◌^◌, ℕ, List, Ok, length}
use Rattle.vd_tape.specs.declared.deal_items.deal.Deal.{Deal}
use Rattle.vd_execution.specs.Code.{Code, weight}
use Rattle.vd_execution.specs.Text.{IsCodeOf}
use Rattle.vd_machine.specs.Kept.{at_start, state_of}
use Rattle.vd_engine.specs.Hosts.{PacketsAreWith}
use Rattle.vd_hostcode.specs.declared.host_text.program.HostProgram.{HostProgram}
use Rattle.vd_hostcode.specs.Outcome.{CanRun, IsHeaded, IsOutcome}
use Rattle.vd_host_session.specs.Meetings.{IsPeerOf}
use Rattle.vd_host_session.specs.declared.host_start.starting.Ready.{Ready}

-- a program as its reader gives it
pub record IsProgramRead (program : HostProgram) : Type 0 where
  pub read : (bytes : List ℕ) × IsOutcome bytes (Ok program)
  pub heading : IsHeaded program
  pub code : CanRun program

-- its machine stands at the start of the program's code, with these inputs and this deal, and its task is the program's
pub record Starts (program : HostProgram) (inputs : List ℕ) (deal : Deal) (addresses : List (List ℕ)) (ready : Ready) : Type 0 where
  pub me : ready.task.me ≡ program.me
  pub plan : ready.task.plan ≡ program.plan.bytes
  pub addresses_are : ready.task.addresses ≡ addresses
  pub state : (code : Code) → IsCodeOf program.code code → state_of ready.machine ≡ at_start code
  pub inputs_are : ready.machine.lists.inputs ≡ inputs
  pub deal_is : ready.machine.lists.deal ≡ deal

-- it can be run over a net: its packets are with its peers alone
pub record CanPlay (ready : Ready) : Type 0 where
  pub few : length ready.task.addresses ≤ 3
  pub own : ready.task.me.0 ≤ length ready.task.addresses
  pub packets : PacketsAreWith (IsPeerOf ready.task) (state_of ready.machine).pending
  pub short : weight (state_of ready.machine).pending < 2 ^ 32
