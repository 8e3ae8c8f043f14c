-- A program that was read can be played.
use Rattle.std.proofs.Common.{arith, ◌≡◌, ◌<◌, ◌≤◌, ◌+◌, ◌^◌, ℕ, List, [], length, Ok, sym, ap, subst}
use Rattle.vd_base.specs.declared.ids.HostId.{HostId}
use Rattle.vd_execution.specs.Code.{weight}
use Rattle.vd_execution.specs.Step.{State}
use Rattle.vd_machine.specs.Kept.{Kept, at_start, state_of}
use Rattle.vd_engine.specs.Hosts.{PacketsAreWith}
use Rattle.vd_hostcode.specs.File.{from_version, has_arrays}
use Rattle.vd_hostcode.specs.Lines.{start}
use Rattle.vd_hostcode.specs.Reading.{code_of}
use Rattle.vd_hostcode.specs.declared.host_text.program.HostProgram.{HostProgram}
use Rattle.vd_hostcode.specs.Outcome.{CanRun, IsHeaded, IsOutcome}
use Rattle.vd_host_session.specs.Meetings.{IsPeerOf}
use Rattle.vd_host_session.specs.declared.task.Task.{Task}
use Rattle.vd_host_session.proofs.Others.{others_are_peers}
use Rattle.vd_host_session.specs.Packets.{AllSpeakWith, IsOther}
use Rattle.vd_host_session.proofs.Lines.{lines_speak}
use Rattle.vd_host_session.proofs.Trees.{tree_speaks}

-- the packets of a program that was read are with the other hosts
program_speaks : (program : HostProgram) (bytes : List ℕ) → IsOutcome bytes (Ok program) → AllSpeakWith (IsOther program.me.0 (length program.hosts)) program.code
program_speaks program bytes outcome =
    let file = outcome.0.0 in
    let code : program.code ≡ code_of file.lines = ap (λ (p : HostProgram). p.code) outcome.0.3 in
    subst (AllSpeakWith (IsOther program.me.0 (length program.hosts))) (sym code)
    (lines_speak (length program.hosts) program.me program.code [] (start (from_version (has_arrays file.lines))) file.lines outcome.1 code outcome.0.1.lines)

-- what `play` asks of a host
pub record Plays (task : Task) (machine : Kept) : Type 0 where
  pub few : length task.addresses ≤ 3
  pub own : task.me.0 ≤ length task.addresses
  pub packets : PacketsAreWith (IsPeerOf task) (state_of machine).pending
  pub short : weight (state_of machine).pending < 2 ^ 32

pub program_plays : (program : HostProgram) (bytes : List ℕ) → IsOutcome bytes (Ok program) → IsHeaded program → (run : CanRun program) → (task : Task) (machine : Kept) → task.me ≡ program.me
    → length task.addresses + 1 ≡ length program.hosts → state_of machine ≡ at_start run.nested → Plays task machine
program_plays program bytes outcome heading run task machine me long starts =
    let number : task.me.0 ≡ program.me.0 = ap (λ (h : HostId). h.0) me in
    let few = heading.few in
    let below = heading.me in
    let own : task.me.0 ≤ length task.addresses = omega (arith, number, below, long) in
    let steps = run.steps in
    record {
      few = omega (arith, few, long);
      own = own;
      packets = subst (λ (s : State). PacketsAreWith (IsPeerOf task) s.pending) (sym starts)
          (others_are_peers task run.nested own
          (subst (λ (m : ℕ). PacketsAreWith (IsOther m (length task.addresses + 1)) run.nested) (sym number)
          (subst (λ (h : ℕ). PacketsAreWith (IsOther program.me.0 h) run.nested) (sym long)
          (tree_speaks (IsOther program.me.0 (length program.hosts)) program.code run.nested run.is_code (program_speaks program bytes outcome)))));
      short = subst (λ (s : State). weight s.pending < 2 ^ 32) (sym starts) (omega (arith, steps));
    }
