-- What holds of each run of the command, whatever becomes of it.
use Rattle.std.specs.Prelude.{◌≡◌, ◌≤◌, ◌⊎◌, ◌++◌, ℕ, IsTrue, List, length, Result, Ok}
use Rattle.vd_outside.specs.Causes.{Rose}
use Rattle.vd_outside.specs.Files.{FilesView}
use Rattle.vd_outside.specs.Net.{NetView}
use Rattle.vd_outside.specs.Sink.{SinkView}
use Rattle.vd_outside.specs.declared.net.NetCall.{NetCall}
use Rattle.vd_cmd.specs.declared.command.HostWords.{HostWords}
use Rattle.vd_hostcode.specs.declared.host_text.program.HostProgram.{HostProgram}
use Rattle.vd_host_session.specs.Laws.{AsksFrontOf, ComesBack, calls_of}
use Rattle.vd_host_session.specs.declared.task.Task.{Task}
use Rattle.vd_cmd_plan.specs.declared.status.HostStatus.TheVariants as host_status
use Rattle.vd_cmd_plan.specs.declared.status.Status.{Status}
use Rattle.vd_cmd_plan.specs.declared.status.Status.TheVariants as status
use Rattle.vd_cmd_host.specs.Hosts.{PlainRuns, RunsLoaded}
use Rattle.vd_cmd_host.specs.Loading.{LoadsHost}
use Rattle.vd_cmd_host.specs.declared.loading.Loaded.{Loaded}

-- of every run of the command with a deal of version 1
abbrev pub OfEachRun : (HostWords → FilesView → FilesView → NetView → NetView → SinkView → SinkView → Status → Type 0) → Type 0
OfEachRun Holds = (words : HostWords) (files files_now : FilesView) (net net_now : NetView) (out out_now : SinkView) (end : Status)
    → PlainRuns words files files_now net net_now out out_now end → Holds words files files_now net net_now out out_now end

-- ---- the calls of the net

-- the host of a program, with the addresses of its pairs
abbrev pub task_of : HostProgram → (addresses : List (List ℕ)) → Task
task_of program addresses = record { me = program.me; plan = program.plan.bytes; addresses = addresses }

abbrev pub calls_for : HostWords → HostProgram → NetView → List NetCall
calls_for words program net = calls_of (task_of program words.addresses) net.given

-- the files were loaded, and the net was asked for a prefix of the calls of that host, with status 0 for all of them
pub record AsksFor (words : HostWords) (files files_now : FilesView) (net net_now : NetView) (end : Status) : Type 0 where
  pub loaded : Loaded
  pub loads : LoadsHost words files files_now (Ok loaded)
  pub front : AsksFrontOf (calls_for words loaded.program net) net net_now
  pub whole : end ≡ status.Ended → net_now.asked ≡ net.asked ++ calls_for words loaded.program net

-- A net that tells its calls was asked for a prefix of those of the host, and for all of them with status 0; for none where the
-- files were not loaded.
abbrev pub HostsAskInOrder : Type 0
HostsAskInOrder = OfEachRun (λ words files files_now net net_now out out_now end. IsTrue net.told → (net_now ≡ net) ⊎ AsksFor words files files_now net net_now end)

-- ---- causes

-- a count rose, where the status is one of the outside's
abbrev pub HasCause : FilesView → FilesView → NetView → NetView → SinkView → SinkView → Status → Type 0
HasCause files files_now net net_now out out_now (status.ReadFault name) = Rose files.faults files_now.faults
HasCause files files_now net net_now out out_now status.WriteFault = Rose out.faults out_now.faults
HasCause files files_now net net_now out out_now (status.Host (host_status.PeerFault name)) = Rose net.faults net_now.faults
HasCause files files_now net net_now out out_now other = Unit {0}

abbrev pub StatusesHaveCauses : Type 0
StatusesHaveCauses = OfEachRun (λ words files files_now net net_now out out_now end. HasCause files files_now net net_now out out_now end)

-- ---- links

-- Each link that was given comes back.
abbrev pub LinksComeBack : Type 0
LinksComeBack = OfEachRun (λ words files files_now net net_now out out_now end. IsTrue net.told → length net.back ≤ net.links → ComesBack net net_now)

-- ---- waits

-- Over a net or over one that seals its links: from before the first call until the end no wait for another host is longer than the words allow.
abbrev pub WaitsAreLimited : Type 0
WaitsAreLimited = (words : HostWords) (loaded : Loaded) (net net_now : NetView) (out out_now : SinkView) (result : Result (Unit {0}) Status)
    → RunsLoaded words loaded net net_now out out_now result → (net_now ≡ net) ⊎ (net_now.limit ≡ words.limit)
