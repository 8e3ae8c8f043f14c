-- When a host ends well.
use Rattle.std.specs.Prelude.{◌≡◌, ◌<◌, ◌≤◌, ◌⊎◌, ◌++◌, ℕ, zero, suc, IsTrue, length, drop, Option, Some, None}
use Rattle.std.specs.List.{AllByRecursion}
use Rattle.vd_execution.specs.Code.{Code}
use Rattle.vd_execution.specs.Text.{IsCodeOf}
use Rattle.vd_machine.specs.Kept.{at_start}
use Rattle.vd_machine.specs.declared.lists.Lists.{Lists}
use Rattle.vd_outside.specs.Causes.{Rose}
use Rattle.vd_outside.specs.Files.{Contents, FilesView}
use Rattle.vd_outside.specs.Link.{LinkView}
use Rattle.vd_outside.specs.Net.{NetView, Waiting, link_at, without_link_at}
use Rattle.vd_outside.specs.Sink.{SinkView}
use Rattle.vd_cmd.specs.declared.command.HostWords.{HostWords}
use Rattle.vd_engine.specs.Drives.{SessionView, Sessions}
use Rattle.vd_engine.specs.Enough.{IsEnough}
use Rattle.vd_host_session.specs.Peers.{address_of, number_at}
use Rattle.vd_host_session.specs.declared.task.Task.{Task}
use Rattle.vd_link.specs.Frames.{greeting}
use Rattle.vd_cmd_plan.specs.declared.status.Status.{Status}
use Rattle.vd_cmd_plan.specs.declared.status.Status.TheVariants as status
use Rattle.vd_cmd_host.specs.Laws.{OfEachRun, task_of}
use Rattle.vd_cmd_host.specs.Loading.{HoldsHost}
use Rattle.vd_cmd_host.specs.declared.loading.Loaded.{Loaded}

-- the links that wait behind those that the first peers, so many, are given
abbrev pub waiting_behind : Task → ℕ → Waiting LinkView → Waiting LinkView
waiting_behind task zero waiting = waiting
waiting_behind task (suc place) waiting = without_link_at (address_of task place) (waiting_behind task place waiting)

-- the link that the peer at this place is given, at its address
abbrev pub link_for : Task → ℕ → NetView → Option LinkView
link_for task place net = link_at (address_of task place) (waiting_behind task place net.waiting) net.otherwise

-- A link waits for the peer at this place. On it comes that peer's greeting, by this plan and to this host, and behind it what
-- is still to come in the peer's session.
pub record Serves (task : Task) (net : NetView) (sessions : Sessions) (place : ℕ) : Type 0 where
  pub link : LinkView
  pub waits : link_for task place net ≡ Some link
  pub session : SessionView
  pub stands : sessions (number_at task.me.0 place) ≡ Some session
  pub comes : link.coming ≡ greeting task.plan (number_at task.me.0 place) task.me.0 ++ session.link.coming

abbrev pub AllServe : Task → NetView → Sessions → Type 0
AllServe task net sessions = (place : ℕ) → place < length task.addresses → Serves task net sessions place

-- the lists that a host takes its inputs and items from
abbrev pub lists_of : Loaded → Lists
lists_of loaded = record { inputs = loaded.inputs; deal = loaded.dealt.deal }

-- The files hold a host with a deal of version 1, and the net has as many listeners as it counts. Every greeting comes whole and equal; and wherever the
-- steps of the host's code lead on the packets that come, the awaited one comes whole, no compared words differ, and its inputs
-- and items suffice.
pub record IsServed (words : HostWords) (contents : Contents) (net : NetView) : Type 0 where
  pub loaded : Loaded
  pub held : HoldsHost words contents loaded
  pub plain : loaded.dealt.secrets ≡ None
  pub listeners : length net.listeners ≡ net.given
  pub sessions : Sessions
  pub peers : AllServe (task_of loaded.program words.addresses) net sessions
  pub code : Code
  pub is_code : IsCodeOf loaded.program.code code
  pub enough : IsEnough (lists_of loaded) (at_start code) sessions

abbrev pub IsTold : LinkView → Type 0
IsTold link = IsTrue link.told

-- no count of the outside rose, and the links that came back tell their bytes still
pub record IsQuiet (files files_now : FilesView) (net net_now : NetView) (out out_now : SinkView) : Type 0 where
  pub no_file : Rose files.faults files_now.faults → ⊥
  pub no_peer : Rose net.faults net_now.faults → ⊥
  pub no_write : Rose out.faults out_now.faults → ⊥
  pub all_tell : AllByRecursion IsTold (drop (length net.back) net_now.back)

-- A host that is served ends with status 0 or is out of memory, unless something outside fails.
abbrev pub IsCompleteHost : HostWords → FilesView → FilesView → NetView → NetView → SinkView → SinkView → Status → Type 0
IsCompleteHost words files files_now net net_now out out_now end =
    IsTrue files.told → IsTrue net.told → length net.back ≤ net.links → IsQuiet files files_now net net_now out out_now → IsServed words files.contents net
    → (end ≡ status.Ended) ⊎ (end ≡ status.Memory)

abbrev pub ServedHostsEndWell : Type 0
ServedHostsEndWell = OfEachRun IsCompleteHost
