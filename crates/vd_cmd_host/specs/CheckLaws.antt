-- What a check of a host's files tells of its runs.
use Rattle.std.specs.Prelude.{◌≡◌, ◌≤◌, IsTrue, None, Err}
use Rattle.vd_execution.specs.Step.{Source}
use Rattle.vd_machine.specs.Wants.{count_of}
use Rattle.vd_outside.specs.Files.{FilesView}
use Rattle.vd_outside.specs.Marks.{MarksView}
use Rattle.vd_outside.specs.Net.{NetView}
use Rattle.vd_outside.specs.Sink.{SinkView}
use Rattle.vd_cmd.specs.declared.command.CheckWords.{CheckWords}
use Rattle.vd_cmd.specs.declared.command.HostWords.{HostWords}
use Rattle.vd_cmd_plan.specs.declared.status.HostStatus.TheVariants as host_status
use Rattle.vd_cmd_plan.specs.declared.status.Status.{Status}
use Rattle.vd_cmd_plan.specs.declared.status.Status.TheVariants as status
use Rattle.vd_host_session.specs.Starts.{IsProgramRead}
use Rattle.vd_cmd_host.specs.Checking.{HostChecks, amounts_in, first_short, most_taken}
use Rattle.vd_cmd_host.specs.Hosts.{RunsLoaded}
use Rattle.vd_cmd_host.specs.Serving.{lists_of}
use Rattle.vd_cmd_host.specs.declared.loading.Loaded.{Loaded}

-- each list has as many items as the code takes at most
abbrev pub HasEnough : Loaded → Type 0
HasEnough loaded = (list : Source) → most_taken loaded.program list ≤ count_of (lists_of loaded) list

-- Where a check finds no list short, each list has enough.
abbrev pub CheckedHostsHaveEnough : Type 0
CheckedHostsHaveEnough = (loaded : Loaded) → IsProgramRead loaded.program → first_short (amounts_in loaded) ≡ None → HasEnough loaded

-- an input or an item was wanted past the end of its list
abbrev pub IsShortage : Status → Type 0
IsShortage (status.Host (host_status.ShortInput cursor count)) = Unit {0}
IsShortage (status.Host (host_status.ShortDeal kind cursor count)) = Unit {0}
IsShortage other = ⊥

-- A host that has enough does not end for want of an input or of an item, whatever its peers send and whatever becomes of the net.
abbrev pub HostsWithEnoughAreNotShort : Type 0
HostsWithEnoughAreNotShort = (words : HostWords) (loaded : Loaded) (net net_now : NetView) (out out_now : SinkView) (end : Status)
    → IsProgramRead loaded.program → HasEnough loaded → RunsLoaded words loaded net net_now out out_now (Err end) → IsShortage end → ⊥

-- A check takes no mark, frees none and draws nothing.
abbrev pub ChecksTakeNoMark : Type 0
ChecksTakeNoMark = (words : CheckWords) (files files_now : FilesView) (marks marks_now : MarksView) (out out_now : SinkView) (end : Status)
    → HostChecks words files files_now marks marks_now out out_now end → IsTrue marks.told
    → (marks_now.taken ≡ marks.taken) × (marks_now.draws ≡ marks.draws)
