-- What becomes of the command.
use Rattle.std.specs.Prelude.{◌≡◌, ℕ, Bool, List, Option, Some, None, MatchOption, Result, Ok, Err}
use Rattle.vd_outside.specs.Files.{FilesView}
use Rattle.vd_outside.specs.Net.{NetView}
use Rattle.vd_outside.specs.Sink.{SinkView}
use Rattle.vd_outside.specs.Marks.{MarksView}
use Rattle.vd_channel_crypto.specs.declared.deal_keys.secrets.Secrets.{Secrets}
use Rattle.vd_channel_link.specs.Ledgers.{has_sent}
use Rattle.vd_channel_link.specs.Outgoing.{Sealer, SealsLinks}
use Rattle.vd_channel_link.specs.Seals.{sealed_by}
use Rattle.vd_channel_link.specs.Views.{sealing}
use Rattle.vd_channel_link.specs.declared.channel_net.ledger.Ledger.{Ledger}
use Rattle.vd_channel_link.specs.declared.channel_net.seal.Seal.{Seal}
use Rattle.vd_cmd.specs.declared.command.HostWords.{HostWords}
use Rattle.vd_engine.specs.declared.engine.Ended.{Ended}
use Rattle.vd_hostcode.specs.declared.host_text.program.HostProgram.{HostProgram}
use Rattle.vd_host_session.specs.Plays.{Plays}
use Rattle.vd_host_session.specs.declared.fault.HostFault.{HostFault}
use Rattle.vd_host_session.specs.Starts.{CanPlay, Starts}
use Rattle.vd_host_session.specs.declared.host_start.starting.Ready.{Ready}
use Rattle.vd_cmd_plan.specs.declared.status.Status.{Status}
use Rattle.vd_cmd_plan.specs.declared.status.Status.TheVariants as status
use Rattle.vd_cmd_host.specs.Loading.{IsLoaded, LoadsHost}
use Rattle.vd_cmd_host.specs.Marking.{Claims, Leaves}
use Rattle.vd_cmd_host.specs.Statuses.{status_of}
use Rattle.vd_cmd_host.specs.declared.loading.Loaded.{Loaded}
use Rattle.vd_cmd_host.specs.declared.marking.Claimed.{Claimed}

-- the same net, where no wait for another host is longer than the words allow
abbrev pub within : HostWords → NetView → NetView
within words net = record net { limit = words.limit }

-- A host whose files were read is run over the net, whose waits are as long as the words allow, and how it ends is how the command does.
-- Where there is no memory to make it ready, nothing was asked and nothing written.
pub data RunsLoaded (words : HostWords) (loaded : Loaded) (net net_now : NetView) (out out_now : SinkView) : Result (Unit {0}) Status → Type 0 where
  NotReady : net_now ≡ net → out_now ≡ out → RunsLoaded words loaded net net_now out out_now (Err status.Memory)
  RanWell : (ready : Ready) (done : Ended) → Starts loaded.program loaded.inputs loaded.dealt.deal words.addresses ready → CanPlay ready
      → Plays ready.machine ready.task (within words net) net_now out out_now (Ok done) → RunsLoaded words loaded net net_now out out_now (Ok tt)
  RanWrong : (ready : Ready) (fault : HostFault) → Starts loaded.program loaded.inputs loaded.dealt.deal words.addresses ready → CanPlay ready
      → Plays ready.machine ready.task (within words net) net_now out out_now (Err fault) → RunsLoaded words loaded net net_now out out_now (Err (status_of loaded.program.hosts fault))

-- With a deal of version 1: the files are loaded and the host is run; or they are not, and nothing was asked of the net and nothing written.
pub data PlainRuns (words : HostWords) (files files_now : FilesView) (net net_now : NetView) (out out_now : SinkView) : Status → Type 0 where
  NotLoaded : (refusal : Status) → LoadsHost words files files_now (Err refusal) → net_now ≡ net → out_now ≡ out → PlainRuns words files files_now net net_now out out_now refusal
  WentWell : (loaded : Loaded) → LoadsHost words files files_now (Ok loaded) → IsLoaded words loaded → loaded.dealt.secrets ≡ None → RunsLoaded words loaded net net_now out out_now (Ok tt)
      → PlainRuns words files files_now net net_now out out_now status.Ended
  WentWrong : (loaded : Loaded) (refusal : Status) → LoadsHost words files files_now (Ok loaded) → IsLoaded words loaded → loaded.dealt.secrets ≡ None
      → RunsLoaded words loaded net net_now out out_now (Err refusal) → PlainRuns words files files_now net net_now out out_now refusal

-- A net, and the same as one that seals its links; and whether more than greetings may have gone out: a link that was given is out, or one came back over
-- which something went out behind the greeting.
pub record NetsView : Type 0 where
  pub plain : NetView
  pub sealed : NetView
  pub sent : Bool

-- by what a run of this program's host seals its links, with what its deal tells and the bytes that were drawn for the run
abbrev pub sealer_for : HostProgram → Secrets → (seed : List ℕ) → Sealer
sealer_for program secrets seed = record { me = program.me; secrets = secrets; seed = seed }

-- A host with a deal of version 2 takes its mark and is run over sealed links: what goes out over those of the net below is sealed by
-- what the deal tells and by the bytes that were drawn. Then the mark is taken back where nothing went out that the deal masks.
pub record RunsMarked (words : HostWords) (loaded : Loaded) (secrets : Secrets) (marks marks_now : MarksView) (nets nets_now : NetsView) (out out_now : SinkView)
    (result : Result (Unit {0}) Status) : Type 0 where
  pub claimed : Claimed
  pub between : MarksView
  pub claims : Claims words secrets.id loaded.program marks between (Ok claimed)
  pub runs : RunsLoaded words loaded nets.sealed nets_now.sealed out out_now result
  pub seals : ∥ SealsLinks (sealer_for loaded.program secrets claimed.seed) nets.plain nets_now.plain ∥₁
  pub leaves : Leaves words claimed.name nets_now.sent between marks_now

-- The deal is of version 2, and a net seals by the number of its host, by what it tells of its dealing, and by the bytes that were drawn for this run.
abbrev pub IsSealedFor : Loaded → (seed : List ℕ) → Option Seal → Type 0
IsSealedFor loaded seed seal = MatchOption loaded.dealt.secrets ⊥ (λ secrets. seal ≡ Some (sealed_by loaded.program.me secrets seed))

-- how a run ends is the status
abbrev pub status_after : Result (Unit {0}) Status → Status
status_after (Ok done) = status.Ended
status_after (Err refusal) = refusal

-- Its mark is taken and it is run; or the mark cannot be taken, and nothing was asked of the net and nothing written.
pub data EndsMarked (words : HostWords) (loaded : Loaded) (secrets : Secrets) (marks marks_now : MarksView) (nets nets_now : NetsView) (out out_now : SinkView) : Status → Type 0 where
  NotMarked : (refusal : Status) → Claims words secrets.id loaded.program marks marks_now (Err refusal) → nets_now ≡ nets → out_now ≡ out
      → EndsMarked words loaded secrets marks marks_now nets nets_now out out_now refusal
  RanMarked : (result : Result (Unit {0}) Status) → RunsMarked words loaded secrets marks marks_now nets nets_now out out_now result
      → EndsMarked words loaded secrets marks marks_now nets nets_now out out_now (status_after result)

-- With a deal of version 1 no mark is asked for, and the net is used as it is. With one of version 2 its mark is taken first, and the links are sealed.
pub data HostRuns (words : HostWords) (files files_now : FilesView) (marks marks_now : MarksView) (nets nets_now : NetsView) (out out_now : SinkView) : Status → Type 0 where
  Plainly : (end : Status) → PlainRuns words files files_now nets.plain nets_now.plain out out_now end → marks_now ≡ marks → nets_now.sent ≡ nets.sent
      → HostRuns words files files_now marks marks_now nets nets_now out out_now end
  Marked : (loaded : Loaded) (secrets : Secrets) (end : Status) → LoadsHost words files files_now (Ok loaded) → IsLoaded words loaded → loaded.dealt.secrets ≡ Some secrets
      → EndsMarked words loaded secrets marks marks_now nets nets_now out out_now end → HostRuns words files files_now marks marks_now nets nets_now out out_now end

-- a net, the same as one that seals, and what is known of whether something was sent
abbrev pub nets_of : NetView → Ledger → (faults : ℕ) → NetsView
nets_of net ledger faults = record { plain = net; sealed = sealing net faults; sent = has_sent ledger }
