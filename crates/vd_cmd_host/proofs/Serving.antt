-- A host that is served ends well.
use Rattle.std.proofs.Common.{◌≡◌, ◌≤◌, ◌⊎◌, inl, inr, IsTrue, length, Some, None, Result, Ok, Err, IfErr, refl, sym, ap, subst, ◌∙◌}
use Rattle.vd_execution.specs.Step.{State}
use Rattle.vd_execution.specs.Text.{IsCodeOf}
use Rattle.vd_machine.specs.Kept.{at_start, state_of}
use Rattle.vd_machine.specs.declared.lists.Lists.{Lists}
use Rattle.vd_outside.specs.Files.{FilesView}
use Rattle.vd_outside.specs.Net.{NetView}
use Rattle.vd_outside.specs.Sink.{SinkView}
use Rattle.vd_cmd.specs.declared.command.HostWords.{HostWords}
use Rattle.vd_channel_crypto.specs.declared.deal_keys.secrets.Secrets.{Secrets}
use Rattle.vd_engine.specs.Enough.{IsEnough}
use Rattle.vd_host_session.specs.declared.fault.HostFault.TheVariants as fault
use Rattle.vd_host_session.specs.declared.task.Task.{Task}
use Rattle.vd_host_session.specs.Starts.{Starts}
use Rattle.vd_host_session.specs.declared.host_start.starting.Ready.{Ready}
use Rattle.vd_cmd_plan.specs.declared.status.Status.{Status}
use Rattle.vd_cmd_plan.specs.declared.status.Status.TheVariants as status
use Rattle.vd_cmd_host.specs.Hosts.{PlainRuns, NotLoaded, NotReady, RanWell, RanWrong, RunsLoaded, WentWell, WentWrong, within}
use Rattle.vd_cmd_host.specs.Laws.{task_of}
use Rattle.vd_cmd_host.specs.Loading.{LoadsHost}
use Rattle.vd_cmd_host.specs.Statuses.{status_of}
use Rattle.vd_cmd_host.specs.declared.loading.Loaded.{Loaded}
use Rattle.vd_engine.specs.Drives.{Sessions}
use Rattle.vd_cmd_host.specs.Serving.{AllServe, IsQuiet, IsServed, ServedHostsEndWell, lists_of}
use Rattle.vd_cmd_host.proofs.Ending.{IsServedAt, served_plays}
use Rattle.vd_cmd_host.proofs.CmdHostLawsFiles.{not_refused, plan_length, same_loaded}

-- a limit on waits changes nothing of what is served
same_served : (words : HostWords) (task : Task) (net : NetView) (sessions : Sessions) → AllServe task net sessions → AllServe task (within words net) sessions
same_served words task net sessions serve place there =
    let serves = serve place there in
    record { link = serves.link; waits = serves.waits; session = serves.session; stands = serves.stands; comes = serves.comes }

module _ (words : HostWords) (files files_now : FilesView) (net net_now : NetView) (out out_now : SinkView) (net_told : IsTrue net.told) (room : length net.back ≤ net.links)
    (quiet : IsQuiet files files_now net net_now out out_now) (is : IsServed words files.contents net) where
  -- the host that was made ready is the one that is served
  served_at : (loaded : Loaded) (ready : Ready) → loaded ≡ is.loaded → Starts loaded.program loaded.inputs loaded.dealt.deal words.addresses ready → IsServedAt ready.task ready.machine (within words net)
  served_at loaded ready same starts =
      let its_task : ready.task ≡ task_of loaded.program words.addresses = λ j. record { me = starts.me j; plan = starts.plan j; addresses = starts.addresses_are j } in
      let its_lists : ready.machine.lists ≡ lists_of loaded = λ j. record { inputs = starts.inputs_are j; deal = starts.deal_is j } in
      let task : task_of is.loaded.program words.addresses ≡ ready.task = ap (λ (l : Loaded). task_of l.program words.addresses) (sym same) ∙ sym its_task in
      let lists : lists_of is.loaded ≡ ready.machine.lists = ap lists_of (sym same) ∙ sym its_lists in
      let state : at_start is.code ≡ state_of ready.machine = sym (starts.state is.code (subst (λ (l : Loaded). IsCodeOf l.program.code is.code) (sym same) is.is_code)) in
      record {
        plan = subst (λ (t : Task). length t.plan ≡ 32) task (plan_length is.held.program.bytes is.loaded.program is.held.program.holds);
        listeners = is.listeners;
        sessions = is.sessions;
        peers = same_served words ready.task net is.sessions (subst (λ (t : Task). AllServe t net is.sessions) task is.peers);
        enough = subst (λ (s : State). IsEnough ready.machine.lists s is.sessions) state (subst (λ (l : Lists). IsEnough l (at_start is.code) is.sessions) lists is.enough);
      }

  ran : (loaded : Loaded) → loaded ≡ is.loaded → {result : Result (Unit {0}) Status} → RunsLoaded words loaded net net_now out out_now result → IfErr result (λ end. end ≡ status.Memory)
  ran loaded same (NotReady same_net same_out) = refl
  ran loaded same (RanWell ready done starts can plays) = tt
  ran loaded same (RanWrong ready cause starts can plays) =
      let memory : cause ≡ fault.Memory = served_plays ready.task ready.machine (within words net) net_now out out_now (Err cause) can.few can.own net_told room (served_at loaded ready same starts)
      quiet.no_peer quiet.no_write quiet.all_tell plays in
      ap (status_of loaded.program.hosts) memory

pub served : ServedHostsEndWell
served words files files_now net net_now out out_now end runs files_told net_told room quiet is = by runs
  where
    by : {end : Status} → PlainRuns words files files_now net net_now out out_now end → (end ≡ status.Ended) ⊎ (end ≡ status.Memory)
    by (NotLoaded refusal loads same_net same_out) =
        inr (not_refused words files.contents is.loaded refusal is.held (λ file e. quiet.no_file (loads.fault file (ap (λ (s : Status). Err s) e))) (loads.cause files_told))
    by (WentWell loaded loads loaded_is plain ran_well) = inl refl
    by (WentWrong loaded refusal loads loaded_is plain ran_wrong) =
        inr (ran words files files_now net net_now out out_now net_told room quiet is loaded (same_loaded words files.contents loaded is.loaded (loads.given files_told) is.held) ran_wrong)

-- a host that is served has a deal of version 1
pub plain_served : (words : HostWords) (files files_now : FilesView) (net : NetView) (loaded : Loaded) (secrets : Secrets) → IsTrue files.told → IsServed words files.contents net
    → LoadsHost words files files_now (Ok loaded) → loaded.dealt.secrets ≡ Some secrets → ⊥
plain_served words files files_now net loaded secrets told is loads dealt =
    let same = same_loaded words files.contents loaded is.loaded (loads.given told) is.held in
    let both : Some secrets ≡ None = sym dealt ∙ ap (λ (l : Loaded). l.dealt.secrets) same ∙ is.plain in
    cc
