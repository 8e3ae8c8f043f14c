-- From what becomes of a host to what becomes of the command.
use Rattle.std.proofs.Common.{arith, ◌≡◌, ◌≤◌, ◌++◌, ◌⊎◌, ⊎_elim, inl, inr, ℕ, IsTrue, List, [], length, Result, Ok, Err, refl, sym, ap, subst, ◌∙◌}
use Rattle.std.specs.Prelude.{OnOk, IfErr}
use Rattle.std.proofs.lemmas.List.{append-nil}
use Rattle.vd_outside.specs.Files.{FilesView}
use Rattle.vd_outside.specs.Net.{NetView}
use Rattle.vd_outside.specs.Sink.{SinkView}
use Rattle.vd_cmd.specs.declared.command.HostWords.{HostWords}
use Rattle.vd_hostcode.specs.declared.host_text.program.HostProgram.{HostProgram}
use Rattle.vd_host_session.specs.Laws.{AsksFrontOf, ComesBack, HasCause, calls_of}
use Rattle.vd_host_session.specs.declared.fault.HostFault.{HostFault}
use Rattle.vd_host_session.specs.declared.fault.HostFault.TheVariants as fault
use Rattle.vd_host_session.specs.declared.task.Task.{Task}
use Rattle.vd_host_session.proofs.Front.{in_order, causes, limit_stays, links_come_back}
use Rattle.vd_host_session.specs.Starts.{Starts}
use Rattle.vd_host_session.specs.declared.host_start.starting.Ready.{Ready}
use Rattle.vd_cmd_plan.specs.declared.status.Status.{Status}
use Rattle.vd_cmd_plan.specs.declared.status.HostStatus.TheVariants as host_status
use Rattle.vd_cmd_plan.specs.declared.status.Status.TheVariants as status
use Rattle.vd_cmd_host.specs.Hosts.{PlainRuns, NotLoaded, NotReady, RanWell, RanWrong, RunsLoaded, WentWell, WentWrong, within}
use Rattle.vd_cmd_host.specs.Laws.{AsksFor, HostsAskInOrder, LinksComeBack, StatusesHaveCauses, WaitsAreLimited, calls_for, task_of}
use Rattle.vd_cmd_host.specs.Laws as laws
use Rattle.vd_cmd_host.specs.Loading.{LoadsHost}
use Rattle.vd_cmd_host.specs.Statuses.{status_of}
use Rattle.vd_cmd_host.specs.declared.loading.Loaded.{Loaded}

-- the task of a host that is ready is that of the program
same_task : (program : HostProgram) (words : HostWords) (inputs : List ℕ) (loaded : Loaded) (ready : Ready) → Starts loaded.program loaded.inputs loaded.dealt.deal words.addresses ready → ready.task ≡ task_of loaded.program words.addresses
same_task program words inputs loaded ready starts = λ j. record { me = starts.me j; plan = starts.plan j; addresses = starts.addresses_are j }

-- the cause of a fault is that of its status
module _ (files files_now : FilesView) (net net_now : NetView) (out out_now : SinkView) where
  cause_of : (names : List (List ℕ)) (cause : HostFault) → HasCause net net_now out out_now (Err cause) → laws.HasCause files files_now net net_now out out_now (status_of names cause)
  cause_of names fault.Memory has = tt
  cause_of names fault.Write has = has
  cause_of names (fault.Peer peer) has = has
  cause_of names (fault.BadFrame offset byte) has = tt
  cause_of names (fault.Unequal left right) has = tt
  cause_of names (fault.WrongProgram peer ours theirs) has = tt
  cause_of names (fault.WrongHost wanted named) has = tt
  cause_of names (fault.ShortInput cursor count) has = tt
  cause_of names (fault.ShortDeal kind cursor count) has = tt
  cause_of names (fault.EndOfLink peer) has = tt

-- no fault is the end without one
never_ended : (names : List (List ℕ)) (cause : HostFault) → status_of names cause ≡ status.Ended → ⊥
never_ended names fault.Memory e = cc e
never_ended names fault.Write e = cc e
never_ended names (fault.Peer peer) e = cc e
never_ended names (fault.BadFrame offset byte) e = cc e
never_ended names (fault.Unequal left right) e = cc e
never_ended names (fault.WrongProgram peer ours theirs) e = cc e
never_ended names (fault.WrongHost wanted named) e = cc e
never_ended names (fault.ShortInput cursor count) e = cc e
never_ended names (fault.ShortDeal kind cursor count) e = cc e
never_ended names (fault.EndOfLink peer) e = cc e

-- ---- the calls of the net

abbrev Asks : HostWords → HostProgram → NetView → NetView → Result (Unit {0}) Status → Type 0
Asks words program net net_now result =
    AsksFrontOf (calls_for words program net) net net_now × OnOk result (net_now.asked ≡ net.asked ++ calls_for words program net) × IfErr result (λ refusal. refusal ≡ status.Ended → ⊥)

loaded_asks : (words : HostWords) (loaded : Loaded) (net net_now : NetView) (out out_now : SinkView) → IsTrue net.told → {result : Result (Unit {0}) Status}
    → RunsLoaded words loaded net net_now out out_now result → (net_now ≡ net) ⊎ Asks words loaded.program net net_now result
loaded_asks words loaded net net_now out out_now told (NotReady same_net same_out) = inl same_net
loaded_asks words loaded net net_now out out_now told (RanWell ready done starts can plays) =
    let asked = in_order ready.machine ready.task (within words net) net_now out out_now (Ok done) plays told in
    let same = same_task loaded.program words loaded.inputs loaded ready starts in
    inr (subst (λ (t : Task). AsksFrontOf (calls_of t net.given) net net_now) same asked.0, subst (λ (t : Task). net_now.asked ≡ net.asked ++ calls_of t net.given) same asked.1, tt)
loaded_asks words loaded net net_now out out_now told (RanWrong ready cause starts can plays) =
    let asked = in_order ready.machine ready.task (within words net) net_now out out_now (Err cause) plays told in
    let same = same_task loaded.program words loaded.inputs loaded ready starts in
    inr (subst (λ (t : Task). AsksFrontOf (calls_of t net.given) net net_now) same asked.0, tt, never_ended loaded.program.hosts cause)

pub asks_in_order : HostsAskInOrder
asks_in_order words files files_now net net_now out out_now end runs told = by runs
  where
    by : {end : Status} → PlainRuns words files files_now net net_now out out_now end → (net_now ≡ net) ⊎ AsksFor words files files_now net net_now end
    by (NotLoaded refusal loads same_net same_out) = inl same_net
    by (WentWell loaded loads is plain ran) = ⊎_elim
        (λ (same : net_now ≡ net). inl same)
        (λ (asks : Asks words loaded.program net net_now (Ok tt)). inr (record { loaded = loaded; loads = loads; front = asks.0; whole = λ e. asks.1 }))
        (loaded_asks words loaded net net_now out out_now told ran)
    by (WentWrong loaded refusal loads is plain ran) = ⊎_elim
        (λ (same : net_now ≡ net). inl same)
        (λ (asks : Asks words loaded.program net net_now (Err refusal)). inr (record { loaded = loaded; loads = loads; front = asks.0; whole = λ e. absurd (asks.2 e) }))
        (loaded_asks words loaded net net_now out out_now told ran)

-- ---- causes

loading_cause : (words : HostWords) (files files_now : FilesView) (net net_now : NetView) (out out_now : SinkView) (refusal : Status) → LoadsHost words files files_now (Err refusal)
    → laws.HasCause files files_now net net_now out out_now refusal
loading_cause words files files_now net net_now out out_now (status.ReadFault name) loads = loads.fault name refl
loading_cause words files files_now net net_now out out_now status.WriteFault loads = absurd loads.ends
loading_cause words files files_now net net_now out out_now (status.Host (host_status.PeerFault name)) loads = absurd loads.ends
loading_cause words files files_now net net_now out out_now other loads = tt

loaded_cause : (words : HostWords) (loaded : Loaded) (files files_now : FilesView) (net net_now : NetView) (out out_now : SinkView) {result : Result (Unit {0}) Status}
    → RunsLoaded words loaded net net_now out out_now result → IfErr result (laws.HasCause files files_now net net_now out out_now)
loaded_cause words loaded files files_now net net_now out out_now (NotReady same_net same_out) = tt
loaded_cause words loaded files files_now net net_now out out_now (RanWell ready done starts can plays) = tt
loaded_cause words loaded files files_now net net_now out out_now (RanWrong ready cause starts can plays) =
    cause_of files files_now net net_now out out_now loaded.program.hosts cause (causes ready.machine ready.task (within words net) net_now out out_now (Err cause) can.few can.own plays)

pub have_causes : StatusesHaveCauses
have_causes words files files_now net net_now out out_now end runs = by runs
  where
    by : {end : Status} → PlainRuns words files files_now net net_now out out_now end → laws.HasCause files files_now net net_now out out_now end
    by (NotLoaded refusal loads same_net same_out) = loading_cause words files files_now net net_now out out_now refusal loads
    by (WentWell loaded loads is plain ran) = tt
    by (WentWrong loaded refusal loads is plain ran) = loaded_cause words loaded files files_now net net_now out out_now ran

-- ---- links

nothing_given : (net net_now : NetView) → net_now ≡ net → ComesBack net net_now
nothing_given net net_now same = record { handed = []; back = ap (λ (n : NetView). n.back) same ∙ sym (append-nil net.back); counted = let links = ap (λ (n : NetView). n.links) same in omega (arith, links) }

-- a limit on waits changes nothing of the links
same_back : (words : HostWords) (net net_now : NetView) → ComesBack (within words net) net_now → ComesBack net net_now
same_back words net net_now comes = record { handed = comes.handed; back = comes.back; counted = comes.counted }

loaded_back : (words : HostWords) (loaded : Loaded) (net net_now : NetView) (out out_now : SinkView) → IsTrue net.told → length net.back ≤ net.links → {result : Result (Unit {0}) Status}
    → RunsLoaded words loaded net net_now out out_now result → ComesBack net net_now
loaded_back words loaded net net_now out out_now told room (NotReady same_net same_out) = nothing_given net net_now same_net
loaded_back words loaded net net_now out out_now told room (RanWell ready done starts can plays) =
    same_back words net net_now (links_come_back ready.machine ready.task (within words net) net_now out out_now (Ok done) can.few can.own plays told room)
loaded_back words loaded net net_now out out_now told room (RanWrong ready cause starts can plays) =
    same_back words net net_now (links_come_back ready.machine ready.task (within words net) net_now out out_now (Err cause) can.few can.own plays told room)

pub come_back : LinksComeBack
come_back words files files_now net net_now out out_now end runs told room = by runs
  where
    by : {end : Status} → PlainRuns words files files_now net net_now out out_now end → ComesBack net net_now
    by (NotLoaded refusal loads same_net same_out) = nothing_given net net_now same_net
    by (WentWell loaded loads is plain ran) = loaded_back words loaded net net_now out out_now told room ran
    by (WentWrong loaded refusal loads is plain ran) = loaded_back words loaded net net_now out out_now told room ran

-- ---- waits

pub stay_limited : WaitsAreLimited
stay_limited words loaded net net_now out out_now result runs = by runs
  where
    by : {result : Result (Unit {0}) Status} → RunsLoaded words loaded net net_now out out_now result → (net_now ≡ net) ⊎ (net_now.limit ≡ words.limit)
    by (NotReady same_net same_out) = inl same_net
    by (RanWell ready done starts can plays) = inr (limit_stays ready.machine ready.task (within words net) net_now out out_now (Ok done) plays)
    by (RanWrong ready cause starts can plays) = inr (limit_stays ready.machine ready.task (within words net) net_now out out_now (Err cause) plays)
