-- No deal serves twice, and one that is refused stays marked.
use Rattle.std.proofs.Common.{◌≡◌, ◌∙◌, ℕ, List, IsTrue, Some, None, Result, Ok, Err, refl, sym, ap, subst}
use Rattle.vd_outside.specs.Files.{FilesView}
use Rattle.vd_outside.specs.Net.{NetView}
use Rattle.vd_outside.specs.Sink.{SinkView}
use Rattle.vd_outside.specs.Marks.{MarksView}
use Rattle.vd_channel_crypto.specs.declared.deal_keys.secrets.Secrets.{Secrets}
use Rattle.vd_cmd.specs.declared.command.HostWords.{HostWords}
use Rattle.vd_host_session.specs.declared.fault.HostFault.{HostFault}
use Rattle.vd_host_session.specs.declared.fault.HostFault.TheVariants as fault
use Rattle.vd_cmd_plan.specs.declared.status.Status.{Status}
use Rattle.vd_cmd_plan.specs.declared.status.Status.TheVariants as status
use Rattle.vd_cmd_host.specs.Hosts.{EndsMarked, HostRuns, Marked, NetsView, NotLoaded, NotMarked, NotReady, PlainRuns, Plainly, RanMarked, RanWell, RanWrong, RunsLoaded, WentWell, WentWrong, status_after}
use Rattle.vd_cmd_host.specs.Loading.{EndsLoading}
use Rattle.vd_cmd_host.specs.Marking.{KeepsMarks, mark_of, mark_text}
use Rattle.vd_cmd_host.specs.Once.{IsMarked, NoDealServesTwice, UsedDealsStayMarked}
use Rattle.vd_cmd_host.specs.Statuses.{status_of}
use Rattle.vd_cmd_host.specs.declared.loading.Loaded.{Loaded}
use Rattle.vd_cmd_host.proofs.Apart.{stand_by_deals}

pub serves_once : NoDealServesTwice
serves_once words again files files_now later later_now marks marks_now marks_later marks_last first second folders ids hosts stands =
    let place = mark_of words first.secrets.id first.loaded.program in
    let other = mark_of again second.secrets.id second.loaded.program in
    let one : place ≡ other = ap (λ (id : List ℕ). mark_of words id first.loaded.program) ids
    ∙ stand_by_deals words again second.secrets.id first.loaded.program second.loaded.program folders hosts in
    let both : Some (mark_text first.secrets.id first.loaded.program) ≡ None = sym first.marked ∙ sym stands ∙ ap (λ (at : List ℕ). marks_later.taken at) one ∙ second.fresh in
    absurd cc

-- no host that runs ends so
never_used : (names : List (List ℕ)) (cause : HostFault) (name : List ℕ) → status_of names cause ≡ status.DealUsed name → ⊥
never_used names fault.Memory name e = cc e
never_used names fault.Write name e = cc e
never_used names (fault.Peer peer) name e = cc e
never_used names (fault.BadFrame offset byte) name e = cc e
never_used names (fault.Unequal left right) name e = cc e
never_used names (fault.WrongProgram peer ours theirs) name e = cc e
never_used names (fault.WrongHost wanted named) name e = cc e
never_used names (fault.ShortInput cursor count) name e = cc e
never_used names (fault.ShortDeal kind cursor count) name e = cc e
never_used names (fault.EndOfLink peer) name e = cc e

loaded_unused : (words : HostWords) (loaded : Loaded) (net net_now : NetView) (out out_now : SinkView) (name : List ℕ) {result : Result (Unit {0}) Status}
    → RunsLoaded words loaded net net_now out out_now result → status_after result ≡ status.DealUsed name → ⊥
loaded_unused words loaded net net_now out out_now name (NotReady same_net same_out) e = cc e
loaded_unused words loaded net net_now out out_now name (RanWell ready done starts can plays) e = cc e
loaded_unused words loaded net net_now out out_now name (RanWrong ready cause starts can plays) e = never_used loaded.program.hosts cause name e

plain_unused : (words : HostWords) (files files_now : FilesView) (net net_now : NetView) (out out_now : SinkView) (name : List ℕ) {end : Status}
    → PlainRuns words files files_now net net_now out out_now end → end ≡ status.DealUsed name → ⊥
plain_unused words files files_now net net_now out out_now name (NotLoaded refusal loads same_net same_out) e = subst EndsLoading e loads.ends
plain_unused words files files_now net net_now out out_now name (WentWell loaded loads is plain ran) e = cc e
plain_unused words files files_now net net_now out out_now name (WentWrong loaded refusal loads is plain ran) e = loaded_unused words loaded net net_now out out_now name ran e

module _ (words : HostWords) (files files_now : FilesView) (marks marks_now : MarksView) (nets nets_now : NetsView) (out out_now : SinkView) (name : List ℕ) (told : IsTrue marks.told) where
  ends_used : (loaded : Loaded) (secrets : Secrets) {end : Status} → EndsMarked words loaded secrets marks marks_now nets nets_now out out_now end → end ≡ status.DealUsed name
      → (marks_now.taken ≡ marks.taken) × (nets_now ≡ nets)
  ends_used loaded secrets (NotMarked refusal claims same_nets same_out) e =
      (subst (KeepsMarks (mark_of words secrets.id loaded.program) marks.taken marks_now.taken) e (claims.kept told), same_nets)
  ends_used loaded secrets (RanMarked result ran) e = absurd (loaded_unused words loaded nets.sealed nets_now.sealed out out_now name ran.runs e)

  runs_used : {end : Status} → HostRuns words files files_now marks marks_now nets nets_now out out_now end → end ≡ status.DealUsed name → (marks_now.taken ≡ marks.taken) × (nets_now ≡ nets)
  runs_used (Plainly end plain same_marks same_sent) e = absurd (plain_unused words files files_now nets.plain nets_now.plain out out_now name plain e)
  runs_used (Marked loaded secrets end loads is dealt ends) e = ends_used loaded secrets ends e

pub stay_marked : UsedDealsStayMarked
stay_marked words files files_now marks marks_now nets nets_now out out_now name runs told = runs_used words files files_now marks marks_now nets nets_now out out_now name told runs refl
