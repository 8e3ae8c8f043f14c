-- A deal of version 2 is used once.
use Rattle.std.proofs.Common.{◌≡◌, ◌∙◌, ℕ, List, Bool, true, false, IsTrue, Some, None, Result, Ok, Err, sym, ap}
use Rattle.vd_outside.specs.Files.{FilesView}
use Rattle.vd_outside.specs.Sink.{SinkView}
use Rattle.vd_outside.specs.Marks.{MarksView}
use Rattle.vd_channel_crypto.specs.declared.deal_keys.secrets.Secrets.{Secrets}
use Rattle.vd_cmd.specs.declared.command.HostWords.{HostWords}
use Rattle.vd_cmd_plan.specs.declared.status.Status.{Status}
use Rattle.vd_cmd_host.specs.Hosts.{EndsMarked, HostRuns, Marked, NetsView, NotMarked, Plainly, RanMarked, RunsMarked}
use Rattle.vd_cmd_host.specs.Loading.{LoadsHost}
use Rattle.vd_cmd_host.specs.Marking.{Leaves, mark_of, mark_text}
use Rattle.vd_cmd_host.specs.Once.{DealsAreUsedOnce, IsMarked}
use Rattle.vd_cmd_host.specs.declared.loading.Loaded.{Loaded}

-- after something was sent the mark is what it was
stays : (words : HostWords) (name : List ℕ) (sent : Bool) (before now : MarksView) → sent ≡ true → Leaves words name sent before now → now ≡ before
stays words name true before now e leaves = leaves
stays words name false before now e leaves = absurd cc

module _ (words : HostWords) (files files_now : FilesView) (marks marks_now : MarksView) (nets nets_now : NetsView) (out out_now : SinkView) (told : IsTrue marks.told) (sent : nets_now.sent ≡ true) where
  marked_by : (loaded : Loaded) (secrets : Secrets) (result : Result (Unit {0}) Status) → LoadsHost words files files_now (Ok loaded) → loaded.dealt.secrets ≡ Some secrets
      → RunsMarked words loaded secrets marks marks_now nets nets_now out out_now result → IsMarked words files files_now marks marks_now
  marked_by loaded secrets result loads dealt ran =
      let same = stays words ran.claimed.name nets_now.sent ran.between marks_now sent ran.leaves in
      record {
        loaded = loaded;
        secrets = secrets;
        loads = loads;
        dealt = dealt;
        fresh = ran.claims.fresh told;
        marked = ap (λ (m : MarksView). m.taken (mark_of words secrets.id loaded.program)) same ∙ ran.claims.marked told;
      }

  ends_marked : (loaded : Loaded) (secrets : Secrets) (end : Status) → nets.sent ≡ false → LoadsHost words files files_now (Ok loaded) → loaded.dealt.secrets ≡ Some secrets
      → EndsMarked words loaded secrets marks marks_now nets nets_now out out_now end → IsMarked words files files_now marks marks_now
  ends_marked loaded secrets end fresh loads dealt ends = by ends
    where
      by : {end : Status} → EndsMarked words loaded secrets marks marks_now nets nets_now out out_now end → IsMarked words files files_now marks marks_now
      by (NotMarked refusal claims same_nets same_out) = let both : true ≡ false = sym sent ∙ ap (λ (n : NetsView). n.sent) same_nets ∙ fresh in absurd cc
      by (RanMarked result ran) = marked_by loaded secrets result loads dealt ran

pub used_once : DealsAreUsedOnce
used_once words files files_now marks marks_now nets nets_now out out_now end runs told fresh sent = by runs
  where
    by : {end : Status} → HostRuns words files files_now marks marks_now nets nets_now out out_now end → IsMarked words files files_now marks marks_now
    by (Plainly end plain same_marks same_sent) = let both : true ≡ false = sym sent ∙ same_sent ∙ fresh in absurd cc
    by (Marked loaded secrets end loads is dealt ends) = ends_marked words files files_now marks marks_now nets nets_now out out_now told sent loaded secrets end fresh loads dealt ends
