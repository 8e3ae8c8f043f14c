-- Code in an order that waits less runs as well, and to hosts that have printed the same.
use Rattle.std.proofs.Common.{◌≡◌, ℕ, List, Result, sym, ap, ◌∙◌, subst}
use Rattle.vd_outside.specs.Sink.{SinkView}
use Rattle.vd_execution.specs.Code.{Code, Finished}
use Rattle.vd_execution.specs.Joint.{Joint, IsTidy, code_of}
use Rattle.vd_execution.specs.World.{Supply}
use Rattle.vd_execution.specs.Claims.{RunsWell, last_of}
use Rattle.vd_reorder.specs.Hastening.{AreHastened, IsHastened}
use Rattle.vd_reorder.specs.Passing.{hastened_code}
use Rattle.vd_reorder.specs.Turning.{Look, AreAlike}
use Rattle.vd_choreography_reorder.specs.Order.{RunsOn}
use Rattle.vd_machine.specs.declared.lists.Lists.{Lists}
use Rattle.vd_engine.specs.Drives.{Sessions, lines}
use Rattle.vd_engine.specs.declared.engine.Ended.{Ended}
use Rattle.vd_engine.specs.declared.fault.EngineFault.{EngineFault}
use Rattle.vd_distributed.proofs.Told.{waiting_ended}
use Rattle.vd_distributed.proofs.Joined.{linked_hosts_tell_the_same}
use Rattle.vd_distributed.specs.Linked.{AreHosts, TakesUpTo, TellTheSame}
use Rattle.vd_projection.specs.Early.{IsEarly, IsOfHosts, opened_of}
use Rattle.vd_projection.proofs.Front.{careful_texts, early_of_hosts, runs_alike}
use Rattle.vd_distributed.specs.Driven.{HaveEarlyCodes, AreEarlyHosts, EarlyHostsTellTheSame, EarlyHostsHaveEnded}

-- hosts that are told what alike hosts are told
told_alike : (s : Supply) (j k : Joint) (out_before out_now : ℕ → SinkView) (result : ℕ → Result Ended EngineFault) → AreAlike (last_of s j) (last_of s k)
    → TellTheSame s k out_before out_now result → TellTheSame s j out_before out_now result
told_alike s j k out_before out_now result alike tell = record {
  written = λ h told.
      subst (λ (words : List ℕ). TakesUpTo (out_before h) (out_now h) (lines words) (result h)) (sym (ap (λ (l : Look). l.1.1) (alike h))) (tell.written h told);
  blames = tell.blames;
}

-- what is stored is hastened
stored_hastened : (n : ℕ) (j k : Joint) (codes : ℕ → Code) → IsTidy j → IsEarly j k → IsOfHosts n j → HaveEarlyCodes j k codes → AreHastened n k codes
stored_hastened n j k codes tidy early few are = record {
  each = λ h. subst (IsHastened (code_of h k)) (sym (are h)) (careful_texts (opened_of j) k h).careful.hastened;
  others = λ h le.
      let none : code_of h k ≡ Finished = early_of_hosts n j k tidy early few h le in
      none ∙ sym (ap (hastened_code (opened_of j h)) none) ∙ sym (are h);
}

pub early_tell : EarlyHostsTellTheSame
early_tell s j n codes lists before now out_before out_now result hosts linked =
    let on = (runs_alike j hosts.joint hosts.well.tidy hosts.early).runs s in
    told_alike s j hosts.joint out_before out_now result (on.alike hosts.well)
    (linked_hosts_tell_the_same s hosts.joint n codes lists before now out_before out_now result
    (record { well = on.well hosts.well; deal = hosts.deal; hastened = stored_hastened n j hosts.joint codes hosts.well.tidy hosts.early hosts.few hosts.codes_are; numbers = hosts.numbers }) linked)

pub early_ended : EarlyHostsHaveEnded
early_ended s j k n codes lists events state runs early few are driven waits =
    let ends = ((runs_alike j k runs.well.tidy early).runs s).ends runs in
    waiting_ended s k n codes lists events state ends.well ends.enough (stored_hastened n j k codes runs.well.tidy early few are) driven waits
