-- The host of a name, and that there are two.
use Rattle.std.proofs.Common.{◌≡◌, ◌<◌, ℕ, true, List, length, Result, Ok, Err, sym, subst}
use Rattle.vd_outside.specs.Files.{FilesView}
use Rattle.vd_base.specs.declared.ids.HostId.{HostId}
use Rattle.vd_core.specs.declared.normal.NormalForm.{NormalForm}
use Rattle.vd_cmd.specs.declared.command.ExcuseWords.{ExcuseWords}
use Rattle.vd_search_stages.specs.Choices.{ChoiceOutcomes}
use Rattle.vd_cmd_plan.specs.Plans.{Checks, Executes, check_then}
use Rattle.vd_cmd_plan.specs.declared.answer.Answer.{Answer}
use Rattle.vd_cmd_plan.specs.declared.status.Status.{Status}
use Rattle.vd_cmd_plan.proofs.Front.{check_step}
use Rattle.vd_cmd_labels.specs.Outcomes.{LabelOutcomes}
use Rattle.vd_cmd_choice.specs.Searching.{Search}
use Rattle.vd_cmd_files.specs.Outcomes.{ReplayOutcomes}
use Rattle.vd_cmd_depends.specs.Depending.{as_host}
use Rattle.vd_cmd_depends.proofs.Front.{named, within}
use Rattle.vd_cmd_excuse.specs.declared.runs.Runs.{Runs}
use Rattle.vd_cmd_excuse.specs.Excusing.{as_two, host_plan, runs_plan}

module _ (outcomes : ReplayOutcomes) (least : LabelOutcomes) (choices : ChoiceOutcomes) (search : Search) (words : ExcuseWords) (p : NormalForm) (runs : Runs) (files : FilesView) where
  pub unnamed : (status : Status) → Checks {T = HostId} (as_host p.hosts words.host) (Err status) → Executes true (runs_plan outcomes least choices search words p runs) files files (Err status)
  unnamed status checks =
      check_step (as_host p.hosts words.host) files (Err status) checks (λ h. check_then (as_two p.hosts) (λ two. host_plan outcomes least choices search words p h runs))

  module _ (h : HostId) (checks : Checks (as_host p.hosts words.host) (Ok h)) where
    pub not_two : (status : Status) → Checks {T = Unit {0}} (as_two p.hosts) (Err status) → Executes true (runs_plan outcomes least choices search words p runs) files files (Err status)
    not_two status two =
        check_step (as_host p.hosts words.host) files (Ok h) checks (λ h. check_then (as_two p.hosts) (λ two. host_plan outcomes least choices search words p h runs)) files (Err status)
        (check_step (as_two p.hosts) files (Err status) two (λ two. host_plan outcomes least choices search words p h runs))

    pub of_two_hosts : (result : Result Answer Status) → Checks (as_two p.hosts) (Ok tt) → Executes true (host_plan outcomes least choices search words p h runs) files files result
        → Executes true (runs_plan outcomes least choices search words p runs) files files result
    of_two_hosts result two then =
        check_step (as_host p.hosts words.host) files (Ok h) checks (λ h. check_then (as_two p.hosts) (λ two. host_plan outcomes least choices search words p h runs)) files result
        (check_step (as_two p.hosts) files (Ok tt) two (λ two. host_plan outcomes least choices search words p h runs) files result then)

-- a host that was found is one of two
pub is_low : (names : List (List ℕ)) (name : List ℕ) (h : HostId) → as_host names name ≡ Ok h → length names ≡ 2 → h.0 < 2
is_low names name h found two = subst (λ (n : ℕ). h.0 < n) two (within names name h.0 (sym (named names name h found)))
