-- The hosts that are asked for, and what follows.
use Rattle.std.proofs.Common.{◌≡◌, ◌∙◌, ◌∷◌, ℕ, true, List, [], length, Option, None, Result, Ok, Err, sym, ap}
use Rattle.vd_base.specs.HostSets.{hosts}
use Rattle.vd_base.specs.declared.ids.HostId.{HostId}
use Rattle.vd_outside.specs.Files.{FilesView}
use Rattle.vd_cmd.specs.declared.command.RevealsWords.{RevealsWords}
use Rattle.vd_cmd_plan.specs.Plans.{Checks, Computes, Executes, IsRefusal, answer_then}
use Rattle.vd_cmd_plan.specs.declared.answer.Answer.{Answer}
use Rattle.vd_cmd_plan.specs.declared.status.Status.{Status}
use Rattle.vd_cmd_plan.specs.declared.status.Status.TheVariants.{Ended, Memory, Usage, ReadFault, WriteFault, NoAssignment, Host, ChildFault}
use Rattle.vd_cmd_plan.proofs.Front.{answers, check_step}
use Rattle.vd_cmd_choice.specs.Choice.{Chosen}
use Rattle.vd_cmd_draw.specs.Revealing.{alone, asked_hosts, asked_then, revealed_for}

-- the one of a name
pub one_asked : (wanted : Result HostId Status) (h : HostId) (list : List HostId) → Checks wanted (Ok h) → list ≡ h ∷ [] → Checks (alone wanted) (Ok list)
one_asked wanted h list checks listed = record { ok = ap alone checks.ok ∙ ap (λ (l : List HostId). Ok l) (sym listed); err = tt }

-- all
pub all_asked : (names : List (List ℕ)) (word : Option (List ℕ)) (list : List HostId) → word ≡ None → list ≡ hosts (length names) → Checks (asked_hosts names word) (Ok list)
all_asked names word list is listed = record { ok = ap (λ (w : Option (List ℕ)). asked_hosts names w) is ∙ ap (λ (l : List HostId). Ok l) (sym listed); err = tt }

-- a refusal of the one is one of the list
refused_alone : (wanted : Result HostId Status) (status : Status) → IsRefusal wanted status → IsRefusal (alone wanted) status
refused_alone wanted Ended is = absurd is
refused_alone wanted (NoAssignment labelled) is = absurd is
refused_alone wanted Memory is = tt
refused_alone wanted Usage is = absurd is
refused_alone wanted (ReadFault name) is = absurd is
refused_alone wanted WriteFault is = absurd is
refused_alone wanted (Host cause) is = (is.0, ap alone is.1)
refused_alone wanted (ChildFault hosts fault) is = absurd is
refused_alone wanted status is = ap alone is

pub one_refused : (wanted : Result HostId Status) (status : Status) → Checks {T = HostId} wanted (Err status) → Checks {T = List HostId} (alone wanted) (Err status)
one_refused wanted status checks = record { ok = tt; err = refused_alone wanted status checks.err }

module _ (words : RevealsWords) (text : List ℕ) (c : Chosen) where
  abbrev after : List HostId → Answer
  after asked = revealed_for asked text c

  -- no host has the name, or no memory was left
  pub asked_refused : (status : Status) → Checks {T = List HostId} (asked_hosts c.program.hosts words.host) (Err status) → (files : FilesView) → Executes true (asked_then words.host text c) files files (Err status)
  asked_refused status checks files = check_step (asked_hosts c.program.hosts words.host) files (Err status) checks (λ asked. answer_then (after asked))

  pub asked_found : (asked : List HostId) (result : Result Answer Status) → Checks (asked_hosts c.program.hosts words.host) (Ok asked) → Computes (after asked) result → (files : FilesView) → Executes true (asked_then words.host text c) files files result
  asked_found asked result checks computes files =
      check_step (asked_hosts c.program.hosts words.host) files (Ok asked) checks (λ hs. answer_then (after hs)) files result (answers (after asked) files result computes)
