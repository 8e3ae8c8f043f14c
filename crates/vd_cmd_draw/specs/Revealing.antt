-- The command `reveals`.
use Rattle.std.specs.Prelude.{ℕ, true, Option, Some, None, List, [], ◌∷◌, length, Result, Ok, Err}
use Rattle.vd_base.specs.declared.ids.HostId.{HostId}
use Rattle.vd_base.specs.HostSets.{hosts}
use Rattle.vd_outside.specs.Files.{FilesView, Contents}
use Rattle.vd_core.specs.declared.normal.NormalForm.{NormalForm}
use Rattle.vd_search_stages.specs.Choices.{ChoiceOutcomes}
use Rattle.vd_search_stages.specs.declared.optimum.Assignment.{Assignment}
use Rattle.vd_cmd.specs.declared.command.RevealsWords.{RevealsWords}
use Rattle.vd_cmd_plan.specs.Labelled.{labelled_form}
use Rattle.vd_cmd_plan.specs.Plans.{Plan, Executes, answer_then, check_then, ended}
use Rattle.vd_cmd_plan.specs.declared.answer.Answer.{Answer}
use Rattle.vd_cmd_plan.specs.declared.status.Status.{Status}
use Rattle.vd_cmd_labels.specs.Outcomes.{TextOutcomes, LabelOutcomes}
use Rattle.vd_cmd_choice.specs.Searching.{Search, SomeSearch}
use Rattle.vd_cmd_choice.specs.Choice.{Chosen, assigned_answer, source_choice_then}
use Rattle.vd_cmd_depends.specs.Depending.{as_host}
use Rattle.vd_cmd_draw.specs.Reveals.{reveals_text}

-- the host alone
abbrev pub alone : Result HostId Status → Result (List HostId) Status
alone (Ok h) = Ok (h ∷ [])
alone (Err status) = Err status

-- the hosts that are asked for, of these names: the one of a name, or the status of its refusal; all, where no name is given
abbrev pub asked_hosts : List (List ℕ) → Option (List ℕ) → Result (List HostId) Status
asked_hosts names None = Ok (hosts (length names))
asked_hosts names (Some name) = alone (as_host names name)

-- ---- what it comes to

-- the lines of these hosts are printed, and nothing is stored
abbrev pub revealed_answer : (text : List ℕ) → NormalForm → List HostId → Assignment → Answer
revealed_answer text program asked a = ended [] (reveals_text text program a.protocols asked)

-- with what was found for the source with this text
abbrev pub revealed_for : List HostId → (text : List ℕ) → Chosen → Answer
revealed_for asked text c = assigned_answer (labelled_form c.program c.labels) (revealed_answer text c.program asked) c.assignment

-- the host is looked for first
abbrev pub asked_then : Option (List ℕ) → (text : List ℕ) → Chosen → Contents → Plan
asked_then host text c = check_then (asked_hosts c.program.hosts host) (λ asked. answer_then (revealed_for asked text c))

abbrev pub reveals_plan : TextOutcomes → LabelOutcomes → ChoiceOutcomes → Search → RevealsWords → Contents → Plan
reveals_plan texts least choices search words = source_choice_then texts least choices search words.source words.budget (asked_then words.host)

-- ---- what the command does, whatever functions pick outcomes

abbrev pub RevealsChoice : RevealsWords → (text : List ℕ) → Chosen → Result Answer Status → Type 0
RevealsChoice words text c result = (files : FilesView) → Executes true (asked_then words.host text c) files files result

abbrev pub ExecutesReveals : RevealsWords → FilesView → FilesView → Result Answer Status → Type 0
ExecutesReveals words before now result =
    SomeSearch (λ choices search. (texts : TextOutcomes) (least : LabelOutcomes) → Executes true (reveals_plan texts least choices search words) before now result)
