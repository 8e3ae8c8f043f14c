-- The command `excuse`.
use Rattle.std.specs.Prelude.{ℕ, ◌-◌, nat_eq, true, not, if◌then◌else◌, Option, Some, None, List, [], ◌++◌, length, map, Result, Ok, Err, codes, slice_index_or}
use Rattle.std.specs.List.{position}
use Rattle.vd_base.specs.declared.ids.HostId.{HostId}
use Rattle.vd_base.specs.declared.protocols.Proto.{Proto}
use Rattle.vd_outside.specs.Files.{FilesView, Contents}
use Rattle.vd_core.specs.declared.normal.NormalForm.{NormalForm}
use Rattle.vd_constraints.specs.declared.labels.Labels.{Labels}
use Rattle.vd_backend_laws.specs.Parts.{has_back_end}
use Rattle.vd_cmd.specs.declared.command.ExcuseWords.{ExcuseWords}
use Rattle.vd_tape.specs.declared.deal_items.deal.Deal.{Deal}
use Rattle.vd_report.specs.Lines.{words_line}
use Rattle.vd_search_stages.specs.Choices.{ChoiceOutcomes}
use Rattle.vd_search_stages.specs.declared.optimum.Assignment.{Assignment}
use Rattle.vd_cmd_plan.specs.Labelled.{labelled_form}
use Rattle.vd_cmd_plan.specs.Plans.{Plan, Executes, check_then, answer_then, ended}
use Rattle.vd_cmd_plan.specs.declared.answer.Answer.{Answer}
use Rattle.vd_cmd_plan.specs.declared.status.Status.{Status}
use Rattle.vd_cmd_plan.specs.declared.status.Status.TheVariants.{Memory, NotTwo, HasCommit, DealShort, ViewDiffers}
use Rattle.vd_channel_crypto.specs.declared.deal_keys.secrets.Secrets.{Secrets}
use Rattle.vd_deal_versions.specs.Text.{text_by}
use Rattle.vd_outside.specs.declared.stored.Stored.{Stored}
use Rattle.vd_cmd_plan.specs.Numbered.{numbered}
use Rattle.vd_cmd_labels.specs.Outcomes.{TextOutcomes, LabelOutcomes}
use Rattle.vd_cmd_choice.specs.Programs.{program_then}
use Rattle.vd_cmd_depends.specs.Depending.{as_host}
use Rattle.vd_cmd_choice.specs.Searching.{Search, SomeSearch}
use Rattle.vd_cmd_choice.specs.Choice.{Chosen, choice_of_then, no_list}
use Rattle.vd_cmd_files.specs.Outcomes.{ReplayOutcomes}
use Rattle.vd_cmd_files.specs.Deals.{as_consistent}
use Rattle.vd_views.specs.Explained.{plan_of}
use Rattle.vd_excuse.specs.Excuses.{excuse_files}
use Rattle.vd_excuse.specs.declared.fault.ViewFault.{ViewFault}
use Rattle.vd_excuse.specs.declared.fault.ViewFault.TheVariants as view_fault
use Rattle.vd_excuse.specs.Excuse.{fault_at}
use Rattle.vd_excuse.specs.Talk.{talk}
use Rattle.vd_cmd_excuse.specs.declared.runs.Runs.{Runs}
use Rattle.vd_cmd_excuse.specs.Runs.{runs_then}

-- ---- what is looked at

-- the source has two hosts
abbrev pub as_two : (names : List (List ℕ)) → Result (Unit {0}) Status
as_two names = if nat_eq (length names) 2 then Ok tt else Err (NotTwo (length names))

-- the first slot that stands at a commitment
abbrev pub commitment_in : List Proto → Option ℕ
commitment_in protocols = position (λ p. not (has_back_end p)) protocols

abbrev pub as_free : Option ℕ → Result (Unit {0}) Status
as_free None = Ok tt
as_free (Some slot) = Err (HasCommit slot)

-- the files that explain, where nothing is short and nothing differs
abbrev pub as_excused : Option ViewFault → List Deal → Result (List Deal) Status
as_excused None files = Ok files
as_excused (Some (view_fault.Short kind)) files = Err (DealShort kind)
as_excused (Some (view_fault.Differ place)) files = Err (ViewDiffers place)
as_excused (Some view_fault.Memory) files = Err Memory

abbrev pub excused_for : NormalForm → Labels → List Proto → HostId → Runs → Result (List Deal) Status
excused_for p l protocols h runs =
    as_excused (fault_at p l protocols h runs.first runs.second runs.dealing.deals)
    (excuse_files h.0 (plan_of p protocols) runs.first runs.second runs.dealing.deals)

-- ---- the answer

-- the line of the link to one of two hosts, with the words that came on it
abbrev pub talk_line : (names : List (List ℕ)) → HostId → List ℕ → List ℕ
talk_line names h words = words_line (slice_index_or names (1 - h.0) [] ++ codes ">" ++ slice_index_or names h.0 []) words

-- what the file of a host said of the dealing besides
abbrev pub known_to : List (Option Secrets) → HostId → Option Secrets
known_to secrets h = slice_index_or secrets h.0 None

-- The file of a host is of the version of the one that was read for it: of version 2 by the same name and the same keys, so that both are
-- one deal to who marks used ones.
abbrev pub excused_text : List (Option Secrets) → Deal → List ℕ
excused_text secrets deal = text_by deal (known_to secrets deal.me)

abbrev pub excused_files : (out : List ℕ) → List (Option Secrets) → List Deal → List Stored
excused_files out secrets deals = numbered out (codes ".deal") 0 (map (excused_text secrets) deals)

-- a file for each host, and the words that the other host sends
abbrev pub excuse_answer : NormalForm → List Proto → HostId → Runs → (out : List ℕ) → List Deal → Answer
excuse_answer p protocols h runs out stored =
    ended (excused_files out runs.dealing.secrets stored)
    (talk_line p.hosts h (talk p protocols runs.first runs.dealing.deals (1 - h.0) h.0))

-- ---- the plan

-- with protocols none of which is a commitment, and a consistent deal
abbrev pub excused_plan : NormalForm → Labels → HostId → Runs → (out : List ℕ) → List Proto → Contents → Plan
excused_plan p l h runs out protocols = check_then (excused_for p l protocols h runs) (λ stored. answer_then (excuse_answer p protocols h runs out stored))

-- with the choice for a program
abbrev pub assignment_plan : ReplayOutcomes → NormalForm → Labels → HostId → Runs → (out : List ℕ) → Assignment → Contents → Plan
assignment_plan outcomes p l h runs out a =
    check_then (as_free (commitment_in a.protocols)) (λ free.
    check_then (as_consistent (outcomes.judge runs.dealing.deals)) (λ consistent. excused_plan p l h runs out a.protocols))

-- if there is one
abbrev pub choice_plan : ReplayOutcomes → HostId → Runs → (out : List ℕ) → NormalForm → Labels → Option Assignment → Contents → Plan
choice_plan outcomes h runs out p l None = answer_then (no_list (labelled_form p l))
choice_plan outcomes h runs out p l (Some a) = assignment_plan outcomes p l h runs out a

-- with a program, one of its two hosts, and both runs
abbrev pub host_plan : ReplayOutcomes → LabelOutcomes → ChoiceOutcomes → Search → ExcuseWords → NormalForm → HostId → Runs → Contents → Plan
host_plan outcomes least choices search words p h runs =
    choice_of_then least choices search words.budget p (λ c. choice_plan outcomes h runs words.out c.program c.labels c.assignment)

-- with a program, and both runs
abbrev pub runs_plan : ReplayOutcomes → LabelOutcomes → ChoiceOutcomes → Search → ExcuseWords → NormalForm → Runs → Contents → Plan
runs_plan outcomes least choices search words p runs =
    check_then (as_host p.hosts words.host) (λ h.
    check_then (as_two p.hosts) (λ two. host_plan outcomes least choices search words p h runs))

-- with a program, and with the one that is run for a source
abbrev pub program_plan : TextOutcomes → ReplayOutcomes → LabelOutcomes → ChoiceOutcomes → Search → ExcuseWords → NormalForm → Contents → Plan
program_plan texts outcomes least choices search words p = runs_then texts words p.hosts (runs_plan outcomes least choices search words p)

abbrev pub excuse_plan : TextOutcomes → ReplayOutcomes → LabelOutcomes → ChoiceOutcomes → Search → ExcuseWords → Contents → Plan
excuse_plan texts outcomes least choices search words = program_then texts least words.source (program_plan texts outcomes least choices search words)

-- ---- what the parts of the command do, whatever functions pick outcomes

abbrev pub ExecutesAt : NormalForm → Labels → HostId → Runs → (out : List ℕ) → Assignment → Result Answer Status → Type 0
ExecutesAt p l h runs out a result =
    (outcomes : ReplayOutcomes) (files : FilesView) → Executes true (assignment_plan outcomes p l h runs out a) files files result

abbrev pub ExecutesChoice : HostId → Runs → (out : List ℕ) → Chosen → Result Answer Status → Type 0
ExecutesChoice h runs out c result =
    (outcomes : ReplayOutcomes) (files : FilesView) → Executes true (choice_plan outcomes h runs out c.program c.labels c.assignment) files files result

abbrev pub ExecutesRuns : ExcuseWords → NormalForm → Runs → Result Answer Status → Type 0
ExecutesRuns words p runs result =
    SomeSearch (λ choices search. (outcomes : ReplayOutcomes) (least : LabelOutcomes) (files : FilesView)
    → Executes true (runs_plan outcomes least choices search words p runs) files files result)

abbrev pub ExecutesExcuse : ExcuseWords → FilesView → FilesView → Result Answer Status → Type 0
ExecutesExcuse words before now result =
    SomeSearch (λ choices search. (texts : TextOutcomes) (outcomes : ReplayOutcomes) (least : LabelOutcomes)
    → Executes true (excuse_plan texts outcomes least choices search words) before now result)
