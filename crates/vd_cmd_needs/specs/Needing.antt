-- The commands `needs` and `rounds`.
use Rattle.std.specs.Prelude.{ℕ, nat_eq, Bool, true, if◌then◌else◌, List, [], Result, Ok, Err, codes}
use Rattle.std.specs.List.{starts_with}
use Rattle.vd_base.specs.declared.protocols.Proto.{Proto}
use Rattle.vd_base.specs.Limits.{most_host_file_bytes}
use Rattle.vd_outside.specs.Files.{FilesView, Contents}
use Rattle.vd_core.specs.declared.normal.NormalForm.{NormalForm}
use Rattle.vd_core.specs.declared.source.Source.{Source}
use Rattle.vd_deal_needs.specs.Sizes.{sizes_of}
use Rattle.vd_search_stages.specs.Choices.{ChoiceOutcomes}
use Rattle.vd_cmd.specs.declared.command.NeedsWords.{NeedsWords}
use Rattle.vd_cmd.specs.declared.command.NeedsKind.{NeedsKind}
use Rattle.vd_cmd.specs.declared.command.NeedsKind.TheVariants as needs_kind
use Rattle.vd_hostcode.specs.declared.host_text.program.HostProgram.{HostProgram}
use Rattle.vd_projection.specs.Programs.{host_codes}
use Rattle.vd_cmd_plan.specs.Labelled.{labelled_form}
use Rattle.vd_cmd_plan.specs.Plans.{Checks, Plan, Executes, answer_then, check_then, ended, file_then}
use Rattle.vd_cmd_plan.specs.declared.answer.Answer.{Answer}
use Rattle.vd_cmd_plan.specs.declared.status.Status.{Status}
use Rattle.vd_cmd_labels.specs.Outcomes.{TextOutcomes, LabelOutcomes}
use Rattle.vd_cmd_labels.specs.Sources.{source_of}
use Rattle.vd_cmd_choice.specs.Searching.{Search, SomeSearch}
use Rattle.vd_cmd_choice.specs.Choice.{Chosen, assigned_answer, text_choice_then}
use Rattle.vd_cmd_needs.specs.Lines.{each_lines, program_lines, sizes_line}
use Rattle.vd_cmd_needs.specs.RoundsLines.{rounds_lines, told_in}
use Rattle.vd_deal_needs.specs.Enough.{needs_for}
use Rattle.vd_cmd_plan.specs.Programs.{ProgramOutcomes, program_in}

-- ---- a source

-- what is printed of a program at an assignment of protocols
abbrev pub needs_text : NeedsKind → NormalForm → List Proto → List ℕ
needs_text needs_kind.Sizes program protocols = sizes_line (sizes_of (needs_for program protocols))
needs_text needs_kind.Each program protocols = each_lines program.hosts (needs_for program protocols)
needs_text needs_kind.Rounds program protocols = rounds_lines program.hosts (host_codes program protocols)

-- with what was found for a source
abbrev pub needs_answer : NeedsKind → Chosen → Answer
needs_answer kind c = assigned_answer (labelled_form c.program c.labels) (λ a. ended [] (needs_text kind c.program a.protocols)) c.assignment

-- with the bytes of a source
abbrev pub text_plan : TextOutcomes → LabelOutcomes → ChoiceOutcomes → Search → NeedsWords → List ℕ → Contents → Plan
text_plan texts least choices search words bytes = text_choice_then texts least choices search words.file words.budget bytes (λ c. answer_then (needs_answer words.kind c))

-- the bytes are no source, and are refused for it with this status
abbrev pub IsNoSource : (name bytes : List ℕ) → Status → Type 0
IsNoSource name bytes status = (texts : TextOutcomes) → Checks {T = Source} (source_of texts name bytes) (Err status)

-- ---- the program of a host

-- the bytes begin as each program of a host does, and as no source does
abbrev pub is_program_text : List ℕ → Bool
is_program_text bytes = starts_with nat_eq bytes (codes "viaduct-host ")

-- what is printed of it
abbrev pub program_text : NeedsKind → HostProgram → List ℕ
program_text needs_kind.Sizes program = program_lines program
program_text needs_kind.Each program = program_lines program
program_text needs_kind.Rounds program = told_in program

abbrev pub host_plan : ProgramOutcomes → NeedsKind → List ℕ → Contents → Plan
host_plan programs kind bytes = check_then (program_in programs bytes) (λ program. answer_then (ended [] (program_text kind program)))

-- ---- either

abbrev pub bytes_plan : TextOutcomes → ProgramOutcomes → LabelOutcomes → ChoiceOutcomes → Search → NeedsWords → List ℕ → Contents → Plan
bytes_plan texts programs least choices search words bytes =
    if is_program_text bytes then host_plan programs words.kind bytes else text_plan texts least choices search words bytes

abbrev pub needs_plan : TextOutcomes → ProgramOutcomes → LabelOutcomes → ChoiceOutcomes → Search → NeedsWords → Contents → Plan
needs_plan texts programs least choices search words =
    file_then words.file most_host_file_bytes (bytes_plan texts programs least choices search words)

-- ---- what the parts of the command do, whatever functions pick outcomes

abbrev pub ExecutesText : NeedsWords → List ℕ → Result Answer Status → Type 0
ExecutesText words bytes result =
    SomeSearch (λ choices search. (texts : TextOutcomes) (least : LabelOutcomes) (files : FilesView)
    → Executes true (text_plan texts least choices search words bytes) files files result)

abbrev pub ExecutesHost : NeedsKind → List ℕ → Result Answer Status → Type 0
ExecutesHost kind bytes result = (programs : ProgramOutcomes) (files : FilesView) → Executes true (host_plan programs kind bytes) files files result

abbrev pub ExecutesBytes : NeedsWords → List ℕ → Result Answer Status → Type 0
ExecutesBytes words bytes result =
    SomeSearch (λ choices search. (texts : TextOutcomes) (programs : ProgramOutcomes) (least : LabelOutcomes) (files : FilesView)
    → Executes true (bytes_plan texts programs least choices search words bytes) files files result)

abbrev pub ExecutesNeeds : NeedsWords → FilesView → FilesView → Result Answer Status → Type 0
ExecutesNeeds words before now result =
    SomeSearch (λ choices search. (texts : TextOutcomes) (programs : ProgramOutcomes) (least : LabelOutcomes)
    → Executes true (needs_plan texts programs least choices search words) before now result)
