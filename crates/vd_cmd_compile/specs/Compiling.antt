-- The command `compile`.
use Rattle.std.specs.Prelude.{◌≡◌, ℕ, ◌+◌, true, Some, List, [], ◌∷◌, ◌++◌, slice_get, Result, codes}
use Rattle.sha2.specs.Sha256.{sha256}
use Rattle.vd_base.specs.HostSets.{host}
use Rattle.vd_outside.specs.Files.{FilesView, Contents}
use Rattle.vd_outside.specs.declared.stored.Stored.{Stored}
use Rattle.vd_core.specs.declared.normal.NormalForm.{NormalForm}
use Rattle.vd_execution.specs.declared.instructions.Instr.{Instr}
use Rattle.vd_hostcode.specs.declared.host_text.program.Digest.{Digest}
use Rattle.vd_hostcode.specs.Text.{program_text}
use Rattle.vd_projection.specs.Programs.{host_codes}
use Rattle.vd_search_stages.specs.Choices.{ChoiceOutcomes}
use Rattle.vd_search_stages.specs.declared.optimum.Assignment.{Assignment}
use Rattle.vd_cmd_plan.specs.Labelled.{labelled_form}
use Rattle.vd_cmd_plan.specs.Numbered.{file_name}
use Rattle.vd_cmd_plan.specs.Plans.{Plan, Executes, answer_then, ended}
use Rattle.vd_cmd_plan.specs.declared.answer.Answer.{Answer}
use Rattle.vd_cmd_plan.specs.declared.status.Status.{Status}
use Rattle.vd_cmd_labels.specs.Outcomes.{TextOutcomes, LabelOutcomes}
use Rattle.vd_cmd_choice.specs.Searching.{Search, SomeSearch}
use Rattle.vd_cmd_choice.specs.Choice.{Chosen, assigned_answer, printed_at, source_choice_then}

-- ---- what is stored

-- the file of a host: the text of its code, with the names of all hosts and the digest of the plan
abbrev pub host_file : (prefix : List ℕ) → (hosts : List (List ℕ)) → Digest → (number : ℕ) → List Instr → Stored
host_file prefix hosts plan number code = record {
  name = file_name prefix number (codes ".host");
  content = program_text (record { hosts = hosts; me = host number; plan = plan; code = code });
}

-- the files of hosts that are numbered from here on
abbrev pub host_files : (prefix : List ℕ) → (hosts : List (List ℕ)) → Digest → (number : ℕ) → List (List Instr) → List Stored
host_files prefix hosts plan number [] = []
host_files prefix hosts plan number (code ∷ codes) = host_file prefix hosts plan number code ∷ host_files prefix hosts plan (number + 1) codes

-- ---- what it comes to

-- the programs of one source and one choice know each other by this digest
abbrev pub plan_for : (text printed : List ℕ) → Digest
plan_for text printed = record { bytes = sha256 (text ++ printed) }

-- the code of each host is stored in its file, and the choice printed with its cost
abbrev pub compiled_at : NormalForm → Assignment → (text prefix : List ℕ) → Answer
compiled_at program a text prefix =
    ended (host_files prefix program.hosts (plan_for text (printed_at program a)) 0 (host_codes program a.protocols)) (printed_at program a)

-- this code is what is stored for the host with this number, whatever the bytes of the source and the prefix of the names are
abbrev pub IsStoredFor : NormalForm → Assignment → (h : ℕ) → List Instr → Type 0
IsStoredFor program a h code = (text prefix : List ℕ)
    → slice_get (compiled_at program a text prefix).stores h ≡ Some (host_file prefix program.hosts (plan_for text (printed_at program a)) h code)

-- with what was found for the source with this text
abbrev pub compiled_for : (text prefix : List ℕ) → Chosen → Answer
compiled_for text prefix c = assigned_answer (labelled_form c.program c.labels) (λ a. compiled_at c.program a text prefix) c.assignment

abbrev pub compile_plan : TextOutcomes → LabelOutcomes → ChoiceOutcomes → Search → (source prefix : List ℕ) → (budget : ℕ) → Contents → Plan
compile_plan texts least choices search source prefix budget = source_choice_then texts least choices search source budget (λ text c. answer_then (compiled_for text prefix c))

-- ---- what the command does, whatever functions pick outcomes

abbrev pub ExecutesCompile : (source prefix : List ℕ) → (budget : ℕ) → FilesView → FilesView → Result Answer Status → Type 0
ExecutesCompile source prefix budget before now result =
    SomeSearch (λ choices search. (texts : TextOutcomes) (least : LabelOutcomes) → Executes true (compile_plan texts least choices search source prefix budget) before now result)
