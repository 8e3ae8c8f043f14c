-- The command `compile` with the word `early`.
use Rattle.std.specs.Prelude.{ℕ, true, List, ◌++◌, length, Result, codes}
use Rattle.vd_outside.specs.Files.{FilesView, Contents}
use Rattle.vd_core.specs.declared.normal.NormalForm.{NormalForm}
use Rattle.vd_execution.specs.Joint.{Joint}
use Rattle.vd_hostcode.specs.declared.host_text.program.Digest.{Digest}
use Rattle.vd_search_stages.specs.Choices.{ChoiceOutcomes}
use Rattle.vd_search_stages.specs.declared.optimum.Assignment.{Assignment}
use Rattle.vd_cmd_plan.specs.Labelled.{labelled_form}
use Rattle.vd_cmd_plan.specs.Plans.{Plan, Executes, answer_then, ended}
use Rattle.vd_cmd_plan.specs.declared.answer.Answer.{Answer}
use Rattle.vd_cmd_plan.specs.declared.status.Status.{Status}
use Rattle.vd_cmd_labels.specs.Outcomes.{TextOutcomes, LabelOutcomes}
use Rattle.vd_cmd_choice.specs.Searching.{Search, SomeSearch}
use Rattle.vd_cmd_choice.specs.Choice.{Chosen, assigned_answer, printed_at, source_choice_then}
use Rattle.vd_cmd_compile.specs.Compiling.{host_files, plan_for}
use Rattle.vd_projection.specs.Early.{each_code, opened_in_order}

-- ---- what it comes to

-- The programs of one source and one choice in an order that waits less know each other by this digest, which is not that of the programs
-- in program order.
abbrev pub early_plan_for : (text printed : List ℕ) → Digest
early_plan_for text printed = plan_for text (printed ++ codes "early by round\n")

-- The code of each host is stored in its file, where this is what all hosts do together; and the choice is printed with its cost.
abbrev pub early_at : NormalForm → Joint → Assignment → (text prefix : List ℕ) → Answer
early_at program joint a text prefix =
    let printed = printed_at program a in
    let codes = each_code (opened_in_order program a.protocols) (length program.hosts) joint in
    ended (host_files prefix program.hosts (early_plan_for text printed) 0 codes) printed

-- with what was found for the source with this text
abbrev pub early_for : Joint → (text prefix : List ℕ) → Chosen → Answer
early_for joint text prefix c = assigned_answer (labelled_form c.program c.labels) (λ a. early_at c.program joint a text prefix) c.assignment

-- the plan, where the search has found this order
abbrev pub early_plan : TextOutcomes → LabelOutcomes → ChoiceOutcomes → Search → Joint → (source prefix : List ℕ) → (budget : ℕ) → Contents → Plan
early_plan texts least choices search joint source prefix budget = source_choice_then texts least choices search source budget (λ text c. answer_then (early_for joint text prefix c))

-- ---- what the command does: some order was found, whatever functions pick outcomes

abbrev pub SomeOrder : (Joint → Type 0) → Type 0
SomeOrder P = (joint : Joint) × P joint

abbrev pub ExecutesEarly : (source prefix : List ℕ) → (budget : ℕ) → FilesView → FilesView → Result Answer Status → Type 0
ExecutesEarly source prefix budget before now result =
    SomeOrder (λ joint. SomeSearch (λ choices search. (texts : TextOutcomes) (least : LabelOutcomes) → Executes true (early_plan texts least choices search joint source prefix budget) before now result))
