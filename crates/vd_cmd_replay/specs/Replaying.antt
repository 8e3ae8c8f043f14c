-- The command `replay`.
use Rattle.std.specs.Prelude.{ℕ, true, Option, Some, None, List, [], length, Result}
use Rattle.vd_base.specs.declared.protocols.Proto.{Proto}
use Rattle.vd_outside.specs.Files.{FilesView, Contents}
use Rattle.vd_core.specs.declared.normal.NormalForm.{NormalForm}
use Rattle.vd_cmd.specs.declared.command.ReplayWords.{ReplayWords}
use Rattle.vd_execution.specs.Joint.{started}
use Rattle.vd_execution.specs.World.{World}
use Rattle.vd_search_stages.specs.Choices.{ChoiceOutcomes}
use Rattle.vd_search_stages.specs.declared.optimum.Assignment.{Assignment}
use Rattle.vd_projection.specs.Programs.{joint_of}
use Rattle.vd_world.specs.Supplies.{supply_of_files}
use Rattle.vd_world.specs.Schedules.{replayed}
use Rattle.vd_world.specs.Reports.{report_of}
use Rattle.vd_cmd_plan.specs.Labelled.{LabelledForm, labelled_form}
use Rattle.vd_cmd_plan.specs.Plans.{Plan, Executes, check_then, answer_then, ended}
use Rattle.vd_cmd_plan.specs.declared.answer.Answer.{Answer}
use Rattle.vd_cmd_plan.specs.declared.status.Status.{Status}
use Rattle.vd_cmd_labels.specs.Outcomes.{TextOutcomes, LabelOutcomes}
use Rattle.vd_cmd_choice.specs.Programs.{program_then}
use Rattle.vd_cmd_choice.specs.Searching.{Search, SomeSearch}
use Rattle.vd_cmd_choice.specs.Choice.{Chosen, choice_of_then, no_list}
use Rattle.vd_cmd_files.specs.Outcomes.{ReplayOutcomes}
use Rattle.vd_cmd_files.specs.declared.run_files.RunFiles.{RunFiles}
use Rattle.vd_cmd_files.specs.Asking.{asked_then}
use Rattle.vd_cmd_files.specs.Deals.{as_consistent}

-- ---- what it runs

-- the world of all hosts of a program at an assignment of protocols, after the schedule
abbrev pub world_for : NormalForm → List Proto → RunFiles → World
world_for program protocols asked =
    replayed (supply_of_files asked.inputs asked.deals) (length program.hosts) asked.schedule (started (joint_of program protocols))

-- its report
abbrev pub report_for : NormalForm → List Proto → RunFiles → List ℕ
report_for program protocols asked =
    report_of program.hosts (supply_of_files asked.inputs asked.deals) (world_for program protocols asked) asked.messages

-- ---- the plan

-- with the choice for a program
abbrev pub assignment_plan : ReplayOutcomes → RunFiles → NormalForm → Assignment → Contents → Plan
assignment_plan outcomes asked program a =
    check_then (as_consistent (outcomes.judge asked.deals)) (λ consistent. answer_then (ended [] (report_for program a.protocols asked)))

-- if there is one
abbrev pub choice_plan : ReplayOutcomes → RunFiles → LabelledForm → Option Assignment → Contents → Plan
choice_plan outcomes asked form None = answer_then (no_list form)
choice_plan outcomes asked form (Some a) = assignment_plan outcomes asked form.program a

-- with a program, and all that it is to run on
abbrev pub asked_plan : ReplayOutcomes → LabelOutcomes → ChoiceOutcomes → Search → (budget : ℕ) → NormalForm → RunFiles → Contents → Plan
asked_plan outcomes least choices search budget program asked = choice_of_then least choices search budget program (λ c. choice_plan outcomes asked (labelled_form c.program c.labels) c.assignment)

-- with a program, and with the one that is run for a source
abbrev pub program_plan : TextOutcomes → ReplayOutcomes → LabelOutcomes → ChoiceOutcomes → Search → ReplayWords → NormalForm → Contents → Plan
program_plan texts outcomes least choices search words program =
    asked_then texts outcomes words program.hosts (asked_plan outcomes least choices search words.budget program)

abbrev pub replay_plan : TextOutcomes → ReplayOutcomes → LabelOutcomes → ChoiceOutcomes → Search → ReplayWords → Contents → Plan
replay_plan texts outcomes least choices search words =
    program_then texts least words.source (program_plan texts outcomes least choices search words)

-- ---- what the parts of the command do, whatever functions pick outcomes

abbrev pub ExecutesChoice : RunFiles → Chosen → Result Answer Status → Type 0
ExecutesChoice asked c result =
    (outcomes : ReplayOutcomes) (files : FilesView)
    → Executes true (choice_plan outcomes asked (labelled_form c.program c.labels) c.assignment) files files result

abbrev pub ExecutesReplay : ReplayWords → FilesView → FilesView → Result Answer Status → Type 0
ExecutesReplay words before now result =
    SomeSearch (λ choices search. (texts : TextOutcomes) (outcomes : ReplayOutcomes) (least : LabelOutcomes)
    → Executes true (replay_plan texts outcomes least choices search words) before now result)
