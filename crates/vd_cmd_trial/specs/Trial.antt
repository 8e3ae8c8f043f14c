-- The command `trial`.
use Rattle.std.specs.Prelude.{◌≡◌, ℕ, zero, suc, ◌+◌, max, true, false, Option, Some, None, List, [], ◌++◌, length, map, Result}
use Rattle.std.specs.List.{fold, range_with_len}
use Rattle.vd_base.specs.declared.protocols.Proto.{Proto}
use Rattle.vd_base.specs.Limits.{most_search_budget}
use Rattle.vd_outside.specs.Files.{FilesView, Contents}
use Rattle.vd_core.specs.declared.normal.NormalForm.{NormalForm}
use Rattle.vd_core.specs.declared.source.Source.{Source}
use Rattle.vd_elaborate.specs.Normal.{normal_form}
use Rattle.vd_tape.specs.Made.{made_deals}
use Rattle.vd_deal_needs.specs.declared.taking.HostNeeds.{HostNeeds}
use Rattle.vd_deal_needs.specs.Sizes.{sizes_of}
use Rattle.vd_deal_needs.specs.Enough.{needs_for}
use Rattle.vd_execution.specs.Claims.{Suffices, last_of}
use Rattle.vd_projection.specs.Programs.{joint_of}
use Rattle.vd_world.specs.Supplies.{supply_of_files}
use Rattle.vd_gen.specs.Source.{generated}
use Rattle.vd_report.specs.ChoiceLines.{cost_line}
use Rattle.vd_search_stages.specs.Choices.{ChoiceOutcomes}
use Rattle.vd_search_stages.specs.declared.optimum.Assignment.{Assignment}
use Rattle.vd_cmd_plan.specs.Labelled.{LabelledForm, labelled_form}
use Rattle.vd_cmd_plan.specs.Plans.{Plan, Executes, check_then, answer_then, ended}
use Rattle.vd_cmd_plan.specs.declared.answer.Answer.{Answer}
use Rattle.vd_cmd_plan.specs.declared.status.Status.{Status}
use Rattle.vd_cmd_labels.specs.Outcomes.{TextOutcomes, LabelOutcomes}
use Rattle.vd_cmd_labels.specs.Sources.{source_of, resolved_of}
use Rattle.vd_cmd_choice.specs.Searching.{Search, SomeSearch}
use Rattle.vd_cmd_choice.specs.Choice.{choice_of_then, no_list}
use Rattle.vd_cmd_files.specs.declared.run_files.RunFiles.{RunFiles}
use Rattle.vd_cmd_replay.specs.Replaying.{report_for}

-- ---- what is run on

-- the input of a host with this number, counted from 0: that number for the first host, and zero for all others
abbrev pub trial_input : (host number : ℕ) → ℕ
trial_input zero number = number
trial_input (suc host) number = 0

-- so many of them
abbrev pub trial_words : (many host : ℕ) → List ℕ
trial_words many host = map (trial_input host) (range_with_len 0 many)

abbrev pub trial_inputs : (hosts many : ℕ) → List (List ℕ)
trial_inputs hosts many = map (trial_words many) (range_with_len 0 hosts)

-- The point of the first host is farther from that of each other one by 0, 1, 2 and so on, coordinate by coordinate: so each square that a
-- trial sums is another one.
abbrev pub PointsAreApart : Type 0
PointsAreApart = (host number : ℕ) → trial_input 0 number ≡ trial_input (suc host) number + number

-- how many the host takes at most that takes the most
abbrev pub most_inputs : List HostNeeds → ℕ
most_inputs needs = fold (λ n host. max n host.inputs) 0 needs

-- as many inputs and items as the hosts take, in the deal of this key, and rounds over all hosts until none can step
abbrev pub asked_by : List HostNeeds → (key : ℕ) → RunFiles
asked_by needs key = record {
  inputs = trial_inputs (length needs) (most_inputs needs);
  deals = made_deals (sizes_of needs) key;
  schedule = record { entries = []; all = true };
  messages = false;
}

-- what the hosts of a program run on at an assignment of protocols: the key is the number of coordinates
abbrev pub trial_asked : (coordinates : ℕ) → NormalForm → List Proto → RunFiles
trial_asked coordinates program protocols = asked_by (needs_for program protocols) coordinates

-- each list has as many inputs and items as are taken of it
abbrev pub Suffice : NormalForm → List Proto → RunFiles → Type 0
Suffice program protocols asked =
    let supply = supply_of_files asked.inputs asked.deals in
    Suffices supply (last_of supply (joint_of program protocols))

-- ---- what is printed

-- an answer, with the line of a cost before what it prints
abbrev pub headed_by : ℕ → Answer → Answer
headed_by least answer = record { status = answer.status; stores = answer.stores; printed = cost_line least ++ answer.printed }

-- the cost of the choice, and the report of the run
abbrev pub trial_text : (coordinates : ℕ) → NormalForm → Assignment → List ℕ
trial_text coordinates program a = cost_line a.cost ++ report_for program a.protocols (trial_asked coordinates program a.protocols)

-- ---- the plan

-- with the choice for a program, if there is one
abbrev pub choice_plan : (coordinates : ℕ) → LabelledForm → Option Assignment → Contents → Plan
choice_plan coordinates form None = answer_then (no_list form)
choice_plan coordinates form (Some a) = answer_then (ended [] (trial_text coordinates form.program a))

-- with a program, and with a source that meets every rule
abbrev pub program_plan : LabelOutcomes → ChoiceOutcomes → Search → (coordinates : ℕ) → NormalForm → Contents → Plan
program_plan least choices search coordinates program = choice_of_then least choices search most_search_budget program (λ c. choice_plan coordinates (labelled_form c.program c.labels) c.assignment)

abbrev pub source_plan : LabelOutcomes → ChoiceOutcomes → Search → (coordinates : ℕ) → Source → Contents → Plan
source_plan least choices search coordinates source = program_plan least choices search coordinates (normal_form source)

-- the generated source is read and resolved, and no file is fetched
abbrev pub trial_plan : TextOutcomes → LabelOutcomes → ChoiceOutcomes → Search → (coordinates : ℕ) → Contents → Plan
trial_plan texts least choices search coordinates =
    check_then (source_of texts [] (generated coordinates)) (λ tree. check_then (resolved_of tree) (source_plan least choices search coordinates))

-- ---- what the parts of the command do, whatever functions pick outcomes

abbrev pub ExecutesProgram : (coordinates : ℕ) → NormalForm → Result Answer Status → Type 0
ExecutesProgram coordinates program result =
    SomeSearch (λ choices search. (least : LabelOutcomes) (files : FilesView) → Executes true (program_plan least choices search coordinates program) files files result)

abbrev pub ExecutesSource : (coordinates : ℕ) → Source → Result Answer Status → Type 0
ExecutesSource coordinates source result = ExecutesProgram coordinates (normal_form source) result

abbrev pub ExecutesTrial : (coordinates : ℕ) → Result Answer Status → Type 0
ExecutesTrial coordinates result =
    SomeSearch (λ choices search. (texts : TextOutcomes) (least : LabelOutcomes) (files : FilesView) → Executes true (trial_plan texts least choices search coordinates) files files result)
