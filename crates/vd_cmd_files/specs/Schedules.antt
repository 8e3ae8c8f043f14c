-- The step that reads a schedule.
use Rattle.std.specs.Prelude.{ℕ, List, Result, Ok, Err}
use Rattle.vd_base.specs.Limits.{most_schedule_bytes}
use Rattle.vd_outside.specs.Files.{FilesView, Contents}
use Rattle.vd_report.specs.declared.fault.ReadFault.{ReadFault}
use Rattle.vd_report.specs.declared.schedule.Schedule.{Schedule}
use Rattle.vd_report.specs.ScheduleText.{GivesSchedule}
use Rattle.vd_cmd_plan.specs.Held.{IsHeld}
use Rattle.vd_cmd_plan.specs.Plans.{Plan, ExecutesStep, file_then, check_then}
use Rattle.vd_cmd_plan.specs.Refusals.{schedule_status}
use Rattle.vd_cmd_plan.specs.declared.status.Status.{Status}
use Rattle.vd_cmd_files.specs.Outcomes.{ReplayOutcomes}

-- the schedule, or the status of a refusal
abbrev pub as_schedule : Result Schedule ReadFault → Result Schedule Status
as_schedule (Ok schedule) = Ok schedule
as_schedule (Err fault) = Err (schedule_status fault)

-- the schedule that a text gives for these hosts
abbrev pub schedule_of : ReplayOutcomes → List (List ℕ) → List ℕ → Result Schedule Status
schedule_of outcomes hosts bytes = as_schedule (outcomes.schedule hosts bytes)

-- fetch the schedule of these hosts and go on with it
unfoldable pub schedule_then : ReplayOutcomes → List ℕ → List (List ℕ) → (Schedule → Contents → Plan) → Contents → Plan
schedule_then outcomes name hosts rest = file_then name most_schedule_bytes (λ bytes. check_then (schedule_of outcomes hosts bytes) rest)

abbrev pub LoadsSchedule : List ℕ → List (List ℕ) → FilesView → FilesView → Result Schedule Status → Type 0
LoadsSchedule name hosts before now result = (outcomes : ReplayOutcomes) → ExecutesStep (schedule_then outcomes name hosts) before now result

-- the file gives this schedule for these hosts
abbrev pub HoldsSchedule : List ℕ → List (List ℕ) → Contents → Schedule → Type 0
HoldsSchedule name hosts contents schedule = IsHeld name most_schedule_bytes contents (λ bytes. GivesSchedule hosts bytes schedule)
