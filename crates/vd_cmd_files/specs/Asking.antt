-- The step that reads all that the hosts of a program are to run on.
use Rattle.std.specs.Prelude.{◌≡◌, ◌≤◌, ℕ, List, length, Result}
use Rattle.vd_base.specs.Limits.{most_hosts}
use Rattle.vd_outside.specs.Files.{FilesView, Contents}
use Rattle.vd_cmd.specs.declared.command.ReplayWords.{ReplayWords}
use Rattle.vd_tape.specs.declared.deal_items.deal.Deal.{Deal}
use Rattle.vd_tape.specs.Text.{AreDealsOf}
use Rattle.vd_report.specs.declared.schedule.Schedule.{Schedule}
use Rattle.vd_cmd_plan.specs.Plans.{Plan, ExecutesStep}
use Rattle.vd_cmd_plan.specs.declared.status.Status.{Status}
use Rattle.vd_cmd_labels.specs.Outcomes.{TextOutcomes}
use Rattle.vd_cmd_labels.specs.Inputs.{inputs_then, HoldsInputs}
use Rattle.vd_cmd_files.specs.Outcomes.{ReplayOutcomes}
use Rattle.vd_cmd_files.specs.declared.run_files.RunFiles.{RunFiles}
use Rattle.vd_cmd_files.specs.Deals.{deals_then, HoldDeals}
use Rattle.vd_cmd_files.specs.Schedules.{schedule_then, HoldsSchedule}
use Rattle.vd_base.specs.Words.{InputsAreWords}

-- the inputs are words, and they and the deals are those of so many hosts
pub record AreAsked (hosts : ℕ) (asked : RunFiles) : Type 0 where
  pub few : hosts ≤ most_hosts
  pub inputs : length asked.inputs ≡ hosts
  pub words : InputsAreWords asked.inputs
  pub all : length asked.deals ≡ hosts
  pub deals : AreDealsOf hosts asked.deals

abbrev pub asked_of : ReplayWords → (inputs : List (List ℕ)) → List Deal → Schedule → RunFiles
asked_of words inputs deals schedule = record { inputs = inputs; deals = deals; schedule = schedule; messages = words.messages }

-- fetch the inputs, the deals and the schedule of the hosts with these names, and go on with them
abbrev pub asked_then : TextOutcomes → ReplayOutcomes → ReplayWords → (names : List (List ℕ)) → (RunFiles → Contents → Plan) → Contents → Plan
asked_then texts outcomes words names rest =
    inputs_then texts words.inputs names (λ inputs.
    deals_then outcomes words.prefix names (λ deals.
    schedule_then outcomes words.schedule names (λ schedule. rest (asked_of words inputs deals schedule))))

abbrev pub LoadsAsked : ReplayWords → (names : List (List ℕ)) → FilesView → FilesView → Result RunFiles Status → Type 0
LoadsAsked words names before now result = (texts : TextOutcomes) (outcomes : ReplayOutcomes) → ExecutesStep (asked_then texts outcomes words names) before now result

-- What hosts with these names are asked to run on is what the files say that the words name.
pub record HoldAsked (words : ReplayWords) (names : List (List ℕ)) (contents : Contents) (asked : RunFiles) : Type 0 where
  pub inputs : HoldsInputs words.inputs names contents asked.inputs
  pub deals : HoldDeals words.prefix (length names) contents asked.deals
  pub all : length asked.deals ≡ length names
  pub schedule : HoldsSchedule words.schedule names contents asked.schedule
  pub messages : asked.messages ≡ words.messages
