-- The step that reads both inputs and the deals.
use Rattle.std.specs.Prelude.{◌≡◌, ◌<◌, ◌≤◌, ℕ, List, length, Result}
use Rattle.vd_base.specs.Limits.{most_hosts}
use Rattle.vd_outside.specs.Files.{FilesView, Contents}
use Rattle.vd_cmd.specs.declared.command.ExcuseWords.{ExcuseWords}
use Rattle.vd_core.specs.declared.normal.NormalForm.{NormalForm}
use Rattle.vd_tape.specs.Text.{AreDealsOf}
use Rattle.vd_cmd_plan.specs.Plans.{Plan, ExecutesStep}
use Rattle.vd_cmd_plan.specs.declared.status.Status.{Status}
use Rattle.vd_cmd_labels.specs.Outcomes.{TextOutcomes}
use Rattle.vd_cmd_labels.specs.Inputs.{inputs_then, HoldsInputs}
use Rattle.vd_base.specs.Words.{InputsAreWords}
use Rattle.vd_cmd_excuse.specs.declared.dealing.Dealing.{Dealing}
use Rattle.vd_cmd_excuse.specs.declared.runs.Runs.{Runs}
use Rattle.vd_cmd_excuse.specs.Dealing.{dealing_then, HoldDealing}

-- the inputs are words, and they and the deals are those of so many hosts
pub record AreRead (hosts : ℕ) (runs : Runs) : Type 0 where
  pub few : hosts ≤ most_hosts
  pub first : length runs.first ≡ hosts
  pub second : length runs.second ≡ hosts
  pub first_words : InputsAreWords runs.first
  pub second_words : InputsAreWords runs.second
  pub all : length runs.dealing.deals ≡ hosts
  pub deals : AreDealsOf hosts runs.dealing.deals

-- one of the two hosts of a program
pub record IsHostOfTwo (program : NormalForm) (host : ℕ) : Type 0 where
  pub two : length program.hosts ≡ 2
  pub one : host < 2

abbrev pub runs_of : (first second : List (List ℕ)) → Dealing → Runs
runs_of first second dealing = record { first = first; second = second; dealing = dealing }

-- fetch both inputs and the deals of the hosts with these names, and go on with them
abbrev pub runs_then : TextOutcomes → ExcuseWords → (names : List (List ℕ)) → (Runs → Contents → Plan) → Contents → Plan
runs_then texts words names rest =
    inputs_then texts words.inputs names (λ first.
    inputs_then texts words.second names (λ second.
    dealing_then words.prefix names (λ dealing. rest (runs_of first second dealing))))

abbrev pub LoadsRuns : ExcuseWords → (names : List (List ℕ)) → FilesView → FilesView → Result Runs Status → Type 0
LoadsRuns words names before now result = (texts : TextOutcomes) → ExecutesStep (runs_then texts words names) before now result

-- What is compared is what the files say that the words name.
pub record HoldRuns (words : ExcuseWords) (names : List (List ℕ)) (contents : Contents) (runs : Runs) : Type 0 where
  pub first : HoldsInputs words.inputs names contents runs.first
  pub second : HoldsInputs words.second names contents runs.second
  pub dealing : HoldDealing words.prefix (length names) contents runs.dealing
  pub all : length runs.dealing.deals ≡ length names
  pub known : length runs.dealing.secrets ≡ length names
