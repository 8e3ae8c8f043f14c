-- What is said of a status besides its line, by the words of the command line and the file that is read.
use Rattle.std.specs.Prelude.{◌≡◌, ℕ, Bool, List, [], ◌++◌, Option, Some, None, Result, Ok, Err, IfOk}
use Rattle.std.specs.List.{flat_map}
use Rattle.std.specs.Option.{option_map_or}
use Rattle.vd_outside.specs.Files.{FilesView, Fetches}
use Rattle.vd_outside.specs.declared.faults.FetchFault.{FetchFault}
use Rattle.vd_cmd_plan.specs.declared.status.Status.{Status}
use Rattle.vd_cmd_plan.specs.declared.status.Status.TheVariants.{Flow, InputText}
use Rattle.vd_diag.specs.Remarks.{told, told_place}
use Rattle.vd_diag.specs.declared.fault.TellFault.{TellFault}
use Rattle.vd_diag.specs.declared.remark.Remark.{Remark}
use Rattle.vd_diag_terminal.specs.Alone.{alone}
use Rattle.vd_diag_terminal.specs.Files.{reading_of, word_at}
use Rattle.vd_diag_terminal.specs.FlowSteps.{AreFlowSteps}
use Rattle.vd_diag_terminal.specs.Remarks.{IsRemarkOn}
use Rattle.vd_diag_terminal.specs.declared.files.Reading.{Reading}

-- a remark as it is printed: of inputs, which are secret, the place and the sentence, and nothing of the line
abbrev pub told_of : Status → Bool → List ℕ → List ℕ → Remark → List ℕ
told_of (InputText fault) coloured name bytes remark = told_place coloured name bytes remark
told_of end coloured name bytes remark = told coloured name bytes remark

-- the remark on the bytes of the file with this name, as it is printed; nothing where there is none
pub record IsRemarkTold (coloured : Bool) (status : Status) (name bytes text : List ℕ) : Type 0 where
  pub remark : Option Remark
  pub is : IsRemarkOn bytes status remark
  pub printed : text ≡ option_map_or (told_of status coloured name bytes) remark []

-- the steps to a status: of a flow that fails those of its label, of others none
abbrev pub AreStepsOn : List ℕ → Status → List Remark → Type 0
AreStepsOn bytes (Flow fault) steps = AreFlowSteps bytes fault.number steps
AreStepsOn bytes end steps = steps ≡ []

abbrev pub steps_told : Bool → List ℕ → List ℕ → List Remark → List ℕ
steps_told coloured name bytes = flat_map (told coloured name bytes)

-- the remark, and behind it the steps
pub record IsAllTold (coloured : Bool) (status : Status) (name bytes text : List ℕ) : Type 0 where
  pub first : List ℕ
  pub remark : IsRemarkTold coloured status name bytes first
  pub steps : List Remark
  pub are : AreStepsOn bytes status steps
  pub printed : text ≡ first ++ steps_told coloured name bytes steps

-- by what its fetch gave: nothing where it gave no bytes
abbrev pub IsToldOf : Bool → Status → List ℕ → Result (List ℕ) FetchFault → List ℕ → Type 0
IsToldOf coloured status name (Ok bytes) text = IsAllTold coloured status name bytes text
IsToldOf coloured status name (Err fault) text = text ≡ []

-- The file with this name is fetched, and nothing else is asked of files. Running out of memory may leave the text out.
pub record IsSaidOfFile (coloured : Bool) (status : Status) (name : List ℕ) (limit : ℕ) (before now : FilesView) (result : Result (List ℕ) TellFault) : Type 0 where
  pub came : Result (List ℕ) FetchFault
  pub fetches : Fetches name limit before now came
  pub says : IfOk result (IsToldOf coloured status name came)

-- Nothing is asked of files.
pub record IsSaidAlone (said : List ℕ) (before now : FilesView) (result : Result (List ℕ) TellFault) : Type 0 where
  pub still : now ≡ before
  pub says : IfOk result (λ text. text ≡ said)

-- nothing where there is no such word
abbrev pub IsSaidOfNamed : Bool → Status → Option (List ℕ) → ℕ → FilesView → FilesView → Result (List ℕ) TellFault → Type 0
IsSaidOfNamed coloured status None limit before now result = IsSaidAlone [] before now result
IsSaidOfNamed coloured status (Some name) limit before now result = IsSaidOfFile coloured status name limit before now result

abbrev pub IsSaidBy : Bool → List (List ℕ) → Status → Option Reading → FilesView → FilesView → Result (List ℕ) TellFault → Type 0
IsSaidBy coloured words status None before now result = IsSaidAlone (alone words status) before now result
IsSaidBy coloured words status (Some reading) before now result = IsSaidOfNamed coloured status (word_at words reading.word) reading.limit before now result

abbrev pub IsSaid : Bool → List (List ℕ) → Status → FilesView → FilesView → Result (List ℕ) TellFault → Type 0
IsSaid coloured words status before now result = IsSaidBy coloured words status (reading_of words status) before now result
