-- The functions that pick the one outcome of each text and of each system of flow rules.
use Rattle.std.specs.Prelude.{ℕ, List, Result, Ok, Err}
use Rattle.vd_core.specs.declared.source.Source.{Source}
use Rattle.vd_parser.specs.Outcomes.{IsParse}
use Rattle.vd_parser.specs.declared.fault.ParseFault.{ParseFault}
use Rattle.vd_report.specs.InputsText.{GivesInputs, IsInputsText}
use Rattle.vd_report.specs.Outcome.{FirstWrong}
use Rattle.vd_report.specs.declared.fault.ReadFault.{ReadFault}
use Rattle.vd_constraints.specs.Systems.{Constraints, IsSystem}
use Rattle.vd_constraints.specs.Outcomes.{IsLabelled}
use Rattle.vd_constraints.specs.Satisfies.{IsLeastSolution}
use Rattle.vd_constraints.specs.declared.labels.Labels.{Labels}

-- the one outcome of an inputs file: the words that it gives, or the fault of the first token that cannot stand
abbrev pub IsInputs : List (List ℕ) → List ℕ → Result (List (List ℕ)) ReadFault → Type 0
IsInputs hosts bytes (Ok inputs) = GivesInputs hosts bytes inputs
IsInputs hosts bytes (Err fault) = FirstWrong IsInputsText hosts bytes fault

-- the functions that give each source its one tree or fault, and each inputs file its words or fault
pub record TextOutcomes : Type 0 where
  pub parse : List ℕ → Result Source ParseFault
  pub parse_is : (bytes : List ℕ) → IsParse bytes (parse bytes)
  pub inputs : List (List ℕ) → List ℕ → Result (List (List ℕ)) ReadFault
  pub inputs_is : (hosts : List (List ℕ)) (bytes : List ℕ) → IsInputs hosts bytes (inputs hosts bytes)

-- the functions that give each system of flow rules its least labelling, or the first check that fails, and the least labelling at
-- which its rules hold, whatever becomes of its checks
pub record LabelOutcomes : Type 0 where
  pub label : Constraints → Result Labels ℕ
  pub label_is : (system : Constraints) → IsSystem system → IsLabelled system (label system)
  pub solution : Constraints → Labels
  pub solution_is : (system : Constraints) → IsSystem system → IsLeastSolution system (solution system)
