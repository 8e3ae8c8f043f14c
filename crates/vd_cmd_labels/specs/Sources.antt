-- The steps that read a source.
use Rattle.std.specs.Prelude.{◌≡◌, ℕ, List, Result, Ok, Err}
use Rattle.vd_base.specs.Limits.{most_source_bytes}
use Rattle.vd_outside.specs.Files.{Contents}
use Rattle.vd_core.specs.declared.source.Source.{Source}
use Rattle.vd_parser.specs.Outcomes.{IsParse}
use Rattle.vd_parser.specs.declared.fault.ParseFault.{ParseFault}
use Rattle.vd_parser.specs.declared.fault.ParseFault.TheVariants as parse_fault
use Rattle.vd_resolve.specs.Limits.{resolution}
use Rattle.vd_resolve.specs.Causes.{resolution_told}
use Rattle.vd_resolve.specs.Faults.{Fault, Cause, First, Kinds}
use Rattle.vd_resolve.specs.Faults as rule
use Rattle.vd_resolve.specs.declared.fault.NameFault.{NameFault}
use Rattle.vd_resolve.specs.declared.fault.NameFault.TheVariants as name_fault
use Rattle.vd_resolve.specs.declared.met.Met.TheVariants.{NoVariable}
use Rattle.vd_cmd_plan.specs.Held.{IsHeld}
use Rattle.vd_cmd_plan.specs.Plans.{Plan, file_then, check_then}
use Rattle.vd_cmd_plan.specs.Refusals.{rule_status}
use Rattle.vd_cmd_plan.specs.declared.status.Status.{Status}
use Rattle.vd_cmd_plan.specs.declared.status.Status.TheVariants.{Memory, TooLong, Syntax}
use Rattle.vd_cmd_labels.specs.Outcomes.{TextOutcomes}

-- the status of a text that is no source
abbrev pub text_status : List ℕ → ParseFault → Status
text_status name (parse_fault.TooLong length) = TooLong name most_source_bytes
text_status name parse_fault.Memory = Memory
text_status name fault = Syntax fault

-- the tree of a text, or the status of its refusal
abbrev pub as_source : List ℕ → Result Source ParseFault → Result Source Status
as_source name (Ok source) = Ok source
as_source name (Err fault) = Err (text_status name fault)

abbrev pub source_of : TextOutcomes → List ℕ → List ℕ → Result Source Status
source_of texts name bytes = as_source name (texts.parse bytes)

-- The fault of a rule with what it carries: what `bare` and `carried` take apart. A cause of another sort than the fault comes from no source.
abbrev pub caused : Fault → Result (Unit {0}) Cause → NameFault
caused (rule.Unknown at) cause = name_fault.Unknown at
caused (rule.Twice at) (Err (First first)) = name_fault.Twice at first
caused (rule.Twice at) other = name_fault.Twice at at
caused (rule.Recursive at) cause = name_fault.Recursive at
caused (rule.Arity at) cause = name_fault.Arity at
caused (rule.Kind at) (Err (Kinds met)) = name_fault.Kind at met
caused (rule.Kind at) other = name_fault.Kind at NoVariable
caused (rule.Limit which count) cause = name_fault.Limit which count
caused rule.Memory cause = name_fault.Memory

-- the tree, where it meets every rule on names, kinds and limits, or the status of its refusal
abbrev pub as_resolved : Source → Result (Unit {0}) Fault → Result Source Status
as_resolved source (Ok done) = Ok source
as_resolved source (Err fault) = Err (rule_status (caused fault (resolution_told source)))

abbrev pub resolved_of : Source → Result Source Status
resolved_of source = as_resolved source (resolution source)

-- fetch a source and go on with its tree
unfoldable pub tree_then : TextOutcomes → List ℕ → (Source → Contents → Plan) → Contents → Plan
tree_then texts name rest = file_then name most_source_bytes (λ bytes. check_then (source_of texts name bytes) rest)

-- the same, where the tree meets every rule
unfoldable pub source_then : TextOutcomes → List ℕ → (Source → Contents → Plan) → Contents → Plan
source_then texts name rest = tree_then texts name (λ tree. check_then (resolved_of tree) rest)

-- ---- what a file holds

-- the text of a source that meets every rule
pub record IsSourceText (source : Source) (bytes : List ℕ) : Type 0 where
  pub parsed : IsParse bytes (Ok source)
  pub meets : resolution source ≡ Ok tt

-- the file holds the text of this tree, and that of this source
abbrev pub HoldsTree : List ℕ → Contents → Source → Type 0
HoldsTree name contents tree = IsHeld name most_source_bytes contents (λ bytes. IsParse bytes (Ok tree))

abbrev pub HoldsSource : List ℕ → Contents → Source → Type 0
HoldsSource name contents source = IsHeld name most_source_bytes contents (IsSourceText source)
