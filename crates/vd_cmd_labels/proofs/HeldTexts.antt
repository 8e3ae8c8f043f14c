-- What the files of a source and of inputs hold.
use Rattle.std.proofs.Common.{◌⊎◌, inl, inr, ◌≡◌, ℕ, List, Result, Ok, Err, IfOk, IsTrue, sym, subst}
use Rattle.vd_base.specs.Limits.{most_source_bytes, most_inputs_bytes}
use Rattle.vd_core.specs.declared.source.Source.{Source}
use Rattle.vd_outside.specs.Files.{FilesView, Contents}
use Rattle.vd_parser.specs.Outcomes.{IsParse}
use Rattle.vd_parser.specs.declared.fault.ParseFault.{ParseFault}
use Rattle.vd_parser.specs.declared.fault.ParseFault.TheVariants as parse_fault
use Rattle.vd_report.specs.InputsText.{GivesInputs}
use Rattle.vd_resolve.specs.Limits.{resolution}
use Rattle.vd_resolve.specs.Faults.{Fault}
use Rattle.vd_cmd_plan.specs.Held.{Finds, IsHeld}
use Rattle.vd_cmd_plan.specs.Loads.{Loads}
use Rattle.vd_cmd_plan.specs.Plans.{Checks}
use Rattle.vd_cmd_plan.specs.declared.status.Status.{Status}
use Rattle.vd_cmd_plan.proofs.Front.{loaded_is}
use Rattle.vd_cmd_labels.specs.Inputs.{HoldsInputs}
use Rattle.vd_cmd_labels.specs.Sources.{HoldsSource, HoldsTree, IsSourceText, as_resolved, resolved_of}

-- the answer of the parser is the outcome of the bytes
pub outcome_is : (bytes : List ℕ) (source : Source) → (Ok source ≡ Err parse_fault.Memory) ⊎ IsParse bytes (Ok source) → IsParse bytes (Ok source)
outcome_is bytes source (inl e) = absurd (cc e)
outcome_is bytes source (inr is) = is

pub tree_found : (name bytes seen : List ℕ) (before now : FilesView) (result : Result Source Status) → Loads name most_source_bytes before now (Ok bytes) → seen ≡ bytes
    → IfOk result (λ tree. IsParse seen (Ok tree)) → Finds before result (HoldsTree name)
tree_found name bytes seen before now (Ok tree) loads same is t = loaded_is name most_source_bytes before now bytes seen (λ b. IsParse b (Ok tree)) loads same is t
tree_found name bytes seen before now (Err status) loads same is t = tt

-- a tree that is resolved meets every rule
pub meets : (tree source : Source) (said : Result (Unit {0}) Fault) → resolution tree ≡ said → as_resolved tree said ≡ Ok source → (tree ≡ source) × (resolution tree ≡ Ok tt)
meets tree source (Ok done) is e = (cc e, is)
meets tree source (Err fault) is e = absurd (cc e)

held_source : (name : List ℕ) (contents : Contents) (tree source : Source) → HoldsTree name contents tree → (tree ≡ source) × (resolution tree ≡ Ok tt) → HoldsSource name contents source
held_source name contents tree source held is =
    subst (λ (s : Source). HoldsSource name contents s) is.0 (record { bytes = held.bytes; is_fetched = held.is_fetched; holds = record { parsed = held.holds; meets = is.1 } })

pub source_found : (name : List ℕ) (before : FilesView) (tree : Source) (result : Result Source Status) → (IsTrue before.told → HoldsTree name before.contents tree) → Checks (resolved_of tree) result
    → Finds before result (HoldsSource name)
source_found name before tree (Ok source) held checks t = held_source name before.contents tree source (held t) (meets tree source (resolution tree) (λ i. resolution tree) checks.ok)
source_found name before tree (Err status) held checks t = tt

pub inputs_found : (name : List ℕ) (hosts : List (List ℕ)) (bytes seen : List ℕ) (before now : FilesView) (result : Result (List (List ℕ)) Status)
    → Loads name most_inputs_bytes before now (Ok bytes) → seen ≡ bytes → IfOk result (λ inputs. GivesInputs hosts seen inputs) → Finds before result (HoldsInputs name hosts)
inputs_found name hosts bytes seen before now (Ok inputs) loads same is t = loaded_is name most_inputs_bytes before now bytes seen (λ b. GivesInputs hosts b inputs) loads same is t
inputs_found name hosts bytes seen before now (Err status) loads same is t = tt
