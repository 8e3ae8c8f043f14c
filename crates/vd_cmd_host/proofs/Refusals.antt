-- Why a text of inputs is refused.
use Rattle.std.proofs.Common.{ℕ, List, Err, refl}
use Rattle.vd_report.specs.InputsText.{IsInputsText}
use Rattle.vd_report.specs.Outcome.{FirstWrong, Refuses}
use Rattle.vd_report.specs.declared.fault.ReadFault.{ReadFault}
use Rattle.vd_report.specs.declared.fault.ReadFault.TheVariants as read_fault
use Rattle.vd_cmd_plan.specs.Refusals.{input_status}
use Rattle.vd_cmd_host.specs.Loading.{IsInputsEnd}

-- the reader's fault is the text's
pub inputs_end : (hosts : List (List ℕ)) (bytes : List ℕ) (fault : ReadFault) → Refuses {X = List (List ℕ)} (Err fault) (FirstWrong IsInputsText hosts bytes) → IsInputsEnd hosts bytes (input_status fault)
inputs_end hosts bytes (read_fault.Text offset) refuses = (refuses (λ e. cc e) (read_fault.Text offset)).0 refl
inputs_end hosts bytes (read_fault.UnknownHost offset) refuses = (refuses (λ e. cc e) (read_fault.UnknownHost offset)).0 refl
inputs_end hosts bytes read_fault.Memory refuses = tt
