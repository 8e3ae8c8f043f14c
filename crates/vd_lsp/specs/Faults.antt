-- The faults of a text, as an editor shows them.
use Rattle.std.specs.Prelude.{◌≡◌, ℕ, List, [], ◌∷◌, Option, Some, None, Result, Ok, Err, codes}
use Rattle.std.specs.Str.Lossy.{utf8_lossy}
use Rattle.vd_constraints.specs.declared.labels.Labels.{Labels}
use Rattle.vd_cmd_labels.specs.Outcomes.{LabelOutcomes, TextOutcomes}
use Rattle.vd_cmd_plan.specs.Lines.{code_of}
use Rattle.vd_cmd_plan.specs.declared.status.Status.{Status}
use Rattle.vd_cmd_plan.specs.declared.status.Status.TheVariants.{Memory}
use Rattle.vd_diag.specs.declared.remark.Remark.{Remark}
use Rattle.vd_diag_terminal.specs.Remarks.{IsRemarkOn}
use Rattle.vd_lsp_messages.specs.declared.kinds.Fault.{Fault}
use Rattle.vd_lsp_wire.specs.Marks.{mark_end}
use Rattle.vd_lsp_wire.specs.Places.{place_of}
use Rattle.vd_lsp_wire.specs.declared.place.Place.{Place}
use Rattle.vd_lsp.specs.Outcomes.{outcome_of}

-- the place from which a fault is marked, and to which: one that speaks of no place is marked at the front
abbrev pub start_of : List ℕ → Option ℕ → Place
start_of text None = place_of text 0
start_of text (Some offset) = place_of text offset

abbrev pub end_of : List ℕ → Option ℕ → Place
end_of text None = place_of text 0
end_of text (Some offset) = place_of text (mark_end text offset)

abbrev pub marked : List ℕ → (status : ℕ) → Option ℕ → List ℕ → Fault
marked text status offset sentence =
    record { start = start_of text offset; end = end_of text offset; status = status; sentence = utf8_lossy sentence }

-- what is said of a text that is too long, on which a terminal has no more to say than the line of the status
abbrev pub long_sentence : List ℕ
long_sentence = codes "a source has at most 65536 bytes"

abbrev pub fault_of : List ℕ → (status : ℕ) → Option Remark → Fault
fault_of text status None = marked text status None long_sentence
fault_of text status (Some remark) = marked text status remark.offset remark.sentence

-- the sentence is the one that a terminal shows of this status
pub record IsFaultOf (text : List ℕ) (status : Status) (fault : Fault) : Type 0 where
  pub remark : Option Remark
  pub is : IsRemarkOn text status remark
  pub fault_is : fault ≡ fault_of text (code_of status) remark

abbrev pub IsOnlyFault : List ℕ → Status → List Fault → Type 0
IsOnlyFault text status faults = (fault : Fault) × IsFaultOf text status fault × (faults ≡ fault ∷ [])

-- the status is one of the text, and not that there was no memory
pub record IsRefused (text : List ℕ) (status : Status) (faults : List Fault) : Type 0 where
  pub other : status ≡ Memory → ⊥
  pub only : IsOnlyFault text status faults

abbrev pub AreFaults : List ℕ → Result Labels Status → List Fault → Type 0
AreFaults text (Ok labels) faults = faults ≡ []
AreFaults text (Err status) faults = IsOnlyFault text status faults

-- the faults of the text with this name: none where it has labels, and else the one to which `labels` comes
abbrev pub AreFaultsOf : (name text : List ℕ) → List Fault → Type 0
AreFaultsOf name text faults = (texts : TextOutcomes) (least : LabelOutcomes) → AreFaults text (outcome_of texts least name text) faults
