-- The lines of a text, by what its check came to.
use Rattle.std.proofs.Common.{◌≡◌, ◌<◌, ◌⊎◌, inl, inr, ℕ, List, [], ◌∷◌, length, Option, Result, Ok, Err, IfOk, refl, sym, ap, subst, ◌∙◌, arith}
use Rattle.vd_base.specs.Limits.{most_source_bytes}
use Rattle.vd_cmd_labels.proofs.Front.{parsed}
use Rattle.vd_cmd_labels.specs.Outcomes.{LabelOutcomes, TextOutcomes}
use Rattle.vd_cmd_labels.specs.Sources.{source_of}
use Rattle.vd_cmd_plan.specs.Plans.{Checks, IsRefusal}
use Rattle.vd_cmd_plan.specs.declared.status.Status.{Status}
use Rattle.vd_cmd_plan.specs.declared.status.Status.TheVariants.{Ended, Memory, Usage, ReadFault, WriteFault, NoAssignment, TooLong, Host, ChildFault}
use Rattle.vd_core.specs.declared.normal.NormalForm.{NormalForm}
use Rattle.vd_core.specs.declared.normal.Slot.{Slot}
use Rattle.vd_formula.specs.declared.label.Label.{Label}
use Rattle.vd_parser.specs.declared.fault.ParseFault.TheVariants as parse_fault
use Rattle.vd_constraints.specs.declared.labels.Labels.{Labels}
use Rattle.vd_cmd_labels.specs.Labelling.{labels_of}
use Rattle.vd_lsp.specs.Hovers.{given, label_lines, lines_behind, program_lines, text_lines, tree_lines}
use Rattle.vd_lsp.specs.Outcomes.{next}
use Rattle.vd_lsp.proofs.Outcomes.{made}

-- a refusal for another reason than memory is that of what was wanted
refused_with : {T : Type 0} (wanted : Result T Status) (status : Status) → (status ≡ Memory → ⊥) → IsRefusal wanted status → wanted ≡ Err status
refused_with wanted Ended other refusal = absurd refusal
refused_with wanted (NoAssignment labelled) other refusal = absurd refusal
refused_with wanted Memory other refusal = absurd (other refl)
refused_with wanted Usage other refusal = absurd refusal
refused_with wanted (ReadFault name) other refusal = absurd refusal
refused_with wanted WriteFault other refusal = absurd refusal
refused_with wanted (Host cause) other refusal = refusal.1
refused_with wanted (ChildFault hosts fault) other refusal = absurd refusal
refused_with wanted status other refusal = refusal

pub lines_given : (wanted : Result (List (List ℕ)) Status) (lines : List (List ℕ)) → Checks wanted (Ok lines) → lines ≡ given wanted
lines_given wanted lines checks = ap given (sym checks.ok)

pub none_given : (wanted : Result (List (List ℕ)) Status) (status : Status) (lines : List (List ℕ)) → Checks wanted (Err status) → (status ≡ Memory → ⊥) → lines ≡ [] → lines ≡ given wanted
none_given wanted status lines checks other none = none ∙ ap given (sym (refused_with wanted status other checks.err))

pub long_given : (texts : TextOutcomes) (least : LabelOutcomes) (uri text name : List ℕ) (statement : Option ℕ) → most_source_bytes < length text → given (text_lines texts least uri text name statement) ≡ []
long_given texts least uri text name statement over =
    ap (λ r. given (next r (tree_lines least name statement))) (parsed texts uri text (Err (parse_fault.TooLong (length text))) (inr (over, refl)) (λ e. cc e))

pub program_given : (least : LabelOutcomes) (name : List ℕ) (statement : Option ℕ) (program : NormalForm) (labels : Labels) (lines : List (List ℕ)) → Checks (labels_of least program) (Ok labels)
    → lines ≡ label_lines name statement program labels → Checks (program_lines least name statement program) (Ok lines)
program_given least name statement program labels lines checks is =
    made (labels_of least program) (λ (l : Labels). Ok (label_lines name statement program l)) labels (Ok lines) checks
    (record { ok = ap {B = Result (List (List ℕ)) Status} (λ (l : List (List ℕ)). Ok l) (sym is); err = tt })

pub of_form : (least : LabelOutcomes) (name : List ℕ) (statement : Option ℕ) (program form : NormalForm) (result : Result (List (List ℕ)) Status) → program ≡ form
    → Checks (program_lines least name statement program) result → Checks (program_lines least name statement form) result
of_form least name statement program form result is checks = subst (λ p. Checks (program_lines least name statement p) result) is checks

-- what holds of a result for all outcomes
pub for_all : {X E : Type 0} (result : Result X E) (P : TextOutcomes → LabelOutcomes → X → Type 0) → ((texts : TextOutcomes) (least : LabelOutcomes) → IfOk result (P texts least))
    → IfOk result (λ x. (texts : TextOutcomes) (least : LabelOutcomes) → P texts least x)
for_all (Ok x) P holds = holds
for_all (Err e) P holds = tt

-- where one of the lists is over, the lines are those so far
pub lines_end : (principals : List (List ℕ)) (name : List ℕ) (statement : Option ℕ) (lines : List (List ℕ)) (slots : List Slot) (labels : List Label) → (length slots ≡ 0) ⊎ (length labels ≡ 0)
    → lines_behind principals name statement lines slots labels ≡ lines
lines_end principals name statement lines [] labels e = refl
lines_end principals name statement lines (slot ∷ slots) [] e = refl
lines_end principals name statement lines (slot ∷ slots) (label ∷ labels) (inl e) = absurd (omega arith)
lines_end principals name statement lines (slot ∷ slots) (label ∷ labels) (inr e) = absurd (omega arith)
