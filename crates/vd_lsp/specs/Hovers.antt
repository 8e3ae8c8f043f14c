-- What is said of a name: what it stands for, and the least labels of what it names.
use Rattle.std.specs.Prelude.{◌≡◌, ℕ, Bool, false, ◌&&◌, nat_eq, if◌then◌else◌, List, [], ◌∷◌, ◌++◌, Option, Some, None, Result, Ok, Err, codes}
use Rattle.std.specs.Str.{bytes_eq}
use Rattle.std.specs.List.{concat}
use Rattle.std.specs.Str.Lossy.{utf8_lossy}
use Rattle.vd_base.specs.Names.{is_among}
use Rattle.vd_base.specs.declared.operations.Kind.{Kind}
use Rattle.vd_base.specs.declared.operations.Kind.TheVariants.{Word, Bool as Truth}
use Rattle.vd_constraints.specs.declared.labels.Labels.{Labels}
use Rattle.vd_core.specs.declared.normal.NormalForm.{NormalForm}
use Rattle.vd_core.specs.declared.normal.Slot.{Slot}
use Rattle.vd_core.specs.declared.normal.Written.{Written}
use Rattle.vd_core.specs.declared.source.Source.{Source}
use Rattle.vd_elaborate.specs.Normal.{normal_form}
use Rattle.vd_formula.specs.declared.label.Label.{Label}
use Rattle.vd_report.specs.LabelLines.{formula_text}
use Rattle.vd_cmd_labels.specs.Labelling.{labels_of}
use Rattle.vd_cmd_labels.specs.Outcomes.{LabelOutcomes, TextOutcomes}
use Rattle.vd_cmd_labels.specs.Sources.{resolved_of, source_of}
use Rattle.vd_cmd_plan.specs.declared.status.Status.{Status}
use Rattle.vd_cmd_plan.specs.declared.status.Status.TheVariants.{Memory}
use Rattle.vd_lsp_messages.specs.declared.kinds.Answer.{Answer}
use Rattle.vd_lsp_messages.specs.declared.kinds.Answer.TheVariants as answer
use Rattle.vd_lsp_messages.specs.declared.kinds.Document.{Document}
use Rattle.vd_lsp_names.specs.declared.kinds.Declared.{Declared}
use Rattle.vd_lsp_names.specs.declared.kinds.Role.{Role}
use Rattle.vd_lsp_names.specs.declared.kinds.Role.TheVariants as role
use Rattle.vd_lsp_names.specs.declared.kinds.Use.{Use}
use Rattle.vd_lsp.specs.Names.{range_of, spelled}
use Rattle.vd_lsp.specs.Outcomes.{next}

-- ---- the slots of a name: a statement of a function makes one at each call

abbrev pub is_made_at : List ℕ → Option ℕ → Slot → Bool
is_made_at name None slot = false
is_made_at name (Some offset) slot = bytes_eq slot.name name && nat_eq slot.offset offset

abbrev pub kind_text : Kind → List ℕ
kind_text Word = codes "word"
kind_text Truth = codes "bool"

abbrev pub origin_text : Option Written → List ℕ
origin_text None = codes ", inferred\n"
origin_text (Some written) = codes ", as written\n"

-- its kind, its least label, and whether a label is written
abbrev pub slot_line : List (List ℕ) → Slot → Label → List ℕ
slot_line principals slot label =
    kind_text slot.kind ++ codes " {" ++ formula_text principals label.conf ++ codes " ; " ++ formula_text principals label.integ
    ++ codes "}" ++ origin_text slot.label

abbrev pub with_line : List (List ℕ) → List ℕ → List (List ℕ)
with_line lines line = if is_among lines line then lines else lines ++ line ∷ []

abbrev pub with_slot : List (List ℕ) → List ℕ → Option ℕ → List (List ℕ) → Slot → Label → List (List ℕ)
with_slot principals name statement lines slot label =
    if is_made_at name statement slot then with_line lines (slot_line principals slot label) else lines

-- a line for each other one of the slots of this name
abbrev pub lines_behind : List (List ℕ) → List ℕ → Option ℕ → List (List ℕ) → List Slot → List Label → List (List ℕ)
lines_behind principals name statement lines [] labels = lines
lines_behind principals name statement lines (slot ∷ slots) [] = lines
lines_behind principals name statement lines (slot ∷ slots) (label ∷ labels) =
    lines_behind principals name statement (with_slot principals name statement lines slot label) slots labels

abbrev pub label_lines : List ℕ → Option ℕ → NormalForm → Labels → List (List ℕ)
label_lines name statement program labels = lines_behind program.principals name statement [] program.slots labels.slots

-- ---- the lines of a text: those of its least labels, and none where it is refused

abbrev pub program_lines : LabelOutcomes → List ℕ → Option ℕ → NormalForm → Result (List (List ℕ)) Status
program_lines least name statement program = next (labels_of least program) (λ labels. Ok (label_lines name statement program labels))

abbrev pub source_lines : LabelOutcomes → List ℕ → Option ℕ → Source → Result (List (List ℕ)) Status
source_lines least name statement source = program_lines least name statement (normal_form source)

abbrev pub tree_lines : LabelOutcomes → List ℕ → Option ℕ → Source → Result (List (List ℕ)) Status
tree_lines least name statement tree = next (resolved_of tree) (source_lines least name statement)

abbrev pub text_lines : TextOutcomes → LabelOutcomes → (uri text : List ℕ) → List ℕ → Option ℕ → Result (List (List ℕ)) Status
text_lines texts least uri text name statement = next (source_of texts uri text) (tree_lines least name statement)

abbrev pub given : Result (List (List ℕ)) Status → List (List ℕ)
given (Ok lines) = lines
given (Err status) = []

-- a status that is not that there was no memory leaves no lines
abbrev pub IsNone : Status → List (List ℕ) → Type 0
IsNone status lines = (status ≡ Memory → ⊥) × (lines ≡ [])

abbrev pub AreLinesOf : (uri text : List ℕ) → List ℕ → Option ℕ → List (List ℕ) → Type 0
AreLinesOf uri text name statement lines =
    (texts : TextOutcomes) (least : LabelOutcomes) → lines ≡ given (text_lines texts least uri text name statement)

-- ---- what is said

abbrev pub role_text : Role → List ℕ
role_text role.Principal = codes "principal "
role_text role.Host = codes "host "
role_text role.Function = codes "fun "
role_text role.Parameter = codes "parameter "
role_text role.Constant = codes "let "
role_text role.Turn = codes "for "
role_text role.Variable = codes "var "
role_text role.Array = codes "array "

abbrev pub said_text : Role → List ℕ → List (List ℕ) → List ℕ
said_text role name lines = role_text role ++ name ++ codes "\n" ++ concat lines

-- of what a name stands for, the name being at this range
abbrev pub IsSaidOf : Document → Declared → Use → Answer → Type 0
IsSaidOf document declared name said =
    (lines : List (List ℕ)) × AreLinesOf document.uri document.text (spelled document.text declared.at) declared.statement lines
    × (said ≡ answer.Said (utf8_lossy (said_text declared.role (spelled document.text declared.at) lines)) (range_of document.text name.at))

abbrev pub IsHoverOf : Document → Option Declared → Use → Answer → Type 0
IsHoverOf document None name said = said ≡ answer.Nothing
IsHoverOf document (Some declared) name said = IsSaidOf document declared name said

abbrev pub IsHover : Document → Option Use → Answer → Type 0
IsHover document None said = said ≡ answer.Nothing
IsHover document (Some name) said = IsHoverOf document name.declared name said
