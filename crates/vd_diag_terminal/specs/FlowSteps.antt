-- The way of a label in sentences: a place and a sentence for each rule by which a check fails, from where the label enters.
use Rattle.std.specs.Prelude.{◌≡◌, ℕ, Bool, if◌then◌else◌, Option, Some, None, List, [], ◌∷◌, ◌++◌, Ok, codes, map, slice_get, slice_index, ◌⊎◌}
use Rattle.std.specs.Option.{option_map_or}
use Rattle.std.specs.List.{flat_map}
use Rattle.std.specs.Str.{bytes_eq}
use Rattle.vd_base.specs.declared.ids.SlotId.{SlotId}
use Rattle.vd_core.specs.declared.normal.NormalForm.{NormalForm}
use Rattle.vd_core.specs.declared.normal.Right.{Right}
use Rattle.vd_core.specs.declared.normal.Right.TheVariants as right
use Rattle.vd_core.specs.declared.normal.Written.{Written}
use Rattle.vd_core.specs.declared.normal.Stmt.{Stmt}
use Rattle.vd_core.specs.declared.normal.Stmt.TheOpen.{Stmt-F}
use Rattle.vd_core.specs.declared.normal.Stmt.TheFolds.{fold-Stmt}
use Rattle.vd_core.specs.declared.source.Source.{Source}
use Rattle.vd_formula.specs.TruthTable.{TruthTable}
use Rattle.vd_constraints.specs.Rules.{system_of}
use Rattle.vd_constraints.specs.Systems.{Constraints}
use Rattle.vd_constraints.specs.declared.system.Place.{Place}
use Rattle.vd_constraints.specs.declared.system.Place.TheVariants.{Slot, Block}
use Rattle.vd_constraints.specs.declared.system.Part.{Part}
use Rattle.vd_constraints.specs.declared.system.Bound.{Bound}
use Rattle.vd_constraints.specs.declared.system.Bound.TheVariants.{Constant, Same, Given, Or}
use Rattle.vd_constraints.specs.declared.system.Lower.{Lower}
use Rattle.vd_constraints.specs.declared.system.Check.{Check}
use Rattle.vd_elaborate.specs.Normal.{normal_form}
use Rattle.vd_flow.specs.Ways.{IsWay}
use Rattle.vd_flow.specs.declared.ways.Step.{Step}
use Rattle.vd_parser.specs.Outcomes.{IsParse}
use Rattle.vd_report.specs.LabelLines.{formula_text}
use Rattle.vd_cmd_labels.specs.Sources.{resolved_of}
use Rattle.vd_diag.specs.Parts.{quoted, three}
use Rattle.vd_diag.specs.Remarks.{at}
use Rattle.vd_diag.specs.declared.remark.Remark.{Remark}
use Rattle.vd_diag_terminal.specs.Phrases.{guarded, vouched}
use Rattle.vd_diag_terminal.specs.Sentences.{later, later_slot, slot_name, slot_offset}

-- ---- where a rule stands

-- the place of a statement, for each of its rules
abbrev pub two : ℕ → List ℕ
two offset = offset ∷ offset ∷ []

abbrev pub four : ℕ → List ℕ
four offset = offset ∷ offset ∷ offset ∷ offset ∷ []

abbrev pub six : ℕ → List ℕ
six offset = offset ∷ offset ∷ offset ∷ offset ∷ offset ∷ offset ∷ []

abbrev pub right_offsets : ℕ → Right → List ℕ
right_offsets offset (right.Lit n) = []
right_offsets offset right.Turn = []
right_offsets offset (right.Copy y) = two offset
right_offsets offset (right.Apply op ys) = flat_map (λ y. two offset) ys
right_offsets offset (right.Input h) = two offset
right_offsets offset (right.Declassify y form) = six offset
right_offsets offset (right.Endorse y form) = four offset
right_offsets offset (right.Load v) = two offset
right_offsets offset (right.Get v i) = four offset

-- of the label that the source writes at a slot, if it does
abbrev pub label_offsets : ℕ → Option Written → List ℕ
label_offsets offset None = []
label_offsets offset (Some written) = two offset

abbrev pub written_offsets : NormalForm → SlotId → List ℕ
written_offsets p x = option_map_or (λ slot. label_offsets slot.offset slot.label) (slice_get p.slots x.0) []

-- Of each rule of a program, in the order of the rules, where its statement stands. A store stands where the later one of its slots is made.
abbrev pub offsets_step : NormalForm → Stmt-F (List ℕ) → List ℕ
offsets_step p (Stmt-F.Let x r) = right_offsets (slot_offset p x.0) r ++ written_offsets p x
offsets_step p (Stmt-F.NewVar v y) = four (slot_offset p v.0) ++ written_offsets p v
offsets_step p (Stmt-F.NewArray v size) = two (slot_offset p v.0) ++ written_offsets p v
offsets_step p (Stmt-F.Store v y) = four (later_slot p v y)
offsets_step p (Stmt-F.Put v i y) = six (later (slot_offset p v.0) (later_slot p i y))
offsets_step p (Stmt-F.Output y h offset) = two offset
offsets_step p (Stmt-F.If y then_block else_block offset) =
    four offset ++ (flat_map (λ offsets. offsets) then_block ++ flat_map (λ offsets. offsets) else_block)
offsets_step p (Stmt-F.For count body) = flat_map (λ offsets. offsets) body

abbrev pub offsets_of : NormalForm → Stmt → List ℕ
offsets_of p = fold-Stmt (List ℕ) (offsets_step p)

abbrev pub offsets_in : NormalForm → List Stmt → List ℕ
offsets_in p body = flat_map (λ offsets. offsets) (map (offsets_of p) body)

abbrev pub rule_offsets : NormalForm → List ℕ
rule_offsets p = offsets_in p p.body

-- ---- sentences

abbrev pub slot_phrase : NormalForm → SlotId → List ℕ
slot_phrase p x = if bytes_eq (slot_name p x.0) (codes "_") then codes "a value here" else quoted (slot_name p x.0)

abbrev pub subject : NormalForm → Place → List ℕ
subject p (Slot x) = slot_phrase p x
subject p (Block b) = codes "what is done in the branch"

abbrev pub made_of : NormalForm → (from to : SlotId) → List ℕ
made_of p y x = three (slot_phrase p x) (codes " is made of ") (slot_phrase p y)

abbrev pub goes_by : NormalForm → SlotId → List ℕ
goes_by p y = three (codes "the branch goes by ") (slot_phrase p y) []

abbrev pub tells_branch : NormalForm → SlotId → List ℕ
tells_branch p x = three (slot_phrase p x) (codes " tells which branch is taken") []

-- what is at the one place tells of what is at the other
abbrev pub passing : NormalForm → (from to : Place) → List ℕ
passing p (Slot y) (Slot x) = made_of p y x
passing p (Slot y) (Block b) = goes_by p y
passing p (Block b) (Slot x) = tells_branch p x
passing p (Block b) (Block c) = codes "the branch stands in another one"

-- a formula enters at a place
abbrev pub entered : Bool → List ℕ → List ℕ
entered integ formula = if integ then vouched formula else guarded formula

abbrev pub entering : NormalForm → Part → TruthTable → List ℕ
entering p part f = three (subject p part.at) (codes " is ") (entered part.integ (formula_text p.principals f))

abbrev pub answered : Place → List ℕ
answered (Slot x) = codes "it"
answered (Block b) = codes "the branch"

abbrev pub declassified : NormalForm → (at of : Place) → List ℕ
declassified p at of = three (subject p of) (codes " is declassified, and who could not read it before must answer for ") (answered at)

abbrev pub endorsed : NormalForm → Place → List ℕ
endorsed p of = three (subject p of) (codes " is endorsed, and who answered for it before must be able to read it") []

-- labels of confidentiality go on with a value, and those of integrity come from where it is used
abbrev pub same_sentence : NormalForm → Part → (from : Place) → List ℕ
same_sentence p part from = if part.integ then passing p part.at from else passing p from part.at

abbrev pub rule_sentence : NormalForm → Part → Bound → List ℕ
rule_sentence p part (Constant f) = entering p part f
rule_sentence p part (Same from) = same_sentence p part from.at
rule_sentence p part (Given f from) = declassified p part.at from.at
rule_sentence p part (Or f from) = endorsed p from.at

abbrev pub step_remark : NormalForm → (offsets : List ℕ) → Step → Remark
step_remark p offsets step = at (slice_index offsets step.number) (rule_sentence p step.rule.part step.rule.bound)

abbrev pub told_steps : NormalForm → List Step → List Remark
told_steps p way = map (step_remark p (rule_offsets p)) way

-- ---- of a check

-- the steps of a way by which the check fails
pub record AreStepsOfCheck (p : NormalForm) (s : Constraints) (check : Check) (steps : List Remark) : Type 0 where
  pub way : List Step
  pub is : IsWay s check way
  pub told : steps ≡ told_steps p way

-- of the check of a program with this number
pub record AreStepsOfForm (number : ℕ) (p : NormalForm) (steps : List Remark) : Type 0 where
  pub check : Check
  pub there : slice_get (system_of p).checks number ≡ Some check
  pub are : AreStepsOfCheck p (system_of p) check steps

-- of the program of a tree that meets every rule
pub record AreStepsOfTree (number : ℕ) (tree : Source) (steps : List Remark) : Type 0 where
  pub source : Source
  pub meets : resolved_of tree ≡ Ok source
  pub are : AreStepsOfForm number (normal_form source) steps

-- of a text
pub record AreStepsOfText (number : ℕ) (bytes : List ℕ) (steps : List Remark) : Type 0 where
  pub tree : Source
  pub parsed : IsParse bytes (Ok tree)
  pub are : AreStepsOfTree number tree steps

-- none, or the steps of a way by which the check of the text's program with this number fails
abbrev pub AreFlowSteps : (bytes : List ℕ) → (number : ℕ) → List Remark → Type 0
AreFlowSteps bytes number steps = (steps ≡ []) ⊎ AreStepsOfText number bytes steps
