-- What the rows of a drawing say.
use Rattle.std.specs.Prelude.{ℕ, if◌then◌else◌, List, [], ◌++◌, map, slice_get, decimal, codes}
use Rattle.std.specs.Option.{option_map_or}
use Rattle.std.specs.Str.{bytes_eq}
use Rattle.vd_base.specs.declared.ids.SlotId.{SlotId}
use Rattle.vd_base.specs.declared.ids.HostId.{HostId}
use Rattle.vd_base.specs.declared.operations.Op.{Op}
use Rattle.vd_base.specs.declared.operations.Op.TheVariants as op
use Rattle.vd_core.specs.declared.normal.Right.{Right}
use Rattle.vd_core.specs.declared.normal.Right.TheVariants.{Lit, Turn, Copy, Apply, Input, Declassify, Endorse, Load, Get}
use Rattle.vd_core.specs.declared.normal.Slot.{Slot}
use Rattle.vd_report.specs.ChoiceLines.{host_name}
use Rattle.vd_report.specs.LabelLines.{joined}

-- the name that the source gives a slot
abbrev pub written_name : List Slot → SlotId → List ℕ
written_name slots s = option_map_or (λ (slot : Slot). slot.name) (slice_get slots s.0) (codes "_")

-- the name of a slot: its number where the source gives none
abbrev pub slot_name : List Slot → SlotId → List ℕ
slot_name slots s = if bytes_eq (written_name slots s) (codes "_") then codes "#" ++ decimal s.0 else written_name slots s

-- what stands before the operands of an operation, between two of them, and behind them
abbrev pub before : Op → List ℕ
before op.Not = codes "~"
before op.Flip = codes "!"
before op.Min = codes "min("
before op.Max = codes "max("
before op.Mux = codes "mux("
before o = []

abbrev pub between : Op → List ℕ
between op.Add = codes " + "
between op.Sub = codes " - "
between op.Mul = codes " * "
between op.Div = codes " / "
between op.Rem = codes " % "
between op.And = codes " & "
between op.Or = codes " | "
between op.Xor = codes " ^ "
between op.Eq = codes " == "
between op.Ne = codes " != "
between op.Lt = codes " < "
between op.Le = codes " <= "
between o = codes ", "

abbrev pub behind : Op → List ℕ
behind (op.Scale factor) = codes " * " ++ decimal factor
behind (op.Shl bits) = codes " << " ++ decimal bits
behind (op.Shr bits) = codes " >> " ++ decimal bits
behind op.Min = codes ")"
behind op.Max = codes ")"
behind op.Mux = codes ")"
behind o = []

abbrev pub number_text : ℕ → List ℕ
number_text n = decimal n

-- an operation on slots
abbrev pub applied_text : List Slot → Op → List SlotId → List ℕ
applied_text slots o ys = before o ++ joined (between o) (map (slot_name slots) ys) ++ behind o

-- an element of an array
abbrev pub element_text : List Slot → SlotId → SlotId → List ℕ
element_text slots v i = slot_name slots v ++ codes "[" ++ slot_name slots i ++ codes "]"

abbrev pub input_text : List (List ℕ) → HostId → List ℕ
input_text hosts h = codes "input(" ++ host_name hosts h ++ codes ")"

unfoldable pub declassify_word : List ℕ
declassify_word = codes "declassify "

abbrev pub right_text : List (List ℕ) → List Slot → Right → List ℕ
right_text hosts slots (Lit n) = number_text n
right_text hosts slots Turn = codes "turn"
right_text hosts slots (Copy y) = slot_name slots y
right_text hosts slots (Apply o ys) = applied_text slots o ys
right_text hosts slots (Input h) = input_text hosts h
right_text hosts slots (Declassify y to) = declassify_word ++ slot_name slots y
right_text hosts slots (Endorse y to) = codes "endorse " ++ slot_name slots y
right_text hosts slots (Load v) = slot_name slots v
right_text hosts slots (Get v i) = element_text slots v i

-- ---- statements

abbrev pub binding_text : List (List ℕ) → List Slot → SlotId → Right → List ℕ
binding_text hosts slots x right = slot_name slots x ++ codes " = " ++ right_text hosts slots right

abbrev pub variable_text : List Slot → SlotId → SlotId → List ℕ
variable_text slots v y = codes "var " ++ slot_name slots v ++ codes " := " ++ slot_name slots y

abbrev pub array_text : List Slot → SlotId → ℕ → List ℕ
array_text slots v cells = codes "array " ++ slot_name slots v ++ codes "[" ++ number_text cells ++ codes "]"

abbrev pub store_text : List Slot → SlotId → SlotId → List ℕ
store_text slots v y = slot_name slots v ++ codes " := " ++ slot_name slots y

abbrev pub put_text : List Slot → SlotId → SlotId → SlotId → List ℕ
put_text slots v i y = element_text slots v i ++ codes " := " ++ slot_name slots y

abbrev pub output_text : List (List ℕ) → List Slot → SlotId → HostId → List ℕ
output_text hosts slots y h = codes "output " ++ slot_name slots y ++ codes " to " ++ host_name hosts h

abbrev pub branch_text : List Slot → SlotId → List ℕ
branch_text slots g = codes "if " ++ slot_name slots g

abbrev pub loop_text : ℕ → List ℕ
loop_text count = number_text count ++ codes " times"
