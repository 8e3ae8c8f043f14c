-- The lines that tell where the slots of a program stand, as bytes.
use Rattle.std.specs.Prelude.{ℕ, ◌+◌, List, [], ◌∷◌, ◌++◌, slice_index_or, decimal, codes}
use Rattle.vd_base.specs.declared.ids.HostId.{HostId}
use Rattle.vd_base.specs.declared.protocols.Proto.{Proto}
use Rattle.vd_base.specs.declared.protocols.Proto.TheVariants.{Local, Rep, Commit, Add, Xor}
use Rattle.vd_core.specs.declared.normal.NormalForm.{NormalForm}
use Rattle.vd_core.specs.declared.normal.Slot.{Slot}
use Rattle.vd_report.specs.LabelLines.{joined, members}

abbrev pub host_name : List (List ℕ) → HostId → List ℕ
host_name hosts host = slice_index_or hosts host.0 []

abbrev pub pair_text : List (List ℕ) → List ℕ → HostId → HostId → List ℕ
pair_text hosts word first second = word ++ host_name hosts first ++ codes "," ++ host_name hosts second

-- its word and the names of its hosts; those of a copy in their order
abbrev pub protocol_text : List (List ℕ) → Proto → List ℕ
protocol_text hosts (Local host) = codes "Local(" ++ host_name hosts host ++ codes ")"
protocol_text hosts (Rep set) = codes "Rep(" ++ joined (codes ",") (members 0 hosts set.bits) ++ codes ")"
protocol_text hosts (Commit prover verifier) = pair_text hosts (codes "Commit(") prover verifier ++ codes ")"
protocol_text hosts (Add first second) = pair_text hosts (codes "Add(") first second ++ codes ")"
protocol_text hosts (Xor first second) = pair_text hosts (codes "Xor(") first second ++ codes ")"

-- a slot's number, its name and its protocol
abbrev pub choice_line : List (List ℕ) → ℕ → Slot → Proto → List ℕ
choice_line hosts number slot protocol = decimal number ++ codes " " ++ slot.name ++ codes " " ++ protocol_text hosts protocol ++ codes "\n"

-- a line for each slot, the first of which has this number
abbrev pub slot_lines : List (List ℕ) → ℕ → List Slot → List Proto → List ℕ
slot_lines hosts number [] protocols = []
slot_lines hosts number (slot ∷ slots) [] = []
slot_lines hosts number (slot ∷ slots) (protocol ∷ protocols) = choice_line hosts number slot protocol ++ slot_lines hosts (number + 1) slots protocols

abbrev pub cost_line : ℕ → List ℕ
cost_line cost = codes "cost " ++ decimal cost ++ codes "\n"

-- where each slot of the program stands, and then the cost
abbrev pub choice_lines : NormalForm → List Proto → ℕ → List ℕ
choice_lines program assignment cost = slot_lines program.hosts 0 program.slots assignment ++ cost_line cost
