-- Texts of a drawing.
use Rattle.std.specs.Prelude.{ℕ, ◌-◌, nat_le, if◌then◌else◌, List, [], ◌++◌, map, length, take, decimal, codes}
use Rattle.vd_base.specs.declared.ids.HostId.{HostId}
use Rattle.vd_base.specs.declared.protocols.Proto.{Proto}
use Rattle.vd_base.specs.declared.protocols.Proto.TheVariants.{Local, Rep, Commit, Add, Xor}
use Rattle.vd_formula.specs.declared.label.Label.{Label}
use Rattle.vd_report.specs.ChoiceLines.{host_name}
use Rattle.vd_draw_rows.specs.Lines.{is_printable}
use Rattle.vd_report.specs.LabelLines.{formula_text}
use Rattle.vd_draw_rows.specs.declared.row.Arrow.{Arrow}
use Rattle.vd_draw_rows.specs.declared.row.Arrow.TheVariants.{Clear, Checked, Opened, Revealed, Shared, Committed, Converted, Stays}

abbrev pub number_text : ℕ → List ℕ
number_text n = decimal n

-- of at most so many letters: a longer text is cut, and ends in dots
abbrev pub cut : ℕ → List ℕ → List ℕ
cut most text = if nat_le (length text) most then text else take (most - 3) text ++ codes "..."

-- what is no printable letter of ASCII is a blank
abbrev pub printable_byte : ℕ → ℕ
printable_byte b = if is_printable b then b else 32

abbrev pub printable : List ℕ → List ℕ
printable bytes = map printable_byte bytes

abbrev pub pair_name : List (List ℕ) → HostId → List ℕ → HostId → List ℕ
pair_name hosts a sign b = host_name hosts a ++ sign ++ host_name hosts b

-- the name of a protocol, as it stands above its lane
abbrev pub protocol_name : List (List ℕ) → Proto → List ℕ
protocol_name hosts (Local h) = host_name hosts h
protocol_name hosts (Rep set) = codes "copies"
protocol_name hosts (Commit p v) = pair_name hosts p (codes " > ") v
protocol_name hosts (Add a b) = pair_name hosts a (codes " + ") b
protocol_name hosts (Xor a b) = pair_name hosts a (codes " ^ ") b

-- what stands below that
abbrev pub protocol_kind : Proto → List ℕ
protocol_kind (Local h) = []
protocol_kind (Rep set) = []
protocol_kind (Commit p v) = codes "committed"
protocol_kind (Add a b) = codes "sums"
protocol_kind (Xor a b) = codes "bits"

-- what leaves a host
abbrev pub arrow_text : Arrow → List ℕ
arrow_text Clear = codes "in clear"
arrow_text Checked = codes "in clear from each copy"
arrow_text Opened = codes "opened"
arrow_text Revealed = codes "revealed"
arrow_text Shared = codes "shared"
arrow_text Committed = codes "committed"
arrow_text Converted = codes "converted"
arrow_text Stays = codes "there already"

-- as `labels` prints it
abbrev pub label_text : List (List ℕ) → Label → List ℕ
label_text principals label = codes "{" ++ formula_text principals label.conf ++ codes " ; " ++ formula_text principals label.integ ++ codes "}"
