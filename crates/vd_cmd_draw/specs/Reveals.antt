-- The lines of `reveals`: which words come to a host in clear. They are the moves of the rows of the drawing that tell the host a word.
use Rattle.std.specs.Prelude.{ℕ, nat_lt, Bool, true, if◌then◌else◌, Option, Some, List, [], ◌∷◌, ◌++◌, slice_get, codes}
use Rattle.std.specs.List.{flat_map}
use Rattle.std.specs.Option.{option_map_or}
use Rattle.vd_base.specs.declared.ids.HostId.{HostId}
use Rattle.vd_base.specs.declared.ids.SlotId.{SlotId}
use Rattle.vd_base.specs.declared.protocols.Proto.{Proto}
use Rattle.vd_core.specs.declared.normal.NormalForm.{NormalForm}
use Rattle.vd_core.specs.declared.normal.Slot.{Slot}
use Rattle.vd_report.specs.ChoiceLines.{host_name, protocol_text}
use Rattle.vd_report.specs.Lines.{number_field}
use Rattle.vd_diag.specs.Excerpts.{spot}
use Rattle.vd_draw_rows.specs.declared.row.Kind.{Kind}
use Rattle.vd_draw_rows.specs.declared.row.Kind.TheVariants as kind
use Rattle.vd_draw_rows.specs.declared.row.Move.{Move}
use Rattle.vd_draw_rows.specs.declared.row.Row.{Row}
use Rattle.vd_draw_rows.specs.Moves.{is_told}
use Rattle.vd_draw_rows.specs.Rows.{rows_of}
use Rattle.vd_draw_rows.specs.Texts.{slot_name}
use Rattle.vd_draw_rows.specs.Wire.{is_branch, is_seen_on_the_way}
use Rattle.vd_cmd_draw.specs.declared.reveals_lines.Branch.{Branch}

-- ---- the branches in which a row stands, the outermost first

abbrev pub kept_at : ℕ → Branch → List Branch
kept_at depth branch = if nat_lt branch.depth depth then branch ∷ [] else []

-- a row ends those that do not stand in fewer blocks than it
abbrev pub still_open : ℕ → List Branch → List Branch
still_open depth branches = flat_map (kept_at depth) branches

abbrev pub begun_by : (depth : ℕ) → Kind → Option ℕ → List Branch
begun_by depth kind.Branch (Some offset) = record { depth = depth; offset = offset } ∷ []
begun_by depth other offset = []

-- what a row begins
abbrev pub begun : Row → List Branch
begun row = begun_by row.depth row.kind row.offset

-- ---- as what a word is told

abbrev pub index_text : Bool → List Move → List ℕ
index_text true (m ∷ rest) = codes " index"
index_text indexed rest = []

-- a guard, which who is on the way sees too where hosts send in its branch
abbrev pub guard_text : (seen : Bool) → List ℕ
guard_text seen = if seen then codes " guard seen on the way" else codes " guard"

abbrev pub role_text : Row → (seen : Bool) → List Move → List ℕ
role_text row seen rest = if is_branch row.kind then guard_text seen else index_text row.indexed rest

-- `LINE:COLUMN` of the statement that makes a slot
abbrev pub slot_spot : (source : List ℕ) → List Slot → SlotId → List ℕ
slot_spot source slots s = option_map_or (λ (slot : Slot). spot source slot.offset) (slice_get slots s.0) []

-- ` if LINE:COLUMN`
abbrev pub branch_text : (source : List ℕ) → Branch → List ℕ
branch_text source branch = codes " if " ++ spot source branch.offset

abbrev pub branches_text : (source : List ℕ) → List Branch → List ℕ
branches_text source around = flat_map (branch_text source) around

-- how often at most, as what, in which branches, and for what
abbrev pub reason_text : (inside : List ℕ) → Row → (seen : Bool) → List Move → List ℕ
reason_text inside row seen rest = number_field row.weight ++ role_text row seen rest ++ inside ++ codes ": " ++ row.text ++ codes "\n"

module _ (source : List ℕ) (p : NormalForm) (h : HostId) where
  -- `HOST LINE:COLUMN NAME FROM`
  abbrev pub word_text : Move → List ℕ
  word_text m =
      host_name p.hosts h ++ codes " " ++ slot_spot source p.slots m.slot ++ codes " " ++ slot_name p.slots m.slot ++ codes " " ++ protocol_text p.hosts m.from

  -- a line for a move that tells the host a word
  abbrev pub move_line : (inside : List ℕ) → Row → (seen : Bool) → Move → List Move → List ℕ
  move_line inside row seen m rest = if is_told h m.from m.to then word_text m ++ reason_text inside row seen rest else []

  abbrev pub moves_lines : List Branch → Row → (seen : Bool) → List Move → List ℕ
  moves_lines around row seen [] = []
  moves_lines around row seen (m ∷ rest) = move_line (branches_text source around) row seen m rest ++ moves_lines around row seen rest

  -- of rows in order, where these branches have begun
  abbrev pub rows_lines : List Branch → List Row → List ℕ
  rows_lines begun_before [] = []
  rows_lines begun_before (row ∷ rows) =
      moves_lines (still_open row.depth begun_before) row (is_seen_on_the_way row rows) row.moves
      ++ rows_lines (still_open row.depth begun_before ++ begun row) rows

-- of these hosts, one after another
abbrev pub reveals_text : (source : List ℕ) → NormalForm → List Proto → List HostId → List ℕ
reveals_text source p protocols hosts = flat_map (λ h. rows_lines source p h [] (rows_of source p protocols)) hosts
