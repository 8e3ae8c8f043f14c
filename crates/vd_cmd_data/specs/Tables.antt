-- The words of a table: of each row below the header the cells of the columns that are asked for.
use Rattle.std.specs.Prelude.{◌≡◌, ℕ, ◌+◌, ◌-◌, ◌*◌, ◌/◌, ◌==◌, Bool, ◌||◌, ◌&&◌, not, List, [], ◌∷◌, Option, Some, None, Result, Ok, Err, length, take, drop, nat_eq, nat_le, unwrap_or, if◌then◌else◌}
use Rattle.std.specs.List.{fold, prefix_len}
use Rattle.std.specs.Str.{bytes_eq}
use Rattle.csv.specs.Reading.{default_config, records, strip_bom}
use Rattle.csv.specs.Records.{field_at}
use Rattle.vd_base.specs.Lexical.{number_of}
use Rattle.vd_base.specs.Limits.{most_input_words}
use Rattle.vd_cmd_plan.specs.declared.status.Status.{Status}
use Rattle.vd_cmd_plan.specs.declared.status.Status.TheVariants.{Memory, Table}
use Rattle.vd_cmd_plan.specs.declared.status.TableFault.{TableFault}
use Rattle.vd_cmd_plan.specs.declared.status.TableFault.TheVariants.{EmptyLine, Length, Many, NoColumn, NoHeader}
use Rattle.vd_cmd_data.specs.declared.asked.Column.{Column}
use Rattle.vd_cmd_data.specs.declared.lines.LineScan.{LineScan}
use Rattle.vd_cmd_data.specs.Cells.{cell_word}

-- a table is refused by its place and fault, or there was no memory for that
abbrev pub IsRefusalAt : (file : List ℕ) → (row column : ℕ) → TableFault → Status → Type 0
IsRefusalAt file row column fault Memory = Unit {0}
IsRefusalAt file row column fault status = status ≡ Table file row column fault

-- ---- in turn, with the number of each

abbrev pub before_all : {B : Type 0} → Result B Status → Result (List B) Status → Result (List B) Status
before_all (Ok b) (Ok bs) = Ok (b ∷ bs)
before_all (Ok b) (Err status) = Err status
before_all (Err status) rest = Err status

-- what each comes to, or the first refusal
unfoldable pub each_from : {A B : Type 0} → (ℕ → A → Result B Status) → ℕ → List A → Result (List B) Status
each_from f number [] = Ok []
each_from f number (a ∷ more) = before_all (f number a) (each_from f (number + 1) more)

abbrev pub then_with : {A B : Type 0} → Result A Status → (A → Result B Status) → Result B Status
then_with (Ok a) next = next a
then_with (Err status) next = Err status

-- ---- the columns that are asked for

abbrev pub is_plain : ℕ → Bool
is_plain byte = not (nat_eq byte 42)

-- the factor that a text is, from 1 on
abbrev pub factor_in : Option ℕ → Option ℕ
factor_in None = None
factor_in (Some factor) = if nat_eq factor 0 then None else Some factor

abbrev pub asked_with : (word : List ℕ) → Option ℕ → List ℕ × ℕ
asked_with word None = (word, 1)
asked_with word (Some factor) = (take (prefix_len is_plain word) word, factor)

-- the name and the factor: what stands before the first `*` and behind it, where that is a factor, and else the whole word and 1
abbrev pub asked : (word : List ℕ) → List ℕ × ℕ
asked word =
    if prefix_len is_plain word == length word then (word, 1)
    else asked_with word (factor_in (number_of (drop (prefix_len is_plain word + 1) word)))

-- the first cell with this name, where the first of these cells has this place
unfoldable pub place_from : (name : List ℕ) → (place : ℕ) → (cells : List (List ℕ)) → Option ℕ
place_from name place [] = None
place_from name place (cell ∷ more) = if bytes_eq name cell then Some place else place_from name (place + 1) more

abbrev pub column_at : (file : List ℕ) → (number factor : ℕ) → Option ℕ → Result Column Status
column_at file number factor (Some place) = Ok (record { number = place + 1; factor = factor })
column_at file number factor None = Err (Table file 1 number NoColumn)

-- the first cell of the header that has the name
abbrev pub column_of : (file : List ℕ) → (header : List (List ℕ)) → (number : ℕ) → (word : List ℕ) → Result Column Status
column_of file header number word = column_at file number (asked word).1 (place_from (asked word).0 0 header)

-- ---- the words of the rows

abbrev pub as_word : (file : List ℕ) → (row column : ℕ) → Result ℕ TableFault → Result ℕ Status
as_word file row column (Ok word) = Ok word
as_word file row column (Err fault) = Err (Table file row column fault)

abbrev pub cell_of : (cells : List (List ℕ)) → (place : ℕ) → List ℕ
cell_of cells place = unwrap_or (field_at cells place) []

abbrev pub word_at : (file : List ℕ) → (row : ℕ) → (cells : List (List ℕ)) → Column → Result ℕ Status
word_at file row cells column = as_word file row column.number (cell_word column.factor (cell_of cells (column.number - 1)))

-- the words of a row, which has as many cells as the header
abbrev pub row_words : (file : List ℕ) → (columns : List Column) → (width number : ℕ) → (cells : List (List ℕ)) → Result (List ℕ) Status
row_words file columns width number cells =
    if length cells == width then each_from (λ _ column. word_at file number cells column) 1 columns else Err (Table file number 1 Length)

-- so many rows of so many words are no more than a section may have
abbrev pub counted_words : (file : List ℕ) → (columns : List Column) → (width : ℕ) → (rows : List (List (List ℕ))) → Result (List (List ℕ)) Status
counted_words file columns width rows =
    if nat_le (length rows * length columns) most_input_words then each_from (row_words file columns width) 2 rows
    else Err (Table file (most_input_words / length columns + 2) 1 Many)

abbrev pub words_of : (file : List ℕ) → (words : List (List ℕ)) → (records : List (List (List ℕ))) → Result (List (List ℕ)) Status
words_of file words [] = Err (Table file 1 1 NoHeader)
words_of file words (header ∷ rows) =
    then_with (each_from (column_of file header) 1 words) (λ columns. counted_words file columns (length header) rows)

-- ---- empty lines, which a reader of tables passes over

abbrev pub is_break : ℕ → Bool
is_break byte = nat_eq byte 13 || nat_eq byte 10

-- a byte that ends a line, where the byte before it does not end the same one
abbrev pub ends_line : (before byte : ℕ) → Bool
ends_line before byte = is_break byte && not (nat_eq before 13 && nat_eq byte 10)

abbrev pub first_of : Option ℕ → Option ℕ → Option ℕ
first_of (Some line) other = Some line
first_of None other = other

-- a line is empty where a line ends right behind the end of another; that counts once something stands behind it
abbrev pub after_byte : LineScan → (byte : ℕ) → LineScan
after_byte scan byte =
    if ends_line scan.before byte
    then record { before = byte; line = scan.line + 1; first = if is_break scan.before then first_of scan.first (Some scan.line) else scan.first; empty = scan.empty }
    else record { before = byte; line = scan.line; first = scan.first; empty = if is_break byte then scan.empty else first_of scan.empty scan.first }

abbrev pub scan_start : LineScan
scan_start = record { before = 10; line = 1; first = None; empty = None }

-- the first line that is empty and has others behind it
abbrev pub empty_line : List ℕ → Option ℕ
empty_line text = (fold after_byte scan_start text).empty

abbrev pub refused_line : (file : List ℕ) → Option ℕ → Result (List (List ℕ)) Status → Result (List (List ℕ)) Status
refused_line file (Some line) result = Err (Table file line 1 EmptyLine)
refused_line file None result = result

-- the words of the rows of a CSV text, or the first fault of it
abbrev pub table_words : (file : List ℕ) → (words : List (List ℕ)) → (bytes : List ℕ) → Result (List (List ℕ)) Status
table_words file words bytes =
    refused_line file (empty_line (strip_bom bytes)) (words_of file words (records default_config (strip_bom bytes)))
