-- A table is refused as a table, and as nothing else.
use Rattle.std.proofs.Common.{◌≡◌, ℕ, ◌+◌, ◌-◌, Bool, true, false, List, [], ◌∷◌, Option, Some, None, Result, Ok, Err, length, refl, sym, ◌∙◌, nat_le, if◌then◌else◌, ◌==◌, ◌*◌, ◌/◌}
use Rattle.csv.specs.Reading.{default_config, records, strip_bom}
use Rattle.vd_base.specs.Limits.{most_input_words}
use Rattle.vd_cmd_plan.specs.declared.status.Status.{Status}
use Rattle.vd_cmd_plan.specs.declared.status.Status.TheVariants.{Ended, Table}
use Rattle.vd_cmd_plan.specs.declared.status.TableFault.{TableFault}
use Rattle.vd_cmd_plan.specs.declared.status.TableFault.TheVariants.{EmptyLine, Length, Many}
use Rattle.vd_cmd_data.specs.declared.asked.Column.{Column}
use Rattle.vd_cmd_data.specs.Cells.{cell_word}
use Rattle.vd_cmd_data.specs.Tables.{as_word, asked, before_all, cell_of, column_at, column_of, counted_words, each_from, empty_line, place_from, refused_line, row_words, table_words, then_with, word_at, words_of}

-- a value, or a refusal that is no good end
abbrev pub Refuses : {B : Type 0} → Result B Status → Type 0
Refuses (Ok b) = Unit {0}
Refuses (Err status) = status ≡ Ended → ⊥

both : {B : Type 0} (r : Result B Status) (rest : Result (List B) Status) → Refuses r → Refuses rest → Refuses (before_all r rest)
both (Ok b) (Ok bs) p q = tt
both (Ok b) (Err status) p q = q
both (Err status) rest p q = p

pub each : {A B : Type 0} (f : ℕ → A → Result B Status) → ((n : ℕ) (a : A) → Refuses (f n a)) → (n : ℕ) (list : List A) → Refuses (each_from f n list)
unfolding each_from
each f all n [] = tt
each f all n (a ∷ more) = both (f n a) (each_from f (n + 1) more) (all n a) (each f all (n + 1) more)

word : (file : List ℕ) (row column : ℕ) (r : Result ℕ TableFault) → Refuses (as_word file row column r)
word file row column (Ok w) = tt
word file row column (Err fault) = λ e. cc e

place : (file : List ℕ) (number factor : ℕ) (o : Option ℕ) → Refuses (column_at file number factor o)
place file number factor (Some p) = tt
place file number factor None = λ e. cc e

pub by_test : {B : Type 0} (t : Bool) (r other : Result B Status) → Refuses r → Refuses other → Refuses (if t then r else other)
by_test true r other p q = p
by_test false r other p q = q

row : (file : List ℕ) (columns : List Column) (width number : ℕ) (cells : List (List ℕ)) → Refuses (row_words file columns width number cells)
row file columns width number cells =
    by_test (length cells == width) (each_from (λ _ column. word_at file number cells column) 1 columns) (Err (Table file number 1 Length))
    (each (λ _ column. word_at file number cells column) (λ n column. word file number column.number (cell_word column.factor (cell_of cells (column.number - 1)))) 1 columns) (λ e. cc e)

counted : (file : List ℕ) (columns : List Column) (width : ℕ) (rows : List (List (List ℕ))) → Refuses (counted_words file columns width rows)
counted file columns width rows =
    by_test (nat_le (length rows * length columns) most_input_words) (each_from (row_words file columns width) 2 rows) (Err (Table file (most_input_words / length columns + 2) 1 Many))
    (each (row_words file columns width) (row file columns width) 2 rows) (λ e. cc e)

pub go_on : {A B : Type 0} (r : Result A Status) (next : A → Result B Status) → Refuses r → ((a : A) → Refuses (next a)) → Refuses (then_with r next)
go_on (Ok a) next p all = all a
go_on (Err status) next p all = p

all_words : (file : List ℕ) (words : List (List ℕ)) (rows : List (List (List ℕ))) → Refuses (words_of file words rows)
all_words file words [] = λ e. cc e
all_words file words (header ∷ rows) =
    go_on {A = List Column} {B = List (List ℕ)} (each_from (column_of file header) 1 words) (λ columns. counted_words file columns (length header) rows)
    (each (column_of file header) (λ n w. place file n (asked w).1 (place_from (asked w).0 0 header)) 1 words)
    (λ columns. counted file columns (length header) rows)

by_line : (file : List ℕ) (line : Option ℕ) (r : Result (List (List ℕ)) Status) → Refuses r → Refuses (refused_line file line r)
by_line file None r p = p
by_line file (Some line) r p = λ e. cc e

pub as_refusal : {B : Type 0} (r : Result B Status) (status : Status) → Refuses r → r ≡ Err status → status ≡ Ended → ⊥
as_refusal (Ok b) status p is = absurd (cc is)
as_refusal (Err other) status p is = λ e. p (let same : other ≡ status = cc is in same ∙ e)

pub never_ended : (file : List ℕ) (words : List (List ℕ)) (bytes : List ℕ) (status : Status) → table_words file words bytes ≡ Err status → status ≡ Ended → ⊥
never_ended file words bytes status is =
    as_refusal (table_words file words bytes) status
    (by_line file (empty_line (strip_bom bytes)) (words_of file words (records default_config (strip_bom bytes))) (all_words file words (records default_config (strip_bom bytes)))) is
