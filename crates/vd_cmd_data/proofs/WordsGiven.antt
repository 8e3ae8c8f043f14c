-- The rows that a table gives are words, and no more than a section may have.
use Rattle.std.proofs.Common.{◌≡◌, ℕ, suc, ◌+◌, ◌-◌, ◌*◌, ◌/◌, ◌%◌, ◌<◌, ◌≤◌, ◌^◌, ◌==◌, Bool, true, false, ◌&&◌, not, nat_eq, nat_le, nat_lt, if◌then◌else◌, List, [], ◌∷◌, ◌++◌, Option, Some, None, Result, Ok, Err, length, take, drop, refl, sym, subst, arith, length-append, true≢false}
use Rattle.std.specs.List.{prefix_len}
use Rattle.std.proofs.lemmas.Bool.{leb-true, ltb-true}
use Rattle.csv.specs.Reading.{default_config, records, strip_bom}
use Rattle.vd_base.specs.Lexical.{is_digit}
use Rattle.vd_base.specs.Limits.{most_input_words}
use Rattle.vd_base.specs.Words.{AreWords}
use Rattle.vd_cmd_plan.specs.declared.status.Status.{Status}
use Rattle.vd_cmd_plan.specs.declared.status.Status.TheVariants.{Table}
use Rattle.vd_cmd_plan.specs.declared.status.TableFault.{TableFault}
use Rattle.vd_cmd_plan.specs.declared.status.TableFault.TheVariants.{Fraction, Large, Length, Many, NoNumber, Sign}
use Rattle.vd_cmd_data.specs.declared.asked.Column.{Column}
use Rattle.vd_cmd_data.specs.Cells.{are_digits, cell_word, is_sign, number_word, power_of_ten, scaled, scaled_by, unsigned_word, value_in}
use Rattle.vd_report.specs.SectionLines.{words_in}
use Rattle.vd_cmd_data.specs.Tables.{as_word, before_all, cell_of, column_of, counted_words, each_from, empty_line, refused_line, row_words, table_words, then_with, word_at, words_of}

-- whatever value is given has this property
abbrev pub Gives : {B E : Type 0} → (B → Type 0) → Result B E → Type 0
Gives P (Ok b) = P b
Gives P (Err e) = Unit {0}

pub given : {B E : Type 0} (P : B → Type 0) (r : Result B E) (b : B) → Gives P r → r ≡ Ok b → P b
given P (Ok a) b gives is = subst (λ x. P x) (let same : a ≡ b = cc is in same) gives
given P (Err e) b gives is = absurd (cc is)

by_test : {B E : Type 0} (P : B → Type 0) (t : Bool) (r other : Result B E) → (t ≡ true → Gives P r) → (t ≡ false → Gives P other) → Gives P (if t then r else other)
by_test P true r other p q = p refl
by_test P false r other p q = q refl

abbrev IsWord : ℕ → Type 0
IsWord n = n < 2 ^ 32

-- ---- cells

is_less : (t : Bool) → not t ≡ false → t ≡ true
is_less true e = refl
is_less false e = absurd (true≢false e)

whole : (factor value scale : ℕ) → Gives IsWord (scaled factor value scale)
whole factor value scale =
    by_test IsWord (not (nat_lt value (2 ^ 32))) (Err Large) _ (λ e. tt)
    (λ e. by_test IsWord (not (nat_eq ((value * factor) % scale) 0)) (Err Fraction) _ (λ f. tt)
    (λ f. by_test IsWord (not (nat_lt ((value * factor) / scale) (2 ^ 32))) (Err Large) (Ok ((value * factor) / scale)) (λ g. tt)
    (λ g. ltb-true ((value * factor) / scale) (2 ^ 32) (is_less (nat_lt ((value * factor) / scale) (2 ^ 32)) g))))

with_decimals : (factor : ℕ) (value decimals scale : Option ℕ) → Gives IsWord (scaled_by factor value decimals scale)
with_decimals factor (Some value) (Some decimals) (Some scale) = whole factor (value * scale + decimals) scale
with_decimals factor (Some value) (Some decimals) None = tt
with_decimals factor (Some value) None scale = tt
with_decimals factor None decimals scale = tt

number : (factor : ℕ) (digits behind : List ℕ) → Gives IsWord (number_word factor digits behind)
number factor digits [] = with_decimals factor (value_in digits) (Some 0) (Some 1)
number factor digits (point ∷ decimals) =
    by_test IsWord (nat_eq point 46 && are_digits decimals) (scaled_by factor (value_in digits) (value_in decimals) (power_of_ten (length decimals))) (Err NoNumber)
    (λ e. with_decimals factor (value_in digits) (value_in decimals) (power_of_ten (length decimals))) (λ e. tt)

unsigned : (factor : ℕ) (cell : List ℕ) → Gives IsWord (unsigned_word factor cell)
unsigned factor cell =
    let n = prefix_len is_digit cell in
    by_test IsWord (nat_eq n 0) (Err NoNumber) (number_word factor (take n cell) (drop n cell)) (λ e. tt) (λ e. number factor (take n cell) (drop n cell))

a_word : (factor : ℕ) (cell : List ℕ) → Gives IsWord (cell_word factor cell)
a_word factor [] = tt
a_word factor (first ∷ rest) = by_test IsWord (is_sign first) (Err Sign) (unsigned_word factor (first ∷ rest)) (λ e. tt) (λ e. unsigned factor (first ∷ rest))

at_its_place : (file : List ℕ) (row column : ℕ) (r : Result ℕ TableFault) → Gives IsWord r → Gives IsWord (as_word file row column r)
at_its_place file row column (Ok w) p = p
at_its_place file row column (Err fault) p = tt

-- ---- rows

-- so many words
abbrev IsRow : ℕ → List ℕ → Type 0
IsRow n row = AreWords row × (length row ≡ n)

one_more : (n : ℕ) (r : Result ℕ Status) (rest : Result (List ℕ) Status) → Gives IsWord r → Gives (IsRow n) rest → Gives (IsRow (suc n)) (before_all r rest)
one_more n (Ok w) (Ok ws) p q = ((p, q.0), (let same = q.1 in omega (arith, same)))
one_more n (Ok w) (Err status) p q = tt
one_more n (Err status) rest p q = tt

each_word : (f : ℕ → Column → Result ℕ Status) → ((n : ℕ) (c : Column) → Gives IsWord (f n c)) → (n : ℕ) (columns : List Column) → Gives (IsRow (length columns)) (each_from f n columns)
unfolding each_from
each_word f all n [] = (tt, refl)
each_word f all n (c ∷ columns) =
    subst (λ (k : ℕ). Gives (IsRow k) (before_all (f n c) (each_from f (n + 1) columns))) (let same : suc (length columns) ≡ length (c ∷ columns) = omega arith in same)
    (one_more (length columns) (f n c) (each_from f (n + 1) columns) (all n c) (each_word f all (n + 1) columns))

a_row : (file : List ℕ) (columns : List Column) (width n : ℕ) (cells : List (List ℕ)) → Gives (IsRow (length columns)) (row_words file columns width n cells)
a_row file columns width n cells =
    by_test (IsRow (length columns)) (length cells == width) (each_from (λ _ column. word_at file n cells column) 1 columns) (Err (Table file n 1 Length))
    (λ e. each_word (λ _ column. word_at file n cells column)
    (λ k column. at_its_place file n column.number (cell_word column.factor (cell_of cells (column.number - 1))) (a_word column.factor (cell_of cells (column.number - 1)))) 1 columns) (λ e. tt)

-- so many rows of so many words each
abbrev AreRows : ℕ → ℕ → List (List ℕ) → Type 0
AreRows n columns rows = AreWords (words_in rows) × (length (words_in rows) ≡ n * columns)

joined : (xs ys : List ℕ) → AreWords xs → AreWords ys → AreWords (xs ++ ys)
joined [] ys p q = q
joined (x ∷ xs) ys p q = (p.0, joined xs ys p.1 q)

row_more : (n columns : ℕ) (r : Result (List ℕ) Status) (rest : Result (List (List ℕ)) Status) → Gives (IsRow columns) r → Gives (AreRows n columns) rest
    → Gives (AreRows (suc n) columns) (before_all r rest)
row_more n columns (Ok row) (Ok rows) p q =
    (joined row (words_in rows) p.0 q.0, (let one = p.1 in let others = q.1 in let both = length-append row (words_in rows) in omega (arith, one, others, both)))
row_more n columns (Ok row) (Err status) p q = tt
row_more n columns (Err status) rest p q = tt

each_row : (columns : ℕ) (f : ℕ → List (List ℕ) → Result (List ℕ) Status) → ((n : ℕ) (cells : List (List ℕ)) → Gives (IsRow columns) (f n cells)) → (n : ℕ) (rows : List (List (List ℕ)))
    → Gives (AreRows (length rows) columns) (each_from f n rows)
unfolding each_from
each_row columns f all n [] = (tt, (let none : 0 ≡ 0 * columns = omega arith in none))
each_row columns f all n (cells ∷ rows) =
    subst (λ (k : ℕ). Gives (AreRows k columns) (before_all (f n cells) (each_from f (n + 1) rows))) (let same : suc (length rows) ≡ length (cells ∷ rows) = omega arith in same)
    (row_more (length rows) columns (f n cells) (each_from f (n + 1) rows) (all n cells) (each_row columns f all (n + 1) rows))

-- ---- the table

-- words, and no more than a section may have
abbrev pub FitSection : List (List ℕ) → Type 0
FitSection rows = AreWords (words_in rows) × (length (words_in rows) ≤ most_input_words)

few_are : (n columns most : ℕ) (r : Result (List (List ℕ)) Status) → n * columns ≤ most → Gives (AreRows n columns) r → Gives (λ rows. AreWords (words_in rows) × (length (words_in rows) ≤ most)) r
few_are n columns most (Ok rows) few p = (p.0, subst (λ (k : ℕ). k ≤ most) (sym p.1) few)
few_are n columns most (Err status) few p = tt

counted : (file : List ℕ) (columns : List Column) (width : ℕ) (rows : List (List (List ℕ))) → Gives FitSection (counted_words file columns width rows)
counted file columns width rows =
    by_test FitSection (nat_le (length rows * length columns) most_input_words) (each_from (row_words file columns width) 2 rows) (Err (Table file (most_input_words / length columns + 2) 1 Many))
    (λ e. few_are (length rows) (length columns) most_input_words (each_from (row_words file columns width) 2 rows) (leb-true (length rows * length columns) most_input_words e)
    (each_row (length columns) (row_words file columns width) (a_row file columns width) 2 rows)) (λ e. tt)

with_columns : {A B : Type 0} (P : B → Type 0) (r : Result A Status) (next : A → Result B Status) → ((a : A) → Gives P (next a)) → Gives P (then_with r next)
with_columns P (Ok a) next all = all a
with_columns P (Err status) next all = tt

behind_header : (file : List ℕ) (words : List (List ℕ)) (rows : List (List (List ℕ))) → Gives FitSection (words_of file words rows)
behind_header file words [] = tt
behind_header file words (header ∷ rows) =
    with_columns FitSection (each_from (column_of file header) 1 words) (λ columns. counted_words file columns (length header) rows) (λ columns. counted file columns (length header) rows)

by_line : (file : List ℕ) (line : Option ℕ) (r : Result (List (List ℕ)) Status) → Gives FitSection r → Gives FitSection (refused_line file line r)
by_line file None r p = p
by_line file (Some line) r p = tt

pub rows_fit : (file : List ℕ) (words : List (List ℕ)) (bytes : List ℕ) (rows : List (List ℕ)) → table_words file words bytes ≡ Ok rows → FitSection rows
rows_fit file words bytes rows is =
    given FitSection (table_words file words bytes) rows
    (by_line file (empty_line (strip_bom bytes)) (words_of file words (records default_config (strip_bom bytes))) (behind_header file words (records default_config (strip_bom bytes)))) is
