-- How a certificate is read from the front: each step gives what it read with the bytes that are left, or the bytes at which it stops.
use Rattle.std.specs.Prelude.{ℕ, zero, suc, ◌+◌, ◌*◌, ◌-◌, ◌==◌, Bool, true, false, ◌&&◌, nat_le, nat_lt, if◌then◌else◌, Option, Some, None, Result, Ok, Err, List, [], ◌∷◌, ◌++◌, codes}
use Rattle.std.specs.Option.{option_map_or}
use Rattle.vd_base.specs.Lexical.{is_digit}
use Rattle.vd_base.specs.Limits.{most_certificate_shifts}
use Rattle.vd_search_tree.specs.declared.shift.Shift.{Shift}
use Rattle.vd_search_tree.specs.declared.search_certificate.certificate.Mark.{Mark}
use Rattle.vd_search_tree.specs.declared.search_certificate.certificate.Mark.TheVariants.{Expanded, Violated, Bounded, Best}
use Rattle.vd_search_tree.specs.declared.search_certificate.certificate.Certificate.{Certificate}
use Rattle.vd_search_tree.specs.Texts.{newline, blank, most_number}

abbrev pub Scanned : Type 0
Scanned = Result Certificate (List ℕ)

abbrev pub Scanner : Type 0
Scanner = List ℕ → Scanned

-- ---- a word

abbrev pub word : List ℕ → List ℕ → Result (List ℕ) (List ℕ)
word [] bytes = Ok bytes
word (w ∷ ws) [] = Err []
word (w ∷ ws) (b ∷ bytes) = if b == w then word ws bytes else Err (b ∷ bytes)

abbrev pub after_word : Result (List ℕ) (List ℕ) → Scanner → Scanned
after_word (Ok rest) next = next rest
after_word (Err rest) next = Err rest

-- ---- a number in a range, and the byte that ends it

abbrev pub number_if : Bool → ℕ → Option ℕ
number_if test n = if test then Some n else None

abbrev pub first_digit : ℕ → ℕ → ℕ → Option ℕ
first_digit least most b = number_if (is_digit b && nat_le least (b - 48) && nat_le (b - 48) most) (b - 48)

abbrev pub with_digit : ℕ → ℕ → ℕ → Option ℕ
with_digit most n b = number_if (is_digit b && nat_lt 0 n && nat_le (n * 10 + (b - 48)) most) (n * 10 + (b - 48))

abbrev pub Read : Type 0
Read = Result (ℕ × List ℕ) (List ℕ)

abbrev pub read_to : ℕ → List ℕ → Read
read_to n rest = Ok (n, rest)

abbrev pub stops_at : List ℕ → Read
stops_at rest = Err rest

abbrev pub digits_after : ℕ → ℕ → ℕ → List ℕ → Read
digits_after most end n [] = stops_at []
digits_after most end n (b ∷ bytes) =
    if b == end then read_to n bytes else option_map_or (λ m. digits_after most end m bytes) (with_digit most n b) (stops_at (b ∷ bytes))

abbrev pub number : ℕ → ℕ → ℕ → List ℕ → Read
number least most end [] = stops_at []
number least most end (b ∷ bytes) = option_map_or (λ n. digits_after most end n bytes) (first_digit least most b) (stops_at (b ∷ bytes))

abbrev pub after_number : Read → (ℕ → Scanner) → Scanned
after_number (Ok read) next = next read.0 read.1
after_number (Err rest) next = Err rest

-- ---- one of two bytes, or of three

abbrev pub choice : ℕ → Scanner → ℕ → Scanner → Scanner
choice b first c second [] = Err []
choice b first c second (d ∷ bytes) = if d == b then first bytes else if d == c then second bytes else Err (d ∷ bytes)

abbrev pub choice_of_three : ℕ → Scanner → ℕ → Scanner → ℕ → Scanner → Scanner
choice_of_three b first c second e third [] = Err []
choice_of_three b first c second e third (d ∷ bytes) =
    if d == b then first bytes else if d == c then second bytes else if d == e then third bytes else Err (d ∷ bytes)

-- ---- shifts

abbrev pub make_shift : ℕ → ℕ → ℕ → Bool → ℕ → Shift
make_shift at side proto add amount = record { at = at; side = side; proto = proto; add = add; amount = amount }

abbrev pub scan_amount : ℕ → ℕ → ℕ → Bool → (Shift → Scanner) → Scanner
scan_amount at side proto add next bytes =
    after_word (word (blank ∷ []) bytes)
    (λ rest. after_number (number 1 most_number newline rest) (λ amount. next (make_shift at side proto add amount)))

abbrev pub scan_sign : ℕ → ℕ → ℕ → (Shift → Scanner) → Scanner
scan_sign at side proto next = choice 43 (scan_amount at side proto true next) 45 (scan_amount at side proto false next)

abbrev pub scan_shift : (Shift → Scanner) → Scanner
scan_shift next bytes =
    after_number (number 0 most_number blank bytes) (λ at rest.
    after_number (number 0 1 blank rest) (λ side more.
    after_number (number 0 255 blank more) (λ proto. scan_sign at side proto next)))

abbrev pub scan_shifts : ℕ → List Shift → (List Shift → Scanner) → Scanner
scan_shifts zero shifts next bytes = next shifts bytes
scan_shifts (suc n) shifts next bytes = scan_shift (λ shift. scan_shifts n (shifts ++ shift ∷ []) next) bytes

-- ---- marks, to the end

abbrev pub mark_of : ℕ → Option Mark
mark_of b =
    if b == 69 then Some Expanded else if b == 86 then Some Violated else if b == 66 then Some Bounded else if b == 76 then Some Best
    else None

abbrev pub certificate : Option ℕ → Bool → List Shift → List Mark → Certificate
certificate cost by_arcs shifts marks = record { cost = cost; by_arcs = by_arcs; shifts = shifts; marks = marks }

abbrev pub at_end : Certificate → Scanner
at_end c [] = Ok c
at_end c (b ∷ bytes) = Err (b ∷ bytes)

abbrev pub scan_marks : Option ℕ → Bool → List Shift → List Mark → Scanner
scan_marks cost by_arcs shifts marks [] = Err []
scan_marks cost by_arcs shifts marks (b ∷ bytes) =
    if b == newline then at_end (certificate cost by_arcs shifts marks) bytes
    else option_map_or (λ mark. scan_marks cost by_arcs shifts (marks ++ mark ∷ []) bytes) (mark_of b) (Err (b ∷ bytes))

-- ---- the whole

abbrev pub scan_cost : (ℕ → Scanner) → Scanner
scan_cost next bytes = after_number (number 0 most_number newline bytes) next

abbrev pub scan_empty : Bool → Scanner
scan_empty by_arcs bytes = after_word (word (codes "mpty\n") bytes) (scan_marks None by_arcs [] [])

abbrev pub scan_least : Scanner
scan_least bytes = after_word (word (codes "ost ") bytes) (scan_cost (λ cost. scan_marks (Some cost) false [] []))

abbrev pub scan_first : Scanner
scan_first bytes = after_word (word (newline ∷ []) bytes) (choice 99 scan_least 101 (scan_empty false))

abbrev pub scan_counted : Bool → ℕ → ℕ → Scanner
scan_counted by_arcs cost count = scan_shifts count [] (λ shifts. scan_marks (Some cost) by_arcs shifts [])

abbrev pub scan_listed : Bool → ℕ → Scanner
scan_listed by_arcs cost bytes =
    after_word (word (codes "shifts ") bytes)
    (λ rest. after_number (number 1 most_certificate_shifts newline rest) (scan_counted by_arcs cost))

abbrev pub scan_second : Scanner
scan_second bytes = after_word (word (codes "\ncost ") bytes) (scan_cost (scan_listed false))

abbrev pub scan_arcs : Scanner
scan_arcs bytes = after_word (word (codes "ost ") bytes) (scan_cost (scan_listed true))

abbrev pub scan_third : Scanner
scan_third bytes = after_word (word (newline ∷ []) bytes) (choice 99 scan_arcs 101 (scan_empty true))

abbrev pub scan : Scanner
scan bytes = after_word (word (codes "viaduct-cert ") bytes) (choice_of_three 49 scan_first 50 scan_second 51 scan_third)
