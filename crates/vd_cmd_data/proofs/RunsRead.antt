-- What a host prints, and its line in the report of a replay, are read back as its words.
use Rattle.std.proofs.Common.{◌≡◌, ℕ, zero, suc, ◌+◌, ◌-◌, ◌<◌, ◌≤◌, ◌^◌, Bool, true, false, ◌&&◌, List, [], ◌∷◌, ◌++◌, length, map, take, drop, Option, Some, None, Result, Ok, Err, nat_le, if◌then◌else◌, refl, sym, ap, ◌∙◌, subst, arith, append-nil, append_assoc, length-append}
use Rattle.std.specs.Prelude.{◌==◌, codes, decimal, flat_map, is_none, nat_lt, slice_index_or}
use Rattle.std.specs.Str.{bytes_eq}
use Rattle.std.proofs.lemmas.Bool.{and_from, le-leb, lt-ltb}
use Rattle.std.proofs.lemmas.List.{length-map}
use Rattle.std.proofs.lemmas.Slice.Eq.{bytes_eq-Decides}
use Rattle.vd_base.specs.Lexical.{decimal_value, is_name, is_numeral, is_space, number_of}
use Rattle.vd_base.specs.Words.{AreWords}
use Rattle.vd_report.specs.Lines.{number_field, words_line}
use Rattle.vd_report.specs.LineWords.{line_words, with_word, words_from}
use Rattle.vd_report.proofs.Front.{AreRead, IsText, name_text, number_numeral, number_text, number_value, one_read, word_read}
use Rattle.vd_cmd_plan.specs.declared.status.Status.{Status}
use Rattle.vd_cmd_plan.specs.declared.status.Status.TheVariants.{Report}
use Rattle.vd_cmd_plan.specs.declared.status.ReportFault.{ReportFault}
use Rattle.vd_cmd_plan.specs.declared.status.ReportFault.TheVariants as fault
use Rattle.vd_cmd_data.specs.Printed.{absent, as_number, between, begins_line, counted_by, is_begun, is_ended, is_whole, lined, number_in, numbers_in, printed_words, state_in, told_in}
use Rattle.vd_cmd_data.specs.RunsRead.{RunsAreRead, host_text, number_line}
use Rattle.vd_cmd_data.specs.Tables.{before_all, each_from}

-- ---- numbers

small : (n : ℕ) → n < 2 ^ 32 → n < 2 ^ 64
small n low = omega (arith, low)

is_number : (n : ℕ) → n < 2 ^ 32 → number_of (decimal n) ≡ Some n
is_number n low =
    let numeral = number_numeral n (small n low) in
    let value = number_value n (small n low) in
    let fits : nat_lt (decimal_value (decimal n)) (2 ^ 32) ≡ true = ap (λ (k : ℕ). nat_lt k (2 ^ 32)) value ∙ lt-ltb n (2 ^ 32) low in
    ap (λ (t : Bool). if t then Some (decimal_value (decimal n)) else None) (and_from (is_numeral (decimal n)) (nat_lt (decimal_value (decimal n)) (2 ^ 32)) numeral fits)
    ∙ ap (λ (k : ℕ). Some k) value

numbers_from : (file : List ℕ) (words : List ℕ) (k : ℕ) → AreWords words → each_from (λ _ word. number_in file word) k (map decimal words) ≡ Ok words
unfolding each_from
numbers_from file [] k are = refl
numbers_from file (n ∷ words) k are =
    ap (λ (o : Option ℕ). before_all (as_number file o) (each_from (λ _ word. number_in file word) (k + 1) (map decimal words))) (is_number n are.0)
    ∙ ap (before_all (Ok n)) (numbers_from file words (k + 1) are.1)

are_numbers : (file words : List ℕ) → AreWords words → numbers_in file (map decimal words) ≡ Ok words
are_numbers file words are = numbers_from file words 1 are

-- ---- the last of a list

at_end : {A : Type 0} (list : List A) (a d : A) → slice_index_or (list ++ a ∷ []) (length list) d ≡ a
at_end [] a d = refl
at_end (b ∷ list) a d = at_end list a d

at_front : {A : Type 0} (list : List A) (a : A) → take (length list) (list ++ a ∷ []) ≡ list
at_front [] a = refl
at_front (b ∷ list) a = ap (λ (l : List _). b ∷ l) (at_front list a)

one_less : {A : Type 0} (list : List A) (a : A) → length (list ++ a ∷ []) - 1 ≡ length list
one_less list a = let more = length-append list (a ∷ []) in omega (arith, more)

last_is : {A : Type 0} (list : List A) (a d : A) → slice_index_or (list ++ a ∷ []) (length (list ++ a ∷ []) - 1) d ≡ a
last_is list a d = ap (λ (k : ℕ). slice_index_or (list ++ a ∷ []) k d) (one_less list a) ∙ at_end list a d

front_is : {A : Type 0} (list : List A) (a : A) → take (length (list ++ a ∷ []) - 1) (list ++ a ∷ []) ≡ list
front_is list a = ap (λ (k : ℕ). take k (list ++ a ∷ [])) (one_less list a) ∙ at_front list a

-- ---- what a host prints

-- an end of a line parts words as a blank does
parts : (word begun rest : List ℕ) → words_from begun (word ++ 10 ∷ rest) ≡ words_from begun (word ++ 32 ∷ rest)
parts [] begun rest = refl
parts (b ∷ word) begun rest = λ i. if is_space b then with_word begun (parts word [] rest i) else parts word (begun ++ b ∷ []) rest i

line_end : (word rest : List ℕ) → IsText word → line_words (word ++ 10 ∷ rest) ≡ word ∷ line_words rest
line_end word rest text = parts word [] rest ∙ (one_read word text).on rest

numbers_end : (words rest : List ℕ) → AreWords words → line_words (flat_map number_line words ++ rest) ≡ map decimal words ++ line_words rest
numbers_end [] rest are = refl
numbers_end (n ∷ words) rest are =
    ap line_words (append_assoc (number_line n) (flat_map number_line words) rest ∙ append_assoc (decimal n) (10 ∷ []) (flat_map number_line words ++ rest))
    ∙ line_end (decimal n) (flat_map number_line words ++ rest) (number_text n (small n are.0))
    ∙ ap (λ (l : List (List ℕ)). decimal n ∷ l) (numbers_end words rest are.1)

some : (b : ℕ) (bytes : List ℕ) → 0 < length (b ∷ bytes)
some b bytes = omega arith

solid_listening : IsText (codes "listening")
solid_listening = (refl, some 108 (codes "istening"))

solid_ended : IsText (codes "ended")
solid_ended = (refl, some 101 (codes "nded"))

abbrev host_words : List ℕ → List (List ℕ)
host_words words = (codes "listening" ∷ map decimal words) ++ codes "ended" ∷ []

host_read : (words : List ℕ) → AreWords words → line_words (host_text words) ≡ host_words words
host_read words are =
    line_end (codes "listening") (flat_map number_line words ++ codes "ended\n") solid_listening
    ∙ ap (λ (l : List (List ℕ)). codes "listening" ∷ l) (numbers_end words (codes "ended\n") are ∙ ap (λ (l : List (List ℕ)). map decimal words ++ l) (line_end (codes "ended") [] solid_ended))

host_whole : (words : List ℕ) → is_whole (host_words words) ≡ true
host_whole words =
    let last : slice_index_or (host_words words) (length (host_words words) - 1) [] ≡ codes "ended" = last_is (codes "listening" ∷ map decimal words) (codes "ended") [] in
    ap (λ (w : List ℕ). bytes_eq w (codes "ended")) last

host_between : (words : List ℕ) → between (host_words words) ≡ map decimal words
host_between words = ap (λ (l : List (List ℕ)). drop 1 l) (front_is (codes "listening" ∷ map decimal words) (codes "ended"))

-- the last line is whole
abbrev Ends : List ℕ → Type 0
Ends text = slice_index_or text (length text - 1) 0 ≡ 10

ends_so : (front : List ℕ) → Ends (front ++ 10 ∷ [])
ends_so front = last_is front 10 0

host_ends : (words : List ℕ) → Ends (host_text words)
host_ends words =
    let front = codes "listening\n" ++ flat_map number_line words in
    let same : (front ++ codes "ended") ++ 10 ∷ [] ≡ host_text words = append_assoc front (codes "ended") (10 ∷ []) in
    subst Ends same (ends_so (front ++ codes "ended"))

-- a text whose last line is whole is read by its words
by_words : (file host text words : List ℕ) (split : List (List ℕ)) → Ends text → line_words text ≡ split → told_in file host split ≡ Ok words → printed_words file host text ≡ Ok words
by_words file host text words split ends is told =
    ap (λ (n : ℕ). if n == 10 then told_in file host (line_words text) else Err (Report file fault.Cut)) ends ∙ ap (told_in file host) is ∙ told

-- ---- the line of a replay

numbers_behind : (text : List ℕ) (split : List (List ℕ)) (numbers : List ℕ) → AreRead text split → AreWords numbers → AreRead (text ++ flat_map number_field numbers) (split ++ map decimal numbers)
numbers_behind text split [] first are =
    subst (λ (t : List ℕ). AreRead t (split ++ [])) (sym (append-nil text)) (subst (λ (ws : List (List ℕ)). AreRead text ws) (sym (append-nil split)) first)
numbers_behind text split (n ∷ numbers) first are =
    let next = numbers_behind (text ++ number_field n) (split ++ decimal n ∷ []) numbers (word_read text (decimal n) split first (number_text n (small n are.0))) are.1 in
    subst (λ (t : List ℕ). AreRead t (split ++ decimal n ∷ map decimal numbers)) (append_assoc text (number_field n) (flat_map number_field numbers))
    (subst (λ (ws : List (List ℕ)). AreRead (text ++ number_field n ++ flat_map number_field numbers) ws) (append_assoc split (decimal n ∷ []) (map decimal numbers)) next)

abbrev line_split : (host words : List ℕ) → List (List ℕ)
line_split host words = host ∷ codes "ended" ∷ decimal (length words) ∷ map decimal words

line_read : (host words : List ℕ) → is_name host ≡ true → AreWords words → length words < 2 ^ 32 → line_words (words_line (host ++ codes " ended") words) ≡ line_split host words
line_read host words named are few =
    let head = word_read host (codes "ended") (host ∷ []) (one_read host (name_text host named)) solid_ended in
    let counted = word_read (host ++ codes " ended") (decimal (length words)) (host ∷ codes "ended" ∷ []) head (number_text (length words) (small (length words) few)) in
    (numbers_behind ((host ++ codes " ended") ++ number_field (length words)) (host ∷ codes "ended" ∷ decimal (length words) ∷ []) words counted are).end

no_number : number_of (codes "ended") ≡ None
no_number = refl

differs : (n : ℕ) → n < 2 ^ 32 → (t : Bool) → bytes_eq (decimal n) (codes "ended") ≡ t → t ≡ false
differs n low false e = refl
differs n low true e =
    let same : decimal n ≡ codes "ended" = (bytes_eq-Decides (decimal n) (codes "ended")).0 e in
    let wrong : Some n ≡ None = sym (is_number n low) ∙ ap number_of same in
    absurd (cc wrong)

last_number : (n : ℕ) (words : List ℕ) → n < 2 ^ 32 → AreWords words → (k : ℕ) × (k < 2 ^ 32) × (slice_index_or (decimal n ∷ map decimal words) (length (map decimal words)) [] ≡ decimal k)
last_number n [] low are = (n, low, refl)
last_number n (m ∷ words) low are = last_number m words are.0 are.1

not_both : (a b : Bool) → b ≡ false → (a && b) ≡ false
not_both true b e = e
not_both false b e = refl

line_other : (host words : List ℕ) → AreWords words → length words < 2 ^ 32 → is_whole (line_split host words) ≡ false
line_other host words are few =
    let last = last_number (length words) words few are in
    let behind : length (line_split host words) - 1 ≡ suc (suc (length (map decimal words))) = omega arith in
    let found = ap (λ (k : ℕ). slice_index_or (line_split host words) k []) behind ∙ last.2 in
    let test = ap (λ (w : List ℕ). bytes_eq w (codes "ended")) found ∙ differs last.0 last.1 (bytes_eq (decimal last.0) (codes "ended")) refl in
    not_both (is_begun (line_split host words)) (bytes_eq (slice_index_or (line_split host words) (length (line_split host words) - 1) []) (codes "ended")) test

same_name : (name : List ℕ) → bytes_eq name name ≡ true
same_name name = (bytes_eq-Decides name name).1 refl

all_taken : (words : List ℕ) → take (length words) (map decimal words) ≡ map decimal words
all_taken [] = refl
all_taken (n ∷ words) = ap (λ (l : List (List ℕ)). decimal n ∷ l) (all_taken words)

line_counted : (file words : List ℕ) → AreWords words → length words < 2 ^ 32 → state_in file (codes "ended" ∷ decimal (length words) ∷ map decimal words) ≡ Ok words
line_counted file words are few =
    let enough : nat_le (length words) (length (map decimal words)) ≡ true =
    ap (nat_le (length words)) (length-map words decimal) ∙ le-leb (length words) (length words) (omega arith) in
    ap (λ (count : Option ℕ). counted_by file count (map decimal words)) (is_number (length words) few)
    ∙ ap (λ (t : Bool). if t then numbers_in file (take (length words) (map decimal words)) else Err (Report file fault.Cut)) enough
    ∙ ap (numbers_in file) (all_taken words) ∙ are_numbers file words are

line_told : (file host words : List ℕ) → AreWords words → length words < 2 ^ 32 → told_in file host (line_split host words) ≡ Ok words
line_told file host words are few =
    let behind = codes "ended" ∷ decimal (length words) ∷ map decimal words in
    let cause : ReportFault = absent (line_split host words) in
    let begins : begins_line host host behind ≡ true = ap (λ (t : Bool). t && true) (same_name host) in
    ap (λ (t : Bool). if t then numbers_in file (between (line_split host words)) else lined file host cause (line_split host words)) (line_other host words are few)
    ∙ ap (λ (t : Bool). if t then state_in file behind else lined file host cause behind) begins
    ∙ line_counted file words are few

line_ends : (host words : List ℕ) → Ends (words_line (host ++ codes " ended") words)
line_ends host words = ends_so ((host ++ codes " ended") ++ number_field (length words) ++ flat_map number_field words)

pub runs_read : RunsAreRead
runs_read = record {
  by_host = λ file host words are.
      by_words file host (host_text words) words (host_words words) (host_ends words) (host_read words are)
      (ap (λ (t : Bool). if t then numbers_in file (between (host_words words)) else lined file host (absent (host_words words)) (host_words words)) (host_whole words)
      ∙ ap (numbers_in file) (host_between words) ∙ are_numbers file words are);
  by_line = λ file host words hosts named are few.
      subst (λ (head : List ℕ). printed_words file host (words_line head words) ≡ Ok words) (sym (append_assoc host (codes " ") (codes "ended")))
      (by_words file host (words_line (host ++ codes " ended") words) words (line_split host words) (line_ends host words) (line_read host words named are few) (line_told file host words are few));
}
