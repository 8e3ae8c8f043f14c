-- Lines that are cut from the front of bytes.
use Rattle.std.proofs.Common.{◌≡◌, ◌≢◌, ◌∙◌, ℕ, zero, suc, ◌+◌, ◌<◌, ◌-◌, ◌||◌, List, [], ◌∷◌, ◌++◌, Option, None, Some, Bool, true, false, nat_eq, if◌then◌else◌, refl, sym, ap, subst, get_or, take, drop, length, position, arith, add-one}
use Rattle.std.specs.Bool.{◌==◌}
use Rattle.std.specs.Option.{is_some}
use Rattle.std.specs.List.{list_any}
use Rattle.std.specs.Io.KnownBytes.{prepend_known}
use Rattle.std.proofs.Math.Seq.{drop-length}
use Rattle.std.proofs.lemmas.List.{append-nil, drop-drop, length-drop, take_all}
use Rattle.std.proofs.lemmas.List.Quantifiers.{position-Some}
use Rattle.vd_edge_processes.specs.Lines.{first_line, behind_line, left, GivesLine}

line_at : (byte : ℕ) (rest : List ℕ) (test : Bool) → nat_eq byte 10 ≡ test → first_line (byte ∷ rest) ≡ (if test then [] else byte ∷ first_line rest)
line_at byte rest test is = ap (λ (t : Bool). if t then [] else byte ∷ first_line rest) is

behind_at : (byte : ℕ) (rest : List ℕ) (test : Bool) → nat_eq byte 10 ≡ test → behind_line (byte ∷ rest) ≡ (if test then rest else behind_line rest)
behind_at byte rest test is = ap (λ (t : Bool). if t then rest else behind_line rest) is

-- The first LF stands at this place.
record Ends (bytes : List ℕ) (end : ℕ) : Type 0 where
  within : end < length bytes
  is_end : nat_eq (get_or bytes end 0) 10 ≡ true
  before : (k : ℕ) → k < end → nat_eq (get_or bytes k 0) 10 ≡ false

cut_line : (bytes rest : List ℕ) (end : ℕ) → Ends bytes end → first_line (bytes ++ rest) ≡ take end bytes
cut_line [] rest end ends = absurd (omega arith)
cut_line (byte ∷ bytes) rest zero ends = line_at byte (bytes ++ rest) true ends.is_end
cut_line (byte ∷ bytes) rest (suc end) ends =
    line_at byte (bytes ++ rest) false (ends.before 0 (omega arith))
    ∙ ap (λ (l : List ℕ). byte ∷ l) (cut_line bytes rest end (record { within = omega arith; is_end = ends.is_end; before = λ k below. ends.before (suc k) (omega arith) }))

cut_behind : (bytes rest : List ℕ) (end : ℕ) → Ends bytes end → behind_line (bytes ++ rest) ≡ drop (suc end) bytes ++ rest
cut_behind [] rest end ends = absurd (omega arith)
cut_behind (byte ∷ bytes) rest zero ends = behind_at byte (bytes ++ rest) true ends.is_end
cut_behind (byte ∷ bytes) rest (suc end) ends =
    behind_at byte (bytes ++ rest) false (ends.before 0 (omega arith))
    ∙ cut_behind bytes rest end (record { within = omega arith; is_end = ends.is_end; before = λ k below. ends.before (suc k) (omega arith) })

ends_at : (bytes : List ℕ) (end : ℕ) → position (λ byte. nat_eq byte 10) bytes ≡ Some end → Ends bytes end
ends_at bytes end is =
    let found = position-Some (λ byte. nat_eq byte 10) bytes end 0 is in
    record { within = found.0; is_end = found.1; before = found.2 }

or_first : (a b : Bool) → (a || b) ≡ false → a ≡ false
or_first true b is = is
or_first false b is = refl

or_second : (a b : Bool) → (a || b) ≡ false → b ≡ false
or_second true b is = cc is
or_second false b is = is

no_end : (bytes : List ℕ) → list_any (λ byte. nat_eq byte 10) bytes ≡ false → first_line bytes ≡ bytes
no_end [] is = refl
no_end (byte ∷ bytes) is =
    line_at byte bytes false (or_first _ _ is) ∙ ap (λ (l : List ℕ). byte ∷ l) (no_end bytes (or_second (nat_eq byte 10) _ is))

none_behind : (bytes : List ℕ) → list_any (λ byte. nat_eq byte 10) bytes ≡ false → behind_line bytes ≡ []
none_behind [] is = refl
none_behind (byte ∷ bytes) is = behind_at byte bytes false (or_first _ _ is) ∙ none_behind bytes (or_second (nat_eq byte 10) _ is)

some_bytes : (bytes rest : List ℕ) → 0 < length bytes → bytes ++ rest ≢ []
some_bytes [] rest some = absurd (omega arith)
some_bytes (byte ∷ bytes) rest some = λ none. cc none

ahead_and_rest : (ahead rest : List ℕ) (end : ℕ) → position (λ byte. nat_eq byte 10) ahead ≡ Some end
    → (ahead ++ rest ≢ []) × (take end ahead ≡ first_line (ahead ++ rest)) × (drop (end + 1) ahead ++ rest ≡ behind_line (ahead ++ rest))
ahead_and_rest ahead rest end is =
    let ends : Ends ahead end = ends_at ahead end is in
    let within : end < length ahead = ends.within in (
      some_bytes ahead rest (omega arith),
      sym (cut_line ahead rest end ends),
      rw (add-one) (sym (cut_behind ahead rest end ends)),
    )

some_at_all : (bytes : List ℕ) → 0 < length bytes → bytes ≢ []
some_at_all [] some = absurd (omega arith)
some_at_all (byte ∷ bytes) some = λ none. cc none

behind_all : (bytes : List ℕ) (handed end : ℕ) → drop (end + 1) (drop handed bytes) ≡ drop (handed + (end + 1)) bytes
behind_all bytes handed end = drop-drop (end + 1) handed bytes

cuts_known : (known : Option (List ℕ)) (bytes : List ℕ) (handed end : ℕ) → position (λ byte. nat_eq byte 10) (drop handed bytes) ≡ Some end
    → GivesLine (prepend_known (drop handed bytes) known) (prepend_known (drop (handed + (end + 1)) bytes) known) (Some (take end (drop handed bytes)))
cuts_known None bytes handed end is = tt
cuts_known (Some rest) bytes handed end is =
    let all = ahead_and_rest (drop handed bytes) rest end is in
    (all.0, all.1, ap (λ (l : List ℕ). Some l) (ap (λ (l : List ℕ). l ++ rest) (sym (behind_all bytes handed end)) ∙ all.2))

-- a whole line is cut off
cuts : {O : Type 0} (remaining : O → Option (List ℕ)) (output : Option O) (bytes : List ℕ) (handed end : ℕ)
    → position (λ byte. nat_eq byte 10) (drop handed bytes) ≡ Some end
    → GivesLine (left remaining output bytes handed) (left remaining output bytes (handed + (end + 1))) (Some (take end (drop handed bytes)))
cuts remaining None bytes handed end is =
    let all = ahead_and_rest (drop handed bytes) [] end is in
    subst (λ (l : List ℕ). GivesLine (Some l) (Some (drop (handed + (end + 1)) bytes)) (Some (take end (drop handed bytes)))) (append-nil (drop handed bytes))
    (all.0, all.1, ap (λ (l : List ℕ). Some l) (sym (behind_all bytes handed end) ∙ sym (append-nil (drop (end + 1) (drop handed bytes))) ∙ all.2))
cuts remaining (Some output) bytes handed end is = cuts_known (remaining output) bytes handed end is

-- what is left at the end of the output is the last line
last : {O : Type 0} (remaining : O → Option (List ℕ)) (bytes : List ℕ) (handed : ℕ)
    → 0 < length (drop handed bytes) → list_any (λ byte. nat_eq byte 10) (drop handed bytes) ≡ false
    → GivesLine (left remaining None bytes handed) (left remaining None bytes (length bytes)) (Some (drop handed bytes))
last remaining bytes handed some none = (
  some_at_all (drop handed bytes) some,
  sym (no_end (drop handed bytes) none),
  ap (λ (l : List ℕ). Some l) (drop-length bytes ∙ sym (none_behind (drop handed bytes) none)),
)

all_ahead : (slice bytes : List ℕ) (handed : ℕ) → slice ≡ bytes → take (length slice - handed) (drop handed slice) ≡ drop handed bytes
all_ahead slice bytes handed is = take_all (length slice - handed) (drop handed slice) (omega (arith, length-drop handed slice)) ∙ ap (λ (l : List ℕ). drop handed l) is

-- the same, as the code cuts it off
pub cut_off : {O : Type 0} (remaining : O → Option (List ℕ)) (output : Option O) (bytes slice line : List ℕ) (handed end : ℕ) → slice ≡ bytes
    → Some end ≡ position (λ byte. nat_eq byte 10) (take (length slice - handed) (drop handed slice))
    → line ≡ take end (take (length slice - handed) (drop handed slice))
    → GivesLine (left remaining output bytes handed) (left remaining output bytes (handed + (end + 1))) (Some line)
cut_off remaining output bytes slice line handed end is found cut =
    let ahead : take (length slice - handed) (drop handed slice) ≡ drop handed bytes = all_ahead slice bytes handed is in
    subst (λ (l : List ℕ). GivesLine (left remaining output bytes handed) (left remaining output bytes (handed + (end + 1))) (Some l))
    (sym (cut ∙ ap (λ (l : List ℕ). take end l) ahead))
    (cuts remaining output bytes handed end (sym (found ∙ ap (λ (l : List ℕ). position (λ byte. nat_eq byte 10) l) ahead)))

not_zero : (n : ℕ) → false ≡ (n == 0) → 0 < n
not_zero zero is = cc is
not_zero (suc n) is = omega arith

pub last_line : {O : Type 0} (remaining : O → Option (List ℕ)) (output : Option O) (bytes slice line : List ℕ) (handed later : ℕ) → slice ≡ bytes
    → false ≡ is_some output → false ≡ (length (take (length slice - handed) (drop handed slice)) == 0)
    → line ≡ take (length slice - handed) (drop handed slice) → list_any (λ byte. nat_eq byte 10) (take (length slice - handed) (drop handed slice)) ≡ false
    → later ≡ length bytes → GivesLine (left remaining output bytes handed) (left remaining output bytes later) (Some line)
last_line remaining (Some output) bytes slice line handed later is over some cut none all = cc over
last_line remaining None bytes slice line handed later is over some cut none all =
    let ahead : take (length slice - handed) (drop handed slice) ≡ drop handed bytes = all_ahead slice bytes handed is in
    subst (λ (l : List ℕ). GivesLine (left remaining None bytes handed) (left remaining None bytes later) (Some l)) (sym (cut ∙ ahead))
    (subst (λ (n : ℕ). GivesLine (left remaining None bytes handed) (left remaining None bytes n) (Some (drop handed bytes))) (sym all)
    (last remaining bytes handed
    (not_zero (length (drop handed bytes)) (some ∙ ap (λ (l : List ℕ). length l == 0) ahead))
    (sym (ap (λ (l : List ℕ). list_any (λ byte. nat_eq byte 10) l) ahead) ∙ none)))
