-- Decimal numbers are read exactly.
use Rattle.std.proofs.Common.{◌≡◌, ℕ, ◌+◌, ◌-◌, ◌*◌, ◌/◌, ◌%◌, ◌^◌, ◌<◌, ◌≤◌, Bool, true, false, cond, List, [], ◌∷◌, ◌++◌, Some, Ok, Err, inl, inr, refl, sym, ap, subst, ◌∙◌, append_assoc, arith, true≢false}
use Rattle.std.specs.Fmt.{decimal}
use Rattle.std.specs.Prelude.{nat_lt, nat_le, ◌&&◌}
use Rattle.std.proofs.lemmas.Fmt.{decimal_by_steps, decimal_step, decimal_digit}
use Rattle.std.proofs.lemmas.Bool.{ltb-true, leb-true, lt-ltb, le-leb, and_parts, and_from}
use Rattle.std.proofs.lemmas.List.{append-nil}
use Rattle.vd_base.specs.Lexical.{is_digit}
use Rattle.vd_base_codec.specs.Reading.{first, Reading, goes_on, longest_at, number_at, field_at, field}
use Rattle.vd_base_codec.specs.Exact.{IsBreak, Spells, Stops, IsExact}
use Rattle.vd_base_codec.proofs.Parts.{byte_exact}

-- n, with these digits behind it, is y
abbrev Continues : ℕ → List ℕ → ℕ → Type 0
Continues n [] y = n ≡ y
Continues n (d ∷ ds) y = (is_digit d ≡ true) × (0 < n) × Continues (n * 10 + (d - 48)) ds y

digit_range : (d : ℕ) → is_digit d ≡ true → (48 ≤ d) × (d ≤ 57)
digit_range d h =
    let p = and_parts (nat_le 48 d) (nat_le d 57) h in
    (leb-true 48 d p.0, leb-true d 57 p.1)

is_digit_in : (d : ℕ) → 48 ≤ d → d ≤ 57 → is_digit d ≡ true
is_digit_in d low high = and_from (nat_le 48 d) (nat_le d 57) (le-leb 48 d low) (le-leb d 57 high)

not_shorter : (n : ℕ) (ds : List ℕ) (y : ℕ) → Continues n ds y → n ≤ y
not_shorter n [] y h = omega (arith, h)
not_shorter n (d ∷ ds) y h = let rest : n * 10 + (d - 48) ≤ y = not_shorter (n * 10 + (d - 48)) ds y h.2 in omega arith

one_more : (n : ℕ) (ds : List ℕ) (y d : ℕ) → Continues n ds y → 0 < y → is_digit d ≡ true → Continues n (ds ++ d ∷ []) (y * 10 + (d - 48))
one_more n [] y d h pos is = (is, omega (arith, h), ap (λ m. m * 10 + (d - 48)) h)
one_more n (e ∷ ds) y d h pos is = (h.0, h.1, one_more (n * 10 + (e - 48)) ds y d h.2 pos is)

-- the digits of a number: the first, and those behind it
record Digits (n : ℕ) (bytes : List ℕ) : Type 0 where
  pub digit : ℕ
  pub behind : List ℕ
  pub is_digit : is_digit digit ≡ true
  pub are : bytes ≡ digit ∷ behind
  pub continues : Continues (digit - 48) behind n

one_digit : (n : ℕ) → n < 10 → Digits n ((48 + n) ∷ [])
one_digit n h = record { digit = 48 + n; behind = []; is_digit = is_digit_in (48 + n) (omega arith) (omega arith); are = refl; continues = omega arith }

more_digits : (n : ℕ) (ds : List ℕ) → 10 ≤ n → Digits (n / 10) ds → Digits n (ds ++ (48 + n % 10) ∷ [])
more_digits n ds h digits =
    let last : is_digit (48 + n % 10) ≡ true = is_digit_in (48 + n % 10) (omega arith) (omega arith) in
    let same : n / 10 * 10 + (48 + n % 10 - 48) ≡ n = omega arith in
    record {
      digit = digits.digit;
      behind = digits.behind ++ (48 + n % 10) ∷ [];
      is_digit = digits.is_digit;
      are = ap (λ bs. bs ++ (48 + n % 10) ∷ []) digits.are;
      continues = subst (λ m. Continues (digits.digit - 48) (digits.behind ++ (48 + n % 10) ∷ []) m) same
          (one_more (digits.digit - 48) digits.behind (n / 10) (48 + n % 10) digits.continues (omega arith) last);
    }

digits_of : (n : ℕ) → n < 2 ^ 64 → Digits n (decimal n)
digits_of n h = decimal_by_steps Digits one_digit more_digits n h

written_on : (n : ℕ) (ds : List ℕ) (y : ℕ) → Continues n ds y → y < 2 ^ 64 → decimal y ≡ decimal n ++ ds
written_on n [] y h small = ap decimal (sym h) ∙ sym (append-nil (decimal n))
written_on n (d ∷ ds) y h small =
    let m : ℕ = n * 10 + (d - 48) in
    let range = digit_range d h.0 in
    let below : m ≤ y = not_shorter m ds y h.2 in
    let front : m / 10 ≡ n = omega (arith, range.0, range.1, h.1) in
    let last : 48 + m % 10 ≡ d = omega (arith, range.0, range.1, h.1) in
    let here : decimal m ≡ decimal n ++ d ∷ [] =
    decimal_step m (omega (arith, h.1)) (omega arith) ∙ ap (λ k. decimal k ++ (48 + m % 10) ∷ []) front ∙ ap (λ k. decimal n ++ k ∷ []) last in
    written_on m ds y h.2 small ∙ ap (λ bs. bs ++ ds) here ∙ append_assoc (decimal n) (d ∷ []) ds

-- the bytes that are no digits
no_digit : (b : ℕ) (bs : List ℕ) → IsBreak (b ∷ bs) → is_digit b ≡ true → ⊥
no_digit b bs (inl e) is = let range = digit_range b is in omega (arith, e, range.0)
no_digit b bs (inr e) is = let range = digit_range b is in omega (arith, e, range.0)

goes_on_parts : (most n b : ℕ) → goes_on most n b ≡ true → (0 < n) × (is_digit b ≡ true) × (n * 10 + (b - 48) ≤ most)
goes_on_parts most n b h =
    let p = and_parts (nat_lt 0 n) (is_digit b && nat_le (n * 10 + (b - 48)) most) h in
    let q = and_parts (is_digit b) (nat_le (n * 10 + (b - 48)) most) p.1 in
    (ltb-true 0 n p.0, q.0, leb-true (n * 10 + (b - 48)) most q.1)

goes_on_from : (most n b : ℕ) → 0 < n → is_digit b ≡ true → n * 10 + (b - 48) ≤ most → goes_on most n b ≡ true
goes_on_from most n b pos is le =
    and_from (nat_lt 0 n) (is_digit b && nat_le (n * 10 + (b - 48)) most) (lt-ltb 0 n pos)
    (and_from (is_digit b) (nat_le (n * 10 + (b - 48)) most) is (le-leb (n * 10 + (b - 48)) most le))

-- the longest number from n on
record Longest (most n : ℕ) (bytes : List ℕ) (read : ℕ × List ℕ) : Type 0 where
  digits : List ℕ
  split : bytes ≡ digits ++ read.1
  continues : Continues n digits read.0
  within : read.0 ≤ most
  only : (others behind more : List ℕ) (y : ℕ) → Continues n others y → y ≤ most → IsBreak behind → others ++ behind ≡ digits ++ more → first more ≡ first read.1 →
      (y ≡ read.0) × (behind ≡ more)

stays : (most n : ℕ) (bytes : List ℕ) → n ≤ most → ((d : ℕ) (ds : List ℕ) (y : ℕ) → first bytes ≡ Some d → Continues n (d ∷ ds) y → y ≤ most → ⊥) → Longest most n bytes (n, bytes)
stays most n bytes le none = record {
  digits = [];
  split = refl;
  continues = refl;
  within = le;
  only = λ others behind more y. elim others as (λ es. Continues n es y → y ≤ most → IsBreak behind → es ++ behind ≡ more → first more ≡ first bytes → (y ≡ n) × (behind ≡ more)) [
    | [] ↦ λ h le' k e f. (sym h, e)
    | d ∷ ds ↦ λ h le' k e f. absurd (none d ds y (sym f ∙ ap first (sym e)) h le')
  ];
}

goes_further : (most n b : ℕ) (bytes : List ℕ) (read : ℕ × List ℕ) → goes_on most n b ≡ true → Longest most (n * 10 + (b - 48)) bytes read → Longest most n (b ∷ bytes) read
goes_further most n b bytes read test longest =
    let parts = goes_on_parts most n b test in
    record {
      digits = b ∷ longest.digits;
      split = ap (λ bs. b ∷ bs) longest.split;
      continues = (parts.1, parts.0, longest.continues);
      within = longest.within;
      only = λ others behind more y. elim others as (λ es. Continues n es y → y ≤ most → IsBreak behind → es ++ behind ≡ b ∷ (longest.digits ++ more) → first more ≡ first read.1 → (y ≡ read.0) × (behind ≡ more)) [
        | [] ↦ λ h le k e f. absurd (no_digit b (longest.digits ++ more) (subst IsBreak e k) parts.1)
        | d ∷ ds ↦ λ h le k e f.
            let same : d ≡ b = cc in
            let rest : ds ++ behind ≡ longest.digits ++ more = cc in
            longest.only ds behind more y (subst (λ c. Continues (n * 10 + (c - 48)) ds y) same h.2) le k rest f
      ];
    }

cannot_go_on : (most n b : ℕ) (bytes : List ℕ) → goes_on most n b ≡ false → (d : ℕ) (ds : List ℕ) (y : ℕ) → first (b ∷ bytes) ≡ Some d → Continues n (d ∷ ds) y → y ≤ most → ⊥
cannot_go_on most n b bytes test d ds y f h le =
    let same : b ≡ d = cc in
    let below : n * 10 + (d - 48) ≤ y = not_shorter (n * 10 + (d - 48)) ds y h.2 in
    true≢false (sym (goes_on_from most n d h.1 h.0 (omega arith)) ∙ ap (λ c. goes_on most n c) (sym same) ∙ test)

longest_at_byte : (most n b : ℕ) (bytes : List ℕ) (t : Bool) → goes_on most n b ≡ t → n ≤ most → (goes_on most n b ≡ true → Longest most (n * 10 + (b - 48)) bytes (longest_at most (n * 10 + (b - 48)) bytes))
    → Longest most n (b ∷ bytes) (cond t (longest_at most (n * 10 + (b - 48)) bytes) (n, b ∷ bytes))
longest_at_byte most n b bytes true test le further = goes_further most n b bytes (longest_at most (n * 10 + (b - 48)) bytes) test (further test)
longest_at_byte most n b bytes false test le further = stays most n (b ∷ bytes) le (cannot_go_on most n b bytes test)

longest_exact : (most n : ℕ) (bytes : List ℕ) → n ≤ most → Longest most n bytes (longest_at most n bytes)
unfolding longest_at
longest_exact most n [] le = stays most n [] le (λ d ds y f h le'. cc)
longest_exact most n (b ∷ bytes) le =
    longest_at_byte most n b bytes (goes_on most n b) refl le
    (λ test. longest_exact most (n * 10 + (b - 48)) bytes (goes_on_parts most n b test).2)

abbrev pub AtMost : ℕ → ℕ → Type 0
AtMost most n = n ≤ most

digit_spelled : (b : ℕ) → is_digit b ≡ true → decimal (b - 48) ≡ b ∷ []
digit_spelled b is =
    let range = digit_range b is in
    let same : 48 + (b - 48) ≡ b = omega (arith, range.0) in
    decimal_digit (b - 48) (omega (arith, range.0, range.1)) ∙ ap (λ d. d ∷ []) same

number_spelled : (most b : ℕ) (bytes : List ℕ) (read : ℕ × List ℕ) → most < 2 ^ 64 → is_digit b ≡ true → Longest most (b - 48) bytes read → Spells IsBreak (AtMost most) decimal (b ∷ bytes) read.0 read.1
number_spelled most b bytes read small is longest =
    let whole : decimal read.0 ≡ b ∷ longest.digits =
    written_on (b - 48) longest.digits read.0 longest.continues (omega (arith, longest.within)) ∙ ap (λ bs. bs ++ longest.digits) (digit_spelled b is) in
    record {
      fits = longest.within;
      split = ap (λ bs. b ∷ bs) longest.split ∙ ap (λ bs. bs ++ read.1) (sym whole);
      only = λ y behind more h k e f.
          let digits = digits_of y (omega arith) in
          let spelled : digits.digit ∷ (digits.behind ++ behind) ≡ b ∷ (longest.digits ++ more) =
          ap (λ bs. bs ++ behind) (sym digits.are) ∙ e ∙ ap (λ bs. bs ++ more) whole in
          let same : digits.digit ≡ b = cc in
          let rest : digits.behind ++ behind ≡ longest.digits ++ more = cc in
          longest.only digits.behind behind more y (subst (λ d. Continues (d - 48) digits.behind y) same digits.continues) h k rest f;
    }

number_missing : (most : ℕ) (bytes : List ℕ) → most < 2 ^ 64 → ((b : ℕ) → first bytes ≡ Some b → is_digit b ≡ true → b - 48 ≤ most → ⊥) → Stops IsBreak (AtMost most) decimal bytes bytes
number_missing most bytes small none = record {
  taken = [];
  split = refl;
  begun = 0;
  fits = omega arith;
  rest = decimal 0;
  begins = refl;
  none = λ y behind more h k e f.
      let digits = digits_of y (omega arith) in
      let spelled : digits.digit ∷ (digits.behind ++ behind) ≡ more = ap (λ bs. bs ++ behind) (sym digits.are) ∙ e in
      let below : digits.digit - 48 ≤ y = not_shorter (digits.digit - 48) digits.behind y digits.continues in
      none digits.digit (sym f ∙ ap first (sym spelled)) digits.is_digit (omega arith);
}

abbrev begins_number : ℕ → ℕ → Bool
begins_number most b = is_digit b && nat_le (b - 48) most

number_tested : (most b : ℕ) (bytes : List ℕ) (t : Bool) → begins_number most b ≡ t → most < 2 ^ 64
    → let r : Reading ℕ = cond t (Ok (longest_at most (b - 48) bytes)) (Err (b ∷ bytes)) in IsExact IsBreak (AtMost most) decimal (b ∷ bytes) r
number_tested most b bytes true test small =
    let p = and_parts (is_digit b) (nat_le (b - 48) most) test in
    number_spelled most b bytes (longest_at most (b - 48) bytes) small p.0 (longest_exact most (b - 48) bytes (leb-true (b - 48) most p.1))
number_tested most b bytes false test small =
    number_missing most (b ∷ bytes) small (λ c f is le.
    let same : b ≡ c = cc in
    true≢false (sym (and_from (is_digit c) (nat_le (c - 48) most) is (le-leb (c - 48) most le)) ∙ ap (begins_number most) (sym same) ∙ test))

pub number_exact : (most : ℕ) (bytes : List ℕ) → most < 2 ^ 64 → IsExact IsBreak (AtMost most) decimal bytes (number_at most bytes)
number_exact most [] small = number_missing most [] small (λ b f is le. cc)
number_exact most (b ∷ bytes) small = number_tested most b bytes (begins_number most b) refl small

pub field_exact : (most : ℕ) (bytes : List ℕ) → most < 2 ^ 64 → IsExact IsBreak (AtMost most) field bytes (field_at most bytes)
field_exact most bytes small = byte_exact IsBreak (AtMost most) decimal 32 bytes 0 (number_at most) (omega arith) (λ mid. number_exact most mid small)
