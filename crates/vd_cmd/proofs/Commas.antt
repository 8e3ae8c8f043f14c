-- The texts between the commas of a word.
use Rattle.std.proofs.Common.{◌≡◌, ◌≢◌, ℕ, zero, suc, ◌+◌, ◌<◌, Bool, true, false, ◌&&◌, ◌||◌, not, if◌then◌else◌, nat_eq, ◌==◌, List, [], ◌∷◌, ◌++◌, length, get_or, flat_map, Some, None, refl, sym, ap, ◌∙◌, append-nil, arith, true≢false}
use Rattle.std.specs.List.{list_all}
use Rattle.std.proofs.lemmas.Bool.{and_from, and_parts, ne_eqb, or_left}
use Rattle.std.specs.Str.{bytes_eq}
use Rattle.vd_base.specs.Lexical.{is_digit, is_keyword, is_letter, is_name, is_word_byte}
use Rattle.vd_cmd.specs.Groups.{are_new, between_commas, group_of, is_among, with_byte}

-- no comma stands in it
abbrev pub IsPlain : List ℕ → Type 0
IsPlain text = (i : ℕ) → i < length text → get_or text i 0 ≢ 0x2c

first_is : (b : ℕ) (text : List ℕ) → IsPlain (b ∷ text) → nat_eq b 0x2c ≡ false
first_is b text plain = ne_eqb b 0x2c (plain 0 (omega arith))

others_are : (b : ℕ) (text : List ℕ) → IsPlain (b ∷ text) → IsPlain text
others_are b text plain = λ i low. plain (suc i) (omega (arith, low))

pub one_first : (text rest : List ℕ) → IsPlain text → between_commas (text ++ 0x2c ∷ rest) ≡ text ∷ between_commas rest
unfolding between_commas
one_first [] rest plain = refl
one_first (b ∷ text) rest plain =
    ap (λ (t : Bool). if t then [] ∷ between_commas (text ++ 0x2c ∷ rest) else with_byte b (between_commas (text ++ 0x2c ∷ rest))) (first_is b text plain)
    ∙ ap (with_byte b) (one_first text rest (others_are b text plain))

pub one_alone : (text : List ℕ) → IsPlain text → between_commas text ≡ text ∷ []
unfolding between_commas
one_alone [] plain = refl
one_alone (b ∷ text) plain =
    ap (λ (t : Bool). if t then [] ∷ between_commas text else with_byte b (between_commas text)) (first_is b text plain)
    ∙ ap (with_byte b) (one_alone text (others_are b text plain))

-- the first of several names, and those behind it
pub first_new : (text name rest : List ℕ) → text ≡ name ++ 0x2c ∷ rest → IsPlain name
    → are_new (between_commas text) ≡ (not (length name == 0) && (not (is_among (between_commas rest) name) && are_new (between_commas rest)))
unfolding are_new
first_new text name rest is plain = ap (λ (t : List ℕ). are_new (between_commas t)) is ∙ ap are_new (one_first name rest plain)

pub last_new : (name : List ℕ) → IsPlain name → are_new (between_commas name) ≡ not (length name == 0)
unfolding are_new
last_new name plain = ap are_new (one_alone name plain) ∙ and_true (not (length name == 0))
  where
    and_true : (b : Bool) → (b && (true && true)) ≡ b
    and_true true = refl
    and_true false = refl

pub first_among : (text other rest name : List ℕ) → text ≡ other ++ 0x2c ∷ rest → IsPlain other
    → is_among (between_commas text) name ≡ (bytes_eq other name || is_among (between_commas rest) name)
first_among text other rest name is plain = ap (λ (t : List ℕ). is_among (between_commas t) name) is ∙ ap (λ (texts : List (List ℕ)). is_among texts name) (one_first other rest plain)

pub last_among : (other name : List ℕ) → IsPlain other → is_among (between_commas other) name ≡ bytes_eq other name
last_among other name plain = ap (λ (texts : List (List ℕ)). is_among texts name) (one_alone other plain) ∙ or_false (bytes_eq other name)
  where
    or_false : (b : Bool) → (b || false) ≡ b
    or_false true = refl
    or_false false = refl

-- ---- names have no commas

name_bytes : (name : List ℕ) → is_name name ≡ true → list_all is_word_byte name ≡ true
name_bytes [] is = absurd (true≢false (sym is))
name_bytes (b ∷ bs) is =
    let p = and_parts (is_letter b && list_all is_word_byte bs) (not (is_keyword (b ∷ bs))) is in
    let q = and_parts (is_letter b) (list_all is_word_byte bs) p.0 in
    and_from (is_word_byte b) (list_all is_word_byte bs) (or_left (is_letter b) (is_digit b) q.0) q.1

bytes_plain : (text : List ℕ) → list_all is_word_byte text ≡ true → IsPlain text
bytes_plain [] are i low = absurd (omega (arith, low))
bytes_plain (b ∷ text) are zero low = λ comma. true≢false (sym (and_parts (is_word_byte b) (list_all is_word_byte text) are).0 ∙ ap is_word_byte comma)
bytes_plain (b ∷ text) are (suc i) low = bytes_plain text (and_parts (is_word_byte b) (list_all is_word_byte text) are).1 i (omega (arith, low))

-- with commas between them they are found again
names_between : (first : List ℕ) (others : List (List ℕ)) → list_all is_name (first ∷ others) ≡ true → between_commas (first ++ flat_map (λ other. 0x2c ∷ other) others) ≡ first ∷ others
names_between first [] are =
    let plain = bytes_plain first (name_bytes first (and_parts (is_name first) true are).0) in
    ap between_commas (append-nil first) ∙ one_alone first plain
names_between first (other ∷ others) are =
    let parts = and_parts (is_name first) (list_all is_name (other ∷ others)) are in
    one_first first (other ++ flat_map (λ name. 0x2c ∷ name) others) (bytes_plain first (name_bytes first parts.0))
    ∙ ap (λ (names : List (List ℕ)). first ∷ names) (names_between other others parts.1)

pub group_is : (first : List ℕ) (others : List (List ℕ)) → list_all is_name (first ∷ others) ≡ true → are_new (first ∷ others) ≡ true
    → group_of (first ++ flat_map (λ other. 0x2c ∷ other) others) ≡ Some (first ∷ others)
group_is first others are new =
    ap (λ (names : List (List ℕ)). if are_new names then Some names else None) (names_between first others are)
    ∙ ap (λ (t : Bool). if t then Some (first ∷ others) else None) new
