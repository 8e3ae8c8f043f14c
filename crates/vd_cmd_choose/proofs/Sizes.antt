-- A generated source is no longer than a source may be.
use Rattle.std.proofs.Common.{◌≡◌, ℕ, zero, suc, ◌+◌, ◌-◌, ◌*◌, ◌<◌, ◌≤◌, List, ◌++◌, length, refl, ap, ◌∙◌, arith, length-append}
use Rattle.std.specs.Prelude.{codes, decimal, flat_map}
use Rattle.std.specs.List.{range_with_len}
use Rattle.std.proofs.lemmas.Fmt.{length-decimal-le}
use Rattle.std.proofs.lemmas.List.Concat.{flat_map-cons}
use Rattle.vd_base.specs.Limits.{most_source_bytes}
use Rattle.vd_gen.specs.Sizes.{most_coordinates}
use Rattle.vd_gen.specs.Source.{answer, binding, coordinate, generated, head, named, sum_line, sum_name, tail}

-- ---- parts, one after another

three : (a b c : List ℕ) → length (a ++ b ++ c) ≡ length a + length b + length c
three a b c =
    let one = length-append (a ++ b) c in
    let two = length-append a b in
    omega (arith, one, two)

five : (a b c d e : List ℕ) → length (a ++ b ++ c ++ d ++ e) ≡ length a + length b + length c + length d + length e
five a b c d e =
    let one = length-append (a ++ b ++ c ++ d) e in
    let two = length-append (a ++ b ++ c) d in
    let rest = three a b c in
    omega (arith, one, two, rest)

-- ---- names and lines

short_number : (k : ℕ) → k < 100 → length (decimal k) ≤ 2
short_number k below = length-decimal-le 2 k (omega arith) (omega (arith, below)) (omega (arith, below))

short_name : (letter : List ℕ) (k : ℕ) → length letter ≡ 1 → k < 100 → length (named letter k) ≤ 3
short_name letter k one below =
    let parts = length-append letter (decimal k) in
    let number = short_number k below in
    omega (arith, one, parts, number)

short_sum_name : (k : ℕ) → k < 100 → length (sum_name k) ≤ 3
short_sum_name zero below = short_name (codes "q") 0 refl below
short_sum_name (suc k) below = short_name (codes "s") (suc k) refl below

short_binding : (name expression : List ℕ) (most : ℕ) → length name ≤ 3 → length expression ≤ most → length (binding name expression) ≤ 14 + most
short_binding name expression most short within =
    let parts = five (codes "  let ") name (codes " = ") expression (codes ";\n") in
    let first : length (codes "  let ") ≡ 6 = refl in
    let third : length (codes " = ") ≡ 3 = refl in
    let last : length (codes ";\n") ≡ 2 = refl in
    omega (arith, parts, first, third, last, short, within)

-- two names with three bytes between them
short_applied : (first between second : List ℕ) → length first ≤ 3 → length between ≡ 3 → length second ≤ 3 → length (first ++ between ++ second) ≤ 9
short_applied first between second one two other =
    let parts = three first between second in
    omega (arith, parts, one, two, other)

short_sum_line : (k : ℕ) → k < 100 → length (sum_line k) ≤ 23
short_sum_line zero below = omega arith
short_sum_line (suc k) below =
    short_binding (sum_name (suc k)) (sum_name k ++ codes " + " ++ named (codes "q") (suc k)) 9 (short_sum_name (suc k) below)
    (short_applied (sum_name k) (codes " + ") (named (codes "q") (suc k)) (short_sum_name k (omega (arith, below))) refl (short_name (codes "q") (suc k) refl below))

sum_of_five : (a b c d e : List ℕ) → length a ≤ 26 → length b ≤ 26 → length c ≤ 23 → length d ≤ 23 → length e ≤ 23 → length (a ++ b ++ c ++ d ++ e) ≤ 121
sum_of_five a b c d e ha hb hc hd he =
    let parts = five a b c d e in
    omega (arith, parts, ha, hb, hc, hd, he)

short_coordinate : (k : ℕ) → k < 100 → length (coordinate k) ≤ 121
short_coordinate k below =
    let a = short_name (codes "a") k refl below in
    let b = short_name (codes "b") k refl below in
    let d = short_name (codes "d") k refl below in
    let q = short_name (codes "q") k refl below in
    let first = short_binding (named (codes "a") k) (codes "input(alice)") 12 a (omega arith) in
    let second = short_binding (named (codes "b") k) (codes "input(bob)") 12 b (omega arith) in
    let difference =
    short_binding (named (codes "d") k) (named (codes "a") k ++ codes " - " ++ named (codes "b") k) 9 d (short_applied (named (codes "a") k) (codes " - ") (named (codes "b") k) a refl b) in
    let square =
    short_binding (named (codes "q") k) (named (codes "d") k ++ codes " * " ++ named (codes "d") k) 9 q (short_applied (named (codes "d") k) (codes " * ") (named (codes "d") k) d refl d) in
    let sum = short_sum_line k below in
    sum_of_five (binding (named (codes "a") k) (codes "input(alice)")) (binding (named (codes "b") k) (codes "input(bob)")) (binding (named (codes "d") k) (named (codes "a") k ++ codes " - " ++ named (codes "b") k))
    (binding (named (codes "q") k) (named (codes "d") k ++ codes " * " ++ named (codes "d") k)) (sum_line k) first second difference square sum

sum_of_two : (first rest whole : List ℕ) (n : ℕ) → whole ≡ first ++ rest → length first ≤ 121 → length rest ≤ 121 * n → length whole ≤ 121 * suc n
sum_of_two first rest whole n is hf hr =
    let parts = ap length is ∙ length-append first rest in
    omega (arith, parts, hf, hr)

short_coordinates : (a n : ℕ) → a + n ≤ 100 → length (flat_map coordinate (range_with_len a n)) ≤ 121 * n
short_coordinates a zero within = omega arith
short_coordinates a (suc n) within =
    sum_of_two (coordinate a) (flat_map coordinate (range_with_len (a + 1) n)) (flat_map coordinate (range_with_len a (suc n))) n (flat_map-cons coordinate a (range_with_len (a + 1) n))
    (short_coordinate a (omega (arith, within))) (short_coordinates (a + 1) n (omega (arith, within)))

short_answer : (last : ℕ) → last < 100 → length (answer last) ≤ 100
short_answer last below =
    let name = short_sum_name last below in
    let before : length (codes "declassify(") ≡ 11 = refl in
    let behind : length (codes " < 1000, {A | B})") ≡ 17 = refl in
    let parts = three (codes "declassify(") (sum_name last) (codes " < 1000, {A | B})") in
    let line = short_binding (codes "r") (codes "declassify(" ++ sum_name last ++ codes " < 1000, {A | B})") 40 (omega arith) (omega (arith, name, before, behind, parts)) in
    omega (arith, line)

-- ---- the whole text

sum_of_four : (a b c d : List ℕ) → length a ≤ 200 → length b ≤ 12100 → length c ≤ 100 → length d ≤ 200 → length (a ++ b ++ c ++ d) ≤ 65536
sum_of_four a b c d ha hb hc hd =
    let one = length-append (a ++ b ++ c) d in
    let parts = three a b c in
    omega (arith, one, parts, ha, hb, hc, hd)

most_of_all : (n : ℕ) (text : List ℕ) → n ≤ 100 → length text ≤ 121 * n → length text ≤ 12100
most_of_all n text most short = omega (arith, most, short)

pub short_source : (n : ℕ) → 1 ≤ n → n ≤ most_coordinates → length (generated n) ≤ most_source_bytes
short_source n some most =
    sum_of_four head (flat_map coordinate (range_with_len 0 n)) (answer (n - 1)) tail (omega arith) (most_of_all n (flat_map coordinate (range_with_len 0 n)) most (short_coordinates 0 n (omega (arith, most))))
    (short_answer (n - 1) (omega (arith, some, most))) (omega arith)
