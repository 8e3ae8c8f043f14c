-- The word that a cell of a table comes to, times a factor.
use Rattle.std.specs.Prelude.{ℕ, ◌*◌, ◌+◌, ◌/◌, ◌%◌, ◌^◌, Bool, ◌||◌, ◌&&◌, not, List, [], ◌∷◌, Option, Some, None, Result, Ok, Err, length, take, drop, nat_eq, nat_lt, if◌then◌else◌}
use Rattle.std.specs.List.{prefix_len}
use Rattle.vd_base.specs.Lexical.{is_digit, number_of}
use Rattle.vd_cmd_plan.specs.declared.status.TableFault.{TableFault}
use Rattle.vd_cmd_plan.specs.declared.status.TableFault.TheVariants.{Empty, Fraction, Large, NoNumber, Sign}

abbrev pub is_zero : ℕ → Bool
is_zero byte = nat_eq byte 48

-- the number that digits write, zeros at their front included, if it is a word
abbrev pub value_in : (digits : List ℕ) → Option ℕ
value_in digits = if nat_eq (prefix_len is_zero digits) (length digits) then Some 0 else number_of (drop (prefix_len is_zero digits) digits)

-- the power of ten for so many decimals, which are at most nine
abbrev pub power_of_ten : (decimals : ℕ) → Option ℕ
power_of_ten decimals = if nat_lt decimals 10 then Some (10 ^ decimals) else None

-- value / scale, times the factor, where that is whole and a word
abbrev pub scaled : (factor value scale : ℕ) → Result ℕ TableFault
scaled factor value scale =
    if not (nat_lt value (2 ^ 32)) then Err Large
    else if not (nat_eq ((value * factor) % scale) 0) then Err Fraction
    else if not (nat_lt ((value * factor) / scale) (2 ^ 32)) then Err Large
    else Ok ((value * factor) / scale)

abbrev pub scaled_by : (factor : ℕ) → (whole decimals scale : Option ℕ) → Result ℕ TableFault
scaled_by factor (Some whole) (Some decimals) (Some scale) = scaled factor (whole * scale + decimals) scale
scaled_by factor whole decimals scale = Err Large

-- some digits, and nothing else
abbrev pub are_digits : List ℕ → Bool
are_digits bytes = nat_lt 0 (prefix_len is_digit bytes) && nat_eq (prefix_len is_digit bytes) (length bytes)

-- digits, and what stands behind them: nothing, or a point and digits
abbrev pub number_word : (factor : ℕ) → (whole behind : List ℕ) → Result ℕ TableFault
number_word factor whole [] = scaled_by factor (value_in whole) (Some 0) (Some 1)
number_word factor whole (point ∷ decimals) =
    if nat_eq point 46 && are_digits decimals then scaled_by factor (value_in whole) (value_in decimals) (power_of_ten (length decimals)) else Err NoNumber

-- a cell that is not empty and has no sign
abbrev pub unsigned_word : (factor : ℕ) → (cell : List ℕ) → Result ℕ TableFault
unsigned_word factor cell =
    if nat_eq (prefix_len is_digit cell) 0 then Err NoNumber
    else number_word factor (take (prefix_len is_digit cell) cell) (drop (prefix_len is_digit cell) cell)

-- `+` and `-`
abbrev pub is_sign : ℕ → Bool
is_sign byte = nat_eq byte 43 || nat_eq byte 45

abbrev pub cell_word : (factor : ℕ) → (cell : List ℕ) → Result ℕ TableFault
cell_word factor [] = Err Empty
cell_word factor (first ∷ rest) = if is_sign first then Err Sign else unsigned_word factor (first ∷ rest)
