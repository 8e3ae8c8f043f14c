-- Numbers of a command line, in decimal.
use Rattle.std.specs.Prelude.{ℕ, ◌&&◌, nat_le, nat_lt, List, Option, Some, None, if◌then◌else◌}
use Rattle.vd_base.specs.Lexical.{is_numeral, decimal_value}

-- the number that a text is, if it is one from least to most
abbrev pub number_within : (least most : ℕ) → List ℕ → Option ℕ
number_within least most text = if is_numeral text && nat_le least (decimal_value text) && nat_le (decimal_value text) most then Some (decimal_value text) else None

-- the number that a text is, if it is below a bound
abbrev pub value_below : ℕ → List ℕ → Option ℕ
value_below bound text = if is_numeral text && nat_lt (decimal_value text) bound then Some (decimal_value text) else None
