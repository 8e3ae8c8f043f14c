-- What each operation gives, on words of 32 bits.
use Rattle.std.specs.Prelude.{ℕ, ◌+◌, ◌-◌, ◌*◌, ◌/◌, ◌%◌, ◌^◌, min, max, nat_eq, nat_lt, bit_and, bit_or, bit_xor, Bool, if◌then◌else◌, not, List, slice_index}
use Rattle.vd_base.specs.declared.operations.Op.{Op}
use Rattle.vd_base.specs.declared.operations.Op.TheVariants.{Add, Sub, Mul, Scale, Div, Rem, And, Or, Xor, Not, Flip, Shl, Shr, Eq, Ne, Lt, Le, Min, Max, Mux}

-- a truth value is the word 1 or 0
abbrev pub truth_word : Bool → ℕ
truth_word b = if b then 1 else 0

-- of the operands x, y and z; an operation looks at no more of them than it takes
abbrev pub operation : Op → ℕ → ℕ → ℕ → ℕ
operation Add x y z = (x + y) % 2 ^ 32
operation Sub x y z = (x + (2 ^ 32 - y)) % 2 ^ 32
operation Mul x y z = (x * y) % 2 ^ 32
operation (Scale k) x y z = (x * k) % 2 ^ 32
operation Div x y z = if nat_eq y 0 then 0 else x / y
operation Rem x y z = if nat_eq y 0 then x else x % y
operation And x y z = bit_and x y
operation Or x y z = bit_or x y
operation Xor x y z = bit_xor x y
operation Not x y z = 2 ^ 32 - 1 - x
operation Flip x y z = bit_xor x 1
operation (Shl k) x y z = (x * 2 ^ k) % 2 ^ 32
operation (Shr k) x y z = x / 2 ^ k
operation Eq x y z = truth_word (nat_eq x y)
operation Ne x y z = truth_word (not (nat_eq x y))
operation Lt x y z = truth_word (nat_lt x y)
operation Le x y z = truth_word (not (nat_lt y x))
operation Min x y z = min x y
operation Max x y z = max x y
operation Mux x y z = if nat_eq (x % 2) 1 then y else z

-- the same of a list of operands, where one that is missing is 0
abbrev pub result_of : Op → List ℕ → ℕ
result_of op operands = operation op (slice_index operands 0) (slice_index operands 1) (slice_index operands 2)
