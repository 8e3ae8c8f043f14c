-- Operations on words give words.
use Rattle.std.proofs.Common.{ℕ, ◌+◌, ◌-◌, ◌*◌, ◌/◌, ◌%◌, ◌^◌, ◌<◌, nat_eq, nat_lt, Bool, true, false, not, if◌then◌else◌, arith, rules}
use Rattle.std.proofs.Math.Nat.{div-le_self}
use Rattle.std.specs.Int.Bits.{and_lt}
use Rattle.std.proofs.lemmas.Nat.{or_lt, xor_lt}
use Rattle.vd_base.specs.declared.operations.Op.{Op}
use Rattle.vd_base.specs.declared.operations.Op.TheVariants.{Add, Sub, Mul, Scale, Div, Rem, And, Or, Xor, Not, Flip, Shl, Shr, Eq, Ne, Lt, Le, Min, Max, Mux}
use Rattle.vd_base.specs.Operations.{operation, truth_word}

either : (b : Bool) (x y : ℕ) → x < 2 ^ 32 → y < 2 ^ 32 → (if b then x else y) < 2 ^ 32
either true x y a b = a
either false x y a b = b

truth : (b : Bool) → truth_word b < 2 ^ 32
truth b = either b 1 0 (omega arith) (omega arith)

quotient : (x k : ℕ) → x < 2 ^ 32 → x / k < 2 ^ 32
quotient x k a = let q = div-le_self x k in omega (arith, a, q)

remainder : (x y : ℕ) → x < 2 ^ 32 → y < 2 ^ 32 → (if nat_eq y 0 then x else x % y) < 2 ^ 32
remainder x y a b = grind (arith, rules)

mod32 : (x : ℕ) → x % 2 ^ 32 < 2 ^ 32
mod32 x = omega arith

pub operation_word : (o : Op) (x y z : ℕ) → x < 2 ^ 32 → y < 2 ^ 32 → z < 2 ^ 32 → operation o x y z < 2 ^ 32
operation_word Add x y z a b c = mod32 (x + y)
operation_word Sub x y z a b c = mod32 (x + (2 ^ 32 - y))
operation_word Mul x y z a b c = mod32 (x * y)
operation_word (Scale k) x y z a b c = mod32 (x * k)
operation_word Div x y z a b c = either (nat_eq y 0) 0 (x / y) (omega arith) (quotient x y a)
operation_word Rem x y z a b c = remainder x y a b
operation_word And x y z a b c = and_lt 32 x y a b
operation_word Or x y z a b c = or_lt 32 x y a b
operation_word Xor x y z a b c = xor_lt 32 x y a b
operation_word Not x y z a b c = omega arith
operation_word Flip x y z a b c = xor_lt 32 x 1 a (omega arith)
operation_word (Shl k) x y z a b c = mod32 (x * 2 ^ k)
operation_word (Shr k) x y z a b c = quotient x (2 ^ k) a
operation_word Eq x y z a b c = truth (nat_eq x y)
operation_word Ne x y z a b c = truth (not (nat_eq x y))
operation_word Lt x y z a b c = truth (nat_lt x y)
operation_word Le x y z a b c = truth (not (nat_lt y x))
operation_word Min x y z a b c = omega (arith, a, b)
operation_word Max x y z a b c = omega (arith, a, b)
operation_word Mux x y z a b c = either (nat_eq (x % 2) 1) y z b c
