-- How many operands each operation takes.
use Rattle.std.specs.Prelude.{ℕ, Bool, true, nat_le}
use Rattle.vd_base.specs.declared.operations.Op.{Op}
use Rattle.vd_base.specs.declared.operations.Op.TheVariants.{Add, Sub, Mul, Scale, Div, Rem, And, Or, Xor, Not, Flip, Shl, Shr, Eq, Ne, Lt, Le, Min, Max, Mux}

abbrev pub arity : Op → ℕ
arity Add = 2
arity Sub = 2
arity Mul = 2
arity (Scale factor) = 1
arity Div = 2
arity Rem = 2
arity And = 2
arity Or = 2
arity Xor = 2
arity Not = 1
arity Flip = 1
arity (Shl bits) = 1
arity (Shr bits) = 1
arity Eq = 2
arity Ne = 2
arity Lt = 2
arity Le = 2
arity Min = 2
arity Max = 2
arity Mux = 3
