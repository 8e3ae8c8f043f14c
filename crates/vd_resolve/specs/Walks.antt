-- What the steps of the walk over a source promise.
use Rattle.std.specs.Prelude.{◌≡◌, ◌≢◌, ℕ, Bool, true, false, List, [], ◌∷◌, map, Result, Ok, Err}
use Rattle.vd_resolve.specs.Faults.{Fault, bare, Cause, carried}
use Rattle.vd_resolve.specs.declared.fault.NameFault.{NameFault}
use Rattle.vd_resolve.specs.declared.fault.NameFault.TheVariants.{Memory}
use Rattle.vd_resolve.specs.declared.size.Size.{Size}
use Rattle.vd_resolve.specs.declared.symbol.Symbol.{Symbol}
use Rattle.vd_resolve.specs.declared.symbol.Symbol.TheVariants.{Constant, Variable, Array}
use Rattle.vd_resolve.specs.declared.symbol.Signature.{Signature}
use Rattle.vd_resolve.specs.declared.symbol.Callee.{Callee}
use Rattle.vd_base.specs.Names.{Named}
use Rattle.vd_resolve.specs.Sizes.{Variables, capped_size, IsCapped}

-- running out of memory may come at any step; every other fault is the one that the rules give
abbrev pub IsFaultOf : {A : Type 0} → Result A Fault → NameFault → Type 0
IsFaultOf check fault = fault ≢ Memory → check ≡ Err (bare fault)

-- and it carries what the walk over causes tells
abbrev pub IsCauseOf : {A : Type 0} → Result A Cause → NameFault → Type 0
IsCauseOf told fault = fault ≢ Memory → told ≡ Err (carried fault)

abbrev pub is_variable_symbol : Symbol → Bool
is_variable_symbol (Constant kind) = false
is_variable_symbol (Variable kind) = true
is_variable_symbol (Array kind) = false

abbrev pub variables : Named Symbol → Variables
variables env = map (λ e. (e.0, is_variable_symbol e.1)) env

abbrev pub signatures : Named Callee → Named Signature
signatures callees = map (λ e. (e.0, e.1.signature)) callees

-- callees of these exact sizes
abbrev pub HaveSizes : Named Callee → Named Size → Type 0
HaveSizes callees sizes = map {B = List ℕ × Size} (λ e. (e.0, e.1.size)) callees ≡ map {B = List ℕ × Size} (λ e. (e.0, capped_size e.1)) sizes

-- a size, and the values in sight after what has it
abbrev pub IsSized : Size → Named Symbol → Size × Variables → Type 0
IsSized size env sized = IsCapped size sized.0 × (sized.1 ≡ variables env)
