-- What the bytes of a file come to: what is read of them, or the first offset at which they go on as no such file does.
use Rattle.std.specs.Prelude.{◌≡◌, ◌≢◌, ◌↔◌, ℕ, Result, Ok, Err}
use Rattle.vd_base.specs.declared.faults.FileFault.{FileFault}
use Rattle.vd_base.specs.declared.faults.FileFault.TheVariants.{Text, Memory}
use Rattle.vd_base_codec.specs.Reading.{capped}

-- The bytes have one outcome, and it is what is read of them.
pub record FollowsGrammar {X : Type 0} (read : Result X ℕ) (IsFileOf : X → Type 0) (IsWrongAt : ℕ → Type 0) : Type 0 where
  pub given : (x : X) → (read ≡ Ok x) ↔ IsFileOf x
  pub refused : (at : ℕ) → (read ≡ Err at) ↔ IsWrongAt at

-- The answer is what is read, unless memory runs out.
abbrev pub IsFaultOf : {X : Type 0} → Result X ℕ → FileFault → Type 0
IsFaultOf read (Text at) = (offset : ℕ) × (read ≡ Err offset) × (at ≡ capped offset)
IsFaultOf read Memory = Unit {0}

-- The fault tells the first offset at which the bytes go on as no such file does.
abbrev pub IsFirstWrong : (ℕ → Type 0) → FileFault → Type 0
IsFirstWrong IsWrongAt (Text at) = (offset : ℕ) × IsWrongAt offset × (at ≡ capped offset)
IsFirstWrong IsWrongAt Memory = ⊥

-- Unless memory runs out, a value is answered exactly where the bytes are its file.
abbrev pub Accepts : {X : Type 0} → (X → Type 0) → Result X FileFault → Type 0
Accepts {X} IsFileOf result = result ≢ Err Memory → (x : X) → (result ≡ Ok x) ↔ IsFileOf x

-- Unless memory runs out, a fault is answered exactly where the bytes have it.
abbrev pub Refuses : {X : Type 0} → (ℕ → Type 0) → Result X FileFault → Type 0
Refuses IsWrongAt result = result ≢ Err Memory → (fault : FileFault) → (result ≡ Err fault) ↔ IsFirstWrong IsWrongAt fault
