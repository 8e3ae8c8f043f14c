-- Code made by hand, for one of two hosts.
use Rattle.std.specs.Prelude.{ℕ, List, [], ◌∷◌}
use Rattle.vd_base.specs.HostSets.{host}
use Rattle.vd_execution.specs.declared.instructions.Binary.TheVariants as binary
use Rattle.vd_execution.specs.declared.instructions.Instr.{Instr}
use Rattle.vd_execution.specs.declared.instructions.Instr.TheVariants as instr
use Rattle.vd_execution.specs.declared.instructions.Action.TheVariants as action
use Rattle.vd_execution.specs.Code.{Code}
use Rattle.vd_execution.specs.Text.{register, IsCodeOf}
use Rattle.vd_execution.specs.Ranges.{IsInRange}

-- turns of a linear generator, each with its number and a shift mixed in; then its word is printed
abbrev pub counting : (turns : ℕ) → List Instr
counting turns =
    instr.Do (action.Const (register 2) 1664525)
    ∷ instr.For (register 0) turns
    ∷ instr.Do (action.Apply binary.Mul (register 1) (register 1) (register 2))
    ∷ instr.Do (action.Apply binary.Add (register 1) (register 1) (register 0))
    ∷ instr.Do (action.Shr (register 3) (register 1) 13)
    ∷ instr.Do (action.Apply binary.Xor (register 1) (register 1) (register 3))
    ∷ instr.End
    ∷ instr.Do (action.Print (register 1))
    ∷ []

-- turns in which their number is sent to host 1
abbrev pub speaker : (turns : ℕ) → List Instr
speaker turns = instr.For (register 0) turns ∷ instr.Send (host 1) (register 0 ∷ []) ∷ instr.End ∷ []

-- turns in which a word comes from host 0 and is added; then the sum is printed
abbrev pub listener : (turns : ℕ) → List Instr
listener turns =
    instr.For (register 1) turns
    ∷ instr.Recv (host 0) (register 0 ∷ [])
    ∷ instr.Do (action.Apply binary.Add (register 2) (register 2) (register 0))
    ∷ instr.End
    ∷ instr.Do (action.Print (register 2))
    ∷ []

-- one of two hosts can load the code
abbrev pub CanLoad : List Instr → Type 0
CanLoad code = (c : Code) × IsCodeOf code c × IsInRange 2 c
