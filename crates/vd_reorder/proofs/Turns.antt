-- All turns of a loop are passed alike.
use Rattle.std.proofs.Common.{◌≡◌, ℕ, zero, suc, Bool, true, false, ◌&&◌, List, refl, sym, ap, ap₂, ◌∙◌}
use Rattle.vd_execution.specs.declared.instructions.Reg.{Reg}
use Rattle.vd_execution.specs.declared.instructions.Action.TheVariants as action
use Rattle.vd_execution.specs.declared.instructions.Instr.{Instr}
use Rattle.vd_execution.specs.declared.instructions.Instr.TheVariants as instr
use Rattle.vd_reorder.specs.Hastening.{Acts}
use Rattle.vd_reorder.specs.Careful.{careful}
use Rattle.vd_reorder.specs.Packets.{stays_by}
use Rattle.vd_reorder.specs.Passing.{passes, second_passes, turns_pass}

twice : (b : Bool) → (b && b) ≡ b
twice true = refl
twice false = refl

-- the number that is counted is no matter
any_turn : (known : List Reg) (r : Reg) (k : ℕ) (j : Instr)
    → second_passes (careful (stays_by known)) (Acts (action.Const r k)) j ≡ second_passes (careful (stays_by known)) (Acts (action.Const r 0)) j
any_turn known r k (instr.Do a) = refl
any_turn known r k (instr.Send p rs) = refl
any_turn known r k (instr.Recv p rs) = refl
any_turn known r k (instr.If g) = refl
any_turn known r k instr.Else = refl
any_turn known r k (instr.For i n) = refl
any_turn known r k instr.End = refl

pub turns_alike : (known : List Reg) (r : Reg) (n : ℕ) (j : Instr)
    → turns_pass (careful (stays_by known)) r n j ≡ passes (careful (stays_by known)) (instr.Do (action.Const r 0)) j
turns_alike known r zero j = refl
turns_alike known r (suc n) j =
    ap₂ (λ (x y : Bool). x && y) (any_turn known r (suc n) j) (turns_alike known r n j) ∙ twice (second_passes (careful (stays_by known)) (Acts (action.Const r 0)) j)
