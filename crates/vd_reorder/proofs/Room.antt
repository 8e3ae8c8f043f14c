-- How many packets may still pass, as a number.
use Rattle.std.proofs.Common.{◌≡◌, ℕ, zero, suc, ◌-◌, nat_lt, List, refl, sym, arith}
use Rattle.std.proofs.lemmas.Bool.{lt-ltb}
use Rattle.vd_base.specs.declared.ids.HostId.{HostId}
use Rattle.vd_execution.specs.declared.instructions.Reg.{Reg}
use Rattle.vd_execution.specs.declared.instructions.Instr.TheVariants as instr
use Rattle.vd_reorder.specs.Passing.{has_room, room_behind}

pub room_left : (n : ℕ) (p : HostId) (rs : List Reg) → has_room n (instr.Send p rs) ≡ nat_lt 0 n
room_left zero p rs = refl
room_left (suc n) p rs = sym (lt-ltb 0 (suc n) (omega arith))

pub room_less : (n : ℕ) (p : HostId) (rs : List Reg) → room_behind n (instr.Send p rs) ≡ n - 1
room_less zero p rs = omega arith
room_less (suc n) p rs = omega arith
