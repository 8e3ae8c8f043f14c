-- The ranges of host code: of one instruction, of open blocks, and of all steps. Instructions count from 0 in text order, without `else` and `end`.
use Rattle.std.specs.Prelude.{◌≡◌, ◌⊎◌, ◌==◌, ℕ, ◌+◌, ◌-◌, ◌<◌, Bool, true, false, ◌&&◌, ◌||◌, not, List, [], ◌∷◌, ◌++◌, Option, Some, None, length, nat_lt, nat_le, if◌then◌else◌}
use Rattle.std.specs.List.{list_all}
use Rattle.vd_base.specs.Limits.{most_registers, most_packet_words, most_open_blocks, most_cells}
use Rattle.vd_base.specs.declared.ids.HostId.{HostId}
use Rattle.vd_execution.specs.declared.instructions.Reg.{Reg}
use Rattle.vd_execution.specs.declared.instructions.Action.{Action}
use Rattle.vd_execution.specs.declared.instructions.Action.TheVariants as action
use Rattle.vd_execution.specs.declared.instructions.Instr.{Instr}
use Rattle.vd_execution.specs.declared.instructions.Instr.TheVariants as instr
use Rattle.vd_execution.specs.Code.{Code, weight}
use Rattle.vd_execution.specs.Text.{IsCodeOf}

-- ---- one instruction

abbrev pub is_register : Reg → Bool
is_register r = nat_lt r.0 most_registers

-- so many registers from one on, which is a register even where there are none
abbrev pub are_registers : Reg → ℕ → Bool
are_registers r count = is_register r && nat_le (r.0 + count) most_registers

-- the cells of an array
abbrev pub is_array : Reg → ℕ → Bool
is_array r count = nat_le count most_cells && are_registers r count

-- one of so many hosts, and not the own
abbrev pub is_peer : ℕ → HostId → HostId → Bool
is_peer hosts me p = nat_lt p.0 hosts && not (p.0 == me.0)

-- a peer, and three registers
abbrev pub is_share : ℕ → HostId → HostId → Reg → Reg → Reg → Bool
is_share hosts me p a b c = is_peer hosts me p && (is_register a && (is_register b && is_register c))

abbrev pub action_is_within : ℕ → HostId → Action → Bool
action_is_within hosts me (action.Const r k) = is_register r
action_is_within hosts me (action.Copy r x) = is_register r && is_register x
action_is_within hosts me (action.Apply o r x y) = is_register r && (is_register x && is_register y)
action_is_within hosts me (action.Shl r x k) = nat_lt k 32 && (is_register r && is_register x)
action_is_within hosts me (action.Shr r x k) = nat_lt k 32 && (is_register r && is_register x)
action_is_within hosts me (action.Mux r c x y) = is_register r && (is_register c && (is_register x && is_register y))
action_is_within hosts me (action.Own r) = is_register r
action_is_within hosts me (action.Triple p a b c) = is_share hosts me p a b c
action_is_within hosts me (action.Bits p a b c) = is_share hosts me p a b c
action_is_within hosts me (action.Pair p s x) = is_peer hosts me p && (is_register s && is_register x)
action_is_within hosts me (action.Input r) = is_register r
action_is_within hosts me (action.Print r) = is_register r
action_is_within hosts me (action.Hash d n v) = are_registers d 8 && (are_registers n 8 && is_register v)
action_is_within hosts me (action.Same x y) = is_register x && is_register y
action_is_within hosts me (action.Zero r count) = is_array r count
action_is_within hosts me (action.Get r x count i) = is_register r && (is_array x count && is_register i)
action_is_within hosts me (action.Put x count i s) = is_array x count && (is_register i && is_register s)

abbrev pub packet_is_within : ℕ → HostId → HostId → List Reg → Bool
packet_is_within hosts me p rs = is_peer hosts me p && (nat_le (length rs) most_packet_words && list_all is_register rs)

abbrev pub is_within : ℕ → HostId → Instr → Bool
is_within hosts me (instr.Do a) = action_is_within hosts me a
is_within hosts me (instr.Send p rs) = packet_is_within hosts me p rs
is_within hosts me (instr.Recv p rs) = packet_is_within hosts me p rs
is_within hosts me (instr.If g) = is_register g
is_within hosts me instr.Else = true
is_within hosts me (instr.For r count) = is_register r
is_within hosts me instr.End = true

-- ---- open blocks, and numbers of instructions

abbrev pub opens : Instr → Bool
opens (instr.If g) = true
opens (instr.For r count) = true
opens i = false

-- how many blocks are open behind an instruction, of so many before it
abbrev pub open_behind : ℕ → Instr → ℕ
open_behind before (instr.If g) = before + 1
open_behind before (instr.For r count) = before + 1
open_behind before instr.End = before - 1
open_behind before i = before

-- `else` and `end` have no number
abbrev pub numbers : Instr → ℕ
numbers instr.Else = 0
numbers instr.End = 0
numbers i = 1

-- an instruction breaks a range, where so many blocks are open before it
abbrev pub breaks : ℕ → HostId → ℕ → Instr → Bool
breaks hosts me before i = not (is_within hosts me i) || (opens i && nat_le most_open_blocks before)

abbrev pub open_in : ℕ → List Instr → ℕ
open_in before [] = before
open_in before (i ∷ is) = open_in (open_behind before i) is

abbrev pub count_in : List Instr → ℕ
count_in [] = 0
count_in (i ∷ is) = numbers i + count_in is

-- The instruction with this number breaks a range, where so many are numbered, and so many blocks open, before the code.
pub record BreaksFrom (hosts : ℕ) (me : HostId) (numbered before : ℕ) (code : List Instr) (number : ℕ) : Type 0 where
  pub front : List Instr
  pub instruction : Instr
  pub rest : List Instr
  pub split : code ≡ front ++ instruction ∷ rest
  pub number_is : number ≡ numbered + count_in front
  pub breaks_there : breaks hosts me (open_in before front) instruction ≡ true

abbrev pub BreaksAt : ℕ → HostId → List Instr → ℕ → Type 0
BreaksAt hosts me code number = BreaksFrom hosts me 0 0 code number

-- ---- steps

-- static steps: an instruction has 1, a branch 1 and those of both parts, a loop of K turns K + 1 and K times those of its body
abbrev pub static_steps : Code → ℕ
static_steps c = weight c

abbrev pub most_steps : ℕ
most_steps = 4294967295

-- The code has too many static steps, which the last instruction answers for.
pub record IsTooLong (code : List Instr) (number : ℕ) : Type 0 where
  pub nested : Code
  pub is_code : IsCodeOf code nested
  pub many : most_steps < static_steps nested
  pub last : number + 1 ≡ count_in code

-- ---- all of a code

abbrev pub Breaks : ℕ → HostId → List Instr → ℕ → Type 0
Breaks hosts me code number = BreaksAt hosts me code number ⊎ IsTooLong code number

-- the first instruction that breaks a range
pub record IsFirstBroken (hosts : ℕ) (me : HostId) (code : List Instr) (number : ℕ) : Type 0 where
  pub broken : Breaks hosts me code number
  pub none_before : (earlier : ℕ) → earlier < number → Breaks hosts me code earlier → ⊥

abbrev pub IsWithinRanges : ℕ → HostId → List Instr → Type 0
IsWithinRanges hosts me code = (number : ℕ) → Breaks hosts me code number → ⊥

-- the number of the first of these instructions that breaks a range of its own or of blocks
abbrev pub first_broken : ℕ → HostId → ℕ → ℕ → List Instr → Option ℕ
first_broken hosts me numbered before [] = None
first_broken hosts me numbered before (i ∷ is) =
    if breaks hosts me before i then Some numbered else first_broken hosts me (numbered + numbers i) (open_behind before i) is
