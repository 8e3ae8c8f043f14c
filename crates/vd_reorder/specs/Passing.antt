-- The pass over the text of a code.
use Rattle.std.specs.Prelude.{◌≡◌, ℕ, zero, suc, ◌-◌, ◌≤◌, Bool, true, false, ◌&&◌, if◌then◌else◌, List, [], ◌∷◌, ◌++◌, take, drop, get_or, replicate}
use Rattle.vd_base.specs.declared.ids.HostId.{HostId}
use Rattle.vd_execution.specs.declared.instructions.Reg.{Reg}
use Rattle.vd_execution.specs.declared.instructions.Action.TheVariants as action
use Rattle.vd_execution.specs.declared.instructions.Instr.{Instr}
use Rattle.vd_execution.specs.declared.instructions.Instr.TheVariants as instr
use Rattle.vd_execution.specs.Code.{Code}
use Rattle.vd_execution.specs.Text.{IsCodeOf}
use Rattle.vd_reorder.specs.Hastening.{Piece, Acts, Sends, Awaits}
use Rattle.vd_reorder.specs.ReorderLawsPassing.{hastened}
use Rattle.vd_reorder.specs.Careful.{careful, IsCarefullyHastened}
use Rattle.vd_reorder.specs.Packets.{stays_by}

-- Each instruction is passed by at most so many packets, so that links need room for no more.
abbrev pub window : ℕ
window = 512

-- the code that the careful pass makes of a host's code, where packets with these registers are open
abbrev pub hastened_code : List Reg → Code → Code
hastened_code opened c = hastened (careful (stays_by opened)) window c

-- A test on pieces, of two instructions. What is sent does not wait.
abbrev pub second_passes : (Piece → Piece → Bool) → Piece → Instr → Bool
second_passes test x (instr.Do a) = test x (Acts a)
second_passes test x (instr.Send p rs) = test x (Sends p.0 rs)
second_passes test x i = false

abbrev pub passes : (Piece → Piece → Bool) → Instr → Instr → Bool
passes test (instr.Do a) i = second_passes test (Acts a) i
passes test (instr.Recv p rs) i = second_passes test (Awaits p.0 rs) i
passes test x i = false

-- so many packets may still pass: before an instruction, and behind it
abbrev pub has_room : ℕ → Instr → Bool
has_room n (instr.Do a) = true
has_room zero (instr.Send p rs) = false
has_room (suc n) (instr.Send p rs) = true
has_room n i = true

abbrev pub room_behind : ℕ → Instr → ℕ
room_behind n (instr.Do a) = n
room_behind zero (instr.Send p rs) = zero
room_behind (suc n) (instr.Send p rs) = n
room_behind n i = n

-- ---- blocks

-- so many blocks are open behind an instruction
abbrev pub depth_behind : ℕ → Instr → ℕ
depth_behind d (instr.Do a) = d
depth_behind d (instr.Send p rs) = d
depth_behind d (instr.Recv p rs) = d
depth_behind d (instr.If g) = suc d
depth_behind d instr.Else = d
depth_behind d (instr.For r n) = suc d
depth_behind zero instr.End = zero
depth_behind (suc d) instr.End = d

-- nothing more where none is open
abbrev pub if_open : ℕ → ℕ → ℕ
if_open zero n = 0
if_open (suc d) n = n

-- the length of what stands up to where no block is open: of the first instruction, or of the block that it begins
abbrev pub span : ℕ → List Instr → ℕ
span d [] = 0
span d (i ∷ is) = suc (if_open (depth_behind d i) (span (depth_behind d i) is))

-- before each turn of a loop
abbrev pub turns_pass : (Piece → Piece → Bool) → Reg → ℕ → Instr → Bool
turns_pass test r zero j = second_passes test (Acts (action.Const r zero)) j
turns_pass test r (suc k) j = second_passes test (Acts (action.Const r (suc k))) j && turns_pass test r k j

-- before one instruction of a block; a block with messages is not passed
abbrev pub mark_passes : (Piece → Piece → Bool) → Instr → Instr → Bool
mark_passes test (instr.Do a) j = second_passes test (Acts a) j
mark_passes test (instr.Send p rs) j = false
mark_passes test (instr.Recv p rs) j = false
mark_passes test (instr.If g) j = second_passes test (Acts (action.Print g)) j
mark_passes test instr.Else j = true
mark_passes test (instr.For r n) j = turns_pass test r n j
mark_passes test instr.End j = true

abbrev pub all_pass : (Piece → Piece → Bool) → List Instr → Instr → Bool
all_pass test [] j = true
all_pass test (i ∷ is) j = mark_passes test i j && all_pass test is j

-- before an instruction, or before a whole block
abbrev pub stretch_passes : (Piece → Piece → Bool) → List Instr → Instr → Bool
stretch_passes test [] j = false
stretch_passes test (instr.Do a ∷ is) j = second_passes test (Acts a) j
stretch_passes test (instr.Send p rs ∷ is) j = false
stretch_passes test (instr.Recv p rs ∷ is) j = second_passes test (Awaits p.0 rs) j
stretch_passes test (instr.If g ∷ is) j = all_pass test (instr.If g ∷ is) j
stretch_passes test (instr.Else ∷ is) j = false
stretch_passes test (instr.For r n ∷ is) j = all_pass test (instr.For r n ∷ is) j
stretch_passes test (instr.End ∷ is) j = false

-- What stands from one place up to another one, an instruction or a block, goes behind the instruction there, where so many packets may still
-- pass it.
abbrev pub goes_behind : (Piece → Piece → Bool) → List Instr → ℕ → ℕ → ℕ → Bool
goes_behind test code first behind room =
    stretch_passes test (take (behind - first) (drop first code)) (get_or code behind instr.Else) && has_room room (get_or code behind instr.Else)

-- ---- the pass

-- the list with the element at the second place moved before those from the first place on
abbrev pub risen : {X : Type 0} → ℕ → ℕ → List X → List X
risen first last xs = take first (take last xs) ++ (drop last (take (suc last) xs) ++ (drop first (take last xs) ++ drop (suc last) xs))

-- an instruction, or a block, behind as much of a text as the test lets it
abbrev pub sunk_text : (Piece → Piece → Bool) → ℕ → List Instr → List Instr → List Instr
sunk_text test n xs [] = xs
sunk_text test n xs (i ∷ is) = if stretch_passes test xs i && has_room n i then i ∷ sunk_text test (room_behind n i) xs is else xs ++ i ∷ is

-- what stands first in a text
abbrev pub sunk_first : (Piece → Piece → Bool) → ℕ → List Instr → List Instr
sunk_first test n is = sunk_text test n (take (span 0 is) is) (drop (span 0 is) is)

abbrev pub hastened_text : (Piece → Piece → Bool) → ℕ → List Instr → List Instr
hastened_text test n [] = []
hastened_text test n (x ∷ is) = sunk_first test n (x ∷ hastened_text test n is)

-- the text that it makes of a text
abbrev pub hastened_by : List Reg → List Instr → List Instr
hastened_by opened text = hastened_text (careful (stays_by opened)) window text

-- The pass over the text of a code gives the text of what the pass over the code gives.
abbrev pub TextsArePassed : Type 0
TextsArePassed = (test : Piece → Piece → Bool) (n : ℕ) (is : List Instr) (c : Code) → IsCodeOf is c
    → IsCodeOf (hastened_text test n is) (hastened test n c)

-- The new text is that of the hastened code of the old one, in which all that is to stay stands in its order.
pub record IsHastenedText (opened : List Reg) (new : List Instr) (c : Code) : Type 0 where
  pub nested : IsCodeOf new (hastened_code opened c)
  pub careful : IsCarefullyHastened (stays_by opened) c (hastened_code opened c)

-- Where packets may go ahead of what waits for a peer, up to 512 do.
abbrev pub PacketsGoAhead : Type 0
PacketsGoAhead = (from to : HostId) (awaited sent : List Reg) (n : ℕ) → n ≤ 512
    → hastened_text (λ x y. true) window (instr.Recv from awaited ∷ replicate n (instr.Send to sent)) ≡ replicate n (instr.Send to sent) ++ instr.Recv from awaited ∷ []
