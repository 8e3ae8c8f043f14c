-- Which packets tell nothing. A packet is *blind* if each of its words is an own random word, an operand under a dealt mask, or a part of
-- a digest of a fresh nonce, which nothing has used since it was made; nor has anything else used the mask, or the nonce. All other packets
-- are *open*.
use Rattle.std.specs.Prelude.{ℕ, zero, suc, ◌+◌, Bool, true, false, ◌&&◌, ◌||◌, not, nat_eq, nat_lt, if◌then◌else◌, List, [], ◌∷◌, ◌++◌, length}
use Rattle.std.specs.List.{filter}
use Rattle.vd_execution.specs.declared.instructions.Reg.{Reg}
use Rattle.vd_execution.specs.declared.instructions.Binary.{Binary}
use Rattle.vd_execution.specs.declared.instructions.Binary.TheVariants as binary
use Rattle.vd_execution.specs.declared.instructions.Action.{Action}
use Rattle.vd_execution.specs.declared.instructions.Action.TheVariants as action
use Rattle.vd_execution.specs.declared.instructions.Instr.{Instr}
use Rattle.vd_execution.specs.declared.instructions.Instr.TheVariants as instr
use Rattle.vd_execution.specs.Text.{register}
use Rattle.vd_reorder.specs.Hastening.{Piece, Acts, Sends, Awaits}
use Rattle.vd_reorder.specs.ReorderLawsTesting.{row, has, meet, reads, writes}

-- An instruction reads the register or writes to it. Of what stands before the begin or the end of a block nothing is known.
abbrev pub touches : Reg → Instr → Bool
touches r (instr.Do a) = has r (reads a) || has r (writes a)
touches r (instr.Send p rs) = has r rs
touches r (instr.Recv p rs) = has r rs
touches r (instr.If g) = true
touches r instr.Else = true
touches r (instr.For k n) = true
touches r instr.End = true

-- What was done so far, the latest first: what is left of it from the latest that touches the register.
abbrev pub since : Reg → List Instr → List Instr
since r [] = []
since r (i ∷ before) = if touches r i then i ∷ before else since r before

-- the latest of what was done, looked at with what was done before it
abbrev pub latest : (Instr → List Instr → Bool) → List Instr → Bool
latest test [] = false
latest test (i ∷ before) = test i before

-- Of all that was done, what was done right behind these is the latest that touches the register.
abbrev pub is_latest : List Instr → Reg → List Instr → Bool
is_latest all r before = nat_eq (length (since r all)) (suc (length before))

-- one of the two words of a dealt product, where nothing of all that was done has used the product itself
abbrev pub is_factor : List Instr → Reg → Action → List Instr → Bool
is_factor all r (action.Triple p a b c) before = not (nat_eq r.0 c.0) && is_latest all c before
is_factor all r (action.Bits p a b c) before = not (nat_eq r.0 c.0) && is_latest all c before
is_factor all r a before = false

abbrev pub deals : List Instr → Reg → Instr → List Instr → Bool
deals all r (instr.Do a) before = is_factor all r a before
deals all r i before = false

-- a register that was dealt so, and not used before what is behind these; that uses it, and nothing else does
abbrev pub is_mask : List Instr → List Instr → Reg → Bool
is_mask all before r = latest (deals all r) (since r before) && is_latest all r before

-- an operation that hides its first operand where the second is random
abbrev pub hides : Binary → Bool
hides binary.Sub = true
hides binary.Xor = true
hides o = false

abbrev pub draws : Instr → List Instr → Bool
draws (instr.Do (action.Own r)) before = true
draws i before = false

-- an own word, which nothing uses but what is behind these
abbrev pub is_secret : List Instr → List Instr → Reg → Bool
is_secret all before r = latest draws (since r before) && is_latest all r before

-- so many in a row
abbrev pub are_secret : List Instr → List Instr → ℕ → ℕ → Bool
are_secret all before r zero = true
are_secret all before r (suc count) = is_secret all before (register r) && are_secret all before (r + 1) count

-- eight such words, in registers that there are
abbrev pub is_nonce : List Instr → List Instr → Reg → Bool
is_nonce all before n = nat_lt n.0 4294967288 && are_secret all before n.0 8

-- what an action has left in the register tells nothing: a fresh word, a word under a mask, or a part of a digest
abbrev pub leaves_blind : List Instr → Reg → Action → List Instr → Bool
leaves_blind all r (action.Own q) before = true
leaves_blind all r (action.Apply o q x m) before = nat_eq r.0 q.0 && (hides o && (not (nat_eq x.0 m.0) && is_mask all before m))
leaves_blind all r (action.Hash d n v) before = has r (row d.0 8) && is_nonce all before n
leaves_blind all r a before = false

abbrev pub left_blind : List Instr → Reg → Instr → List Instr → Bool
left_blind all r (instr.Do a) before = leaves_blind all r a before
left_blind all r i before = false

abbrev pub is_blind : List Instr → Reg → Bool
is_blind before r = latest (left_blind before r) (since r before)

-- the registers of a packet whose words may tell something
abbrev pub opened : List Instr → Instr → List Reg
opened before (instr.Send p rs) = filter (λ r. not (is_blind before r)) rs
opened before i = []

-- those of all packets of a code, behind what was done
abbrev pub opened_in : List Instr → List Instr → List Reg
opened_in before [] = []
opened_in before (i ∷ is) = opened before i ++ opened_in (i ∷ before) is

-- an action that draws an own word
abbrev pub is_draw : Action → Bool
is_draw (action.Own r) = true
is_draw a = false

-- What stays in its order: what is awaited, all that is done but draws of own words, and each packet with a register that is opened.
abbrev pub stays_by : List Reg → Piece → Bool
stays_by known (Acts a) = not (is_draw a)
stays_by known (Sends p rs) = meet rs known
stays_by known (Awaits p rs) = true

-- where packets of the code itself open registers
abbrev pub stays_in : List Instr → Piece → Bool
stays_in code = stays_by (opened_in [] code)
