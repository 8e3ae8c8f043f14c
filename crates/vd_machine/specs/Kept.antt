-- What a machine keeps, and the state that it stands for.
use Rattle.std.specs.Prelude.{◌≡◌, ℕ, zero, suc, ◌+◌, ◌-◌, ◌<◌, ◌≤◌, List, [], ◌∷◌, ◌++◌, take, drop, length, All, max, nat_lt, if◌then◌else◌}
use Rattle.vd_execution.specs.declared.instructions.Action.{Action}
use Rattle.vd_execution.specs.Registers.{Registers, put, put_each, written}
use Rattle.vd_execution.specs.Code.{Code, Finished, Then, Send, Recv, Choose, Repeat, followed_by}
use Rattle.vd_execution.specs.Ranges.{ActionFits, IsPacketRange, depth}
use Rattle.vd_execution.specs.Step.{State, Need, Nothing, Packet, Deed, Quiet, Said, Heard, next, need, need_of_action, word_printed, deed_of_print, words_in}
use Rattle.vd_machine.specs.declared.lists.Lists.{Lists}
use Rattle.vd_machine.specs.declared.lists.Taken.{Taken}
use Rattle.vd_machine.specs.declared.ops.Plain.{Plain}
use Rattle.vd_machine.specs.declared.ops.Plain.TheVariants as plain
use Rattle.vd_machine.specs.declared.ops.Op.{Op}
use Rattle.vd_machine.specs.declared.ops.Op.TheVariants.{Plain as One, If, For}
use Rattle.vd_machine.specs.declared.frames.Frame.{Frame}
use Rattle.vd_machine.specs.declared.frames.LoopFrame.{LoopFrame}
use Rattle.vd_machine.specs.declared.frames.Frame.TheVariants.{Run, Loop}
use Rattle.vd_machine.specs.Machines.{held, cursors_of, IsMet, words_for, SamePeers}

abbrev pub plain_then : Plain → Code → Code
plain_then (plain.Do a) c = Then a c
plain_then (plain.Send p rs) c = Send p.0 rs c
plain_then (plain.Recv p rs) c = Recv p.0 rs c

abbrev pub plain_need : Registers → Plain → Need
plain_need f (plain.Do a) = need_of_action f a
plain_need f (plain.Send p rs) = Nothing
plain_need f (plain.Recv p rs) = Packet p.0 (length rs)

abbrev pub plain_written : Registers → Plain → List ℕ → Registers
plain_written f (plain.Do a) xs = written f a xs
plain_written f (plain.Send p rs) xs = f
plain_written f (plain.Recv p rs) xs = put_each f rs xs

-- the registers after an instruction, on what was heard
abbrev pub plain_after : Registers → Lists → Taken → List ℕ → Plain → Registers
plain_after f l t heard i = plain_written f i (words_for l (cursors_of t) heard (plain_need f i))

abbrev pub action_after : Registers → Lists → Taken → Action → Registers
action_after f l t a = written f a (words_for l (cursors_of t) [] (need_of_action f a))

abbrev pub plain_deed : Registers → Plain → Deed
plain_deed f (plain.Do a) = deed_of_print (word_printed f a)
plain_deed f (plain.Send p rs) = Said p.0 (words_in f rs)
plain_deed f (plain.Recv p rs) = Heard p.0

abbrev pub IsWithin : ℕ → Plain → Type 0
IsWithin n (plain.Do a) = ActionFits n a
IsWithin n (plain.Send p rs) = All (λ r. r.0 < n) rs
IsWithin n (plain.Recv p rs) = All (λ r. r.0 < n) rs

abbrev pub OpIsWithin : ℕ → Op → Type 0
OpIsWithin n (One i) = IsWithin n i
OpIsWithin n (If r a b) = r < n
OpIsWithin n (For r k a) = r < n

-- its packet is from or to one of so many hosts, and not too long
abbrev pub PacketFits : ℕ → Op → Type 0
PacketFits hosts (One (plain.Do a)) = Unit {0}
PacketFits hosts (One (plain.Send p rs)) = IsPacketRange hosts p.0 rs
PacketFits hosts (One (plain.Recv p rs)) = IsPacketRange hosts p.0 rs
PacketFits hosts (If r a b) = Unit {0}
PacketFits hosts (For r k a) = Unit {0}

abbrev pub op_need : Registers → Op → Need
op_need f (One i) = plain_need f i
op_need f (If r a b) = Nothing
op_need f (For r k a) = Nothing

abbrev pub op_deed : Registers → Op → Deed
op_deed f (One i) = plain_deed f i
op_deed f (If r a b) = Quiet
op_deed f (For r k a) = Quiet

-- what a list of instructions does, of which at most n are read in a row
abbrev pub code_within : ℕ → List Op → Code
code_within zero is = Finished
code_within (suc n) [] = Finished
code_within (suc n) (One i ∷ is) = plain_then i (code_within n is)
code_within (suc n) (If r a b ∷ is) = Choose r (code_within n (take a is)) (code_within n (take b (drop a is))) (code_within n (drop b (drop a is)))
code_within (suc n) (For r k a ∷ is) = Repeat r 0 k (code_within n (take a is)) (code_within n (drop a is))

abbrev pub code_of : List Op → Code
code_of is = code_within (length is) is

-- the instructions from one place to another
abbrev pub span : List Op → ℕ → ℕ → List Op
span code from to = take (to - from) (drop from code)

-- each block ends within the list, and each register is below r
abbrev pub FitsWithin : ℕ → ℕ → List Op → Type 0
FitsWithin r zero is = is ≡ []
FitsWithin r (suc n) [] = Unit {0}
FitsWithin r (suc n) (One i ∷ is) = IsWithin r i × FitsWithin r n is
FitsWithin r (suc n) (If x a b ∷ is) = (x < r) × (a + b ≤ length is) × FitsWithin r n (take a is) × FitsWithin r n (take b (drop a is)) × FitsWithin r n (drop b (drop a is))
FitsWithin r (suc n) (For x k a ∷ is) = (x < r) × (a ≤ length is) × FitsWithin r n (take a is) × FitsWithin r n (drop a is)

abbrev pub IsFit : ℕ → List Op → Type 0
IsFit r is = FitsWithin r (length is) is

-- what a frame does, and then the rest
abbrev pub frame_code : List Op → Frame → Code → Code
frame_code code (Run from to) rest = followed_by (code_of (span code from to)) rest
frame_code code (Loop r turn k from mid to) rest = Repeat r turn k (code_of (span code from mid)) (followed_by (code_of (span code mid to)) rest)

-- what the frames do, the last one first
abbrev pub frames_code : List Op → List Frame → Code → Code
frames_code code [] rest = rest
frames_code code (f ∷ fs) rest = frames_code code fs (frame_code code f rest)

abbrev pub FrameFits : ℕ → List Op → Frame → Type 0
FrameFits r code (Run from to) = (from ≤ to) × (to ≤ length code) × IsFit r (span code from to)
FrameFits r code (Loop x turn k from mid to) = (x < r) × (turn ≤ k) × (from ≤ mid) × (mid ≤ to) × (to ≤ length code) × IsFit r (span code from mid) × IsFit r (span code mid to)

abbrev pub pending_of : List Op → Frame → List Frame → Code
pending_of code top below = frame_code code top (frames_code code below Finished)

-- the top frame has an instruction, or there is none left
abbrev pub IsSettled : Frame → List Frame → Type 0
IsSettled (Run from to) [] = Unit {0}
IsSettled (Run from to) (f ∷ fs) = from < to
IsSettled (Loop r turn k from mid to) fs = Unit {0}

pub record Kept : Type 0 where
  pub code : List Op
  pub top : Frame
  pub below : List Frame
  pub registers : List ℕ
  pub lists : Lists
  pub taken : Taken

abbrev pub state_of : Kept → State
state_of m = record {
  pending = pending_of m.code m.top m.below;
  registers = held m.registers;
  cursors = cursors_of m.taken;
}

-- the state before a code
abbrev pub at_start : Code → State
at_start c = record { pending = c; registers = λ r. 0; cursors = λ s. 0 }

-- what the next instruction needs is there, where these words were heard
abbrev pub CanHear : Kept → List ℕ → Type 0
CanHear m heard = IsMet m.lists (cursors_of m.taken) heard (need (state_of m))

-- the state after one step, on the words that were heard
abbrev pub stepped : Kept → List ℕ → State
stepped m heard = next (state_of m) (words_for m.lists (cursors_of m.taken) heard (need (state_of m)))

pub record IsSound (m : Kept) : Type 0 where
  pub top : FrameFits (length m.registers) m.code m.top
  pub below : All (λ f. FrameFits (length m.registers) m.code f) m.below
  pub settled : IsSettled m.top m.below
  pub peers : SamePeers m.lists m.taken

abbrev pub IsOver : Frame → Type 0
IsOver (Run from to) = to ≤ from
IsOver (Loop r turn k from mid to) = ⊥

abbrev pub frame_depth : List Op → Frame → ℕ
frame_depth code (Run from to) = depth (code_of (span code from to))
frame_depth code (Loop r turn k from mid to) = max (suc (depth (code_of (span code from mid)))) (depth (code_of (span code mid to)))

-- each frame, the first of them at place i, has room for the blocks that it may open
abbrev pub FramesHaveRoom : ℕ → List Op → ℕ → List Frame → Type 0
FramesHaveRoom n code i [] = Unit {0}
FramesHaveRoom n code i (f ∷ fs) = (i + frame_depth code f ≤ n) × FramesHaveRoom n code (i + 1) fs

-- n places are enough
pub record HasRoom (n : ℕ) (code : List Op) (top : Frame) (below : List Frame) : Type 0 where
  pub below_fit : FramesHaveRoom n code 0 below
  pub top_fits : length below + frame_depth code top ≤ n

-- what frames were does what frames are, they fit where they did
pub record Same (top : Frame) (below : List Frame) (top' : Frame) (below' : List Frame) : Type 0 where
  pub code : (code : List Op) → pending_of code top' below' ≡ pending_of code top below
  pub room : (n : ℕ) (code : List Op) → HasRoom n code top below → HasRoom n code top' below'
  pub fits : (r : ℕ) (code : List Op) → FrameFits r code top → All (λ f. FrameFits r code f) below → FrameFits r code top' × All (λ f. FrameFits r code f) below'

abbrev pub loop_of : LoopFrame → ℕ → Frame
loop_of l turn = Loop l.register turn l.turns l.from l.mid l.to

-- a loop's next turn, or what follows it: the top frame, those below, and the registers
abbrev pub turn_top : LoopFrame → Frame
turn_top l = if nat_lt l.turn l.turns then Run l.from l.mid else Run l.mid l.to

abbrev pub turn_below : LoopFrame → List Frame → List Frame
turn_below l below = if nat_lt l.turn l.turns then below ++ loop_of l (l.turn + 1) ∷ [] else below

abbrev pub turn_registers : LoopFrame → Registers → Registers
turn_registers l f = if nat_lt l.turn l.turns then put f l.register l.turn else f
