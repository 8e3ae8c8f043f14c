-- What the words of packets are that may go ahead.
use Rattle.std.specs.Prelude.{◌≡◌, ◌⊎◌, ℕ, ◌<◌, ◌^◌, List, [], ◌∷◌, ◌++◌, true, false, map, reverse}
use Rattle.vd_base.specs.Identities.{mul_left, mul_right, and_left, and_right}
use Rattle.vd_base.specs.declared.ids.HostId.{HostId}
use Rattle.vd_execution.specs.declared.instructions.Reg.{Reg}
use Rattle.vd_execution.specs.declared.instructions.Action.TheVariants as action
use Rattle.vd_execution.specs.declared.instructions.Instr.{Instr}
use Rattle.vd_execution.specs.declared.instructions.Instr.TheVariants as instr
use Rattle.vd_execution.specs.Registers.{Registers, put_each, written, nth}
use Rattle.vd_execution.specs.Step.{words_in}
use Rattle.vd_reorder.specs.Hastening.{Sends}
use Rattle.vd_reorder.specs.ReorderLawsTesting.{row, has, reads, writes}
use Rattle.vd_reorder.specs.Packets.{is_blind, stays_in}

-- an instruction that was done, with the words that it got: those of an item, or of a packet
pub record Did : Type 0 where
  pub instruction : Instr
  pub got : List ℕ

-- the registers behind an instruction
abbrev pub effect : Registers → Instr → List ℕ → Registers
effect f (instr.Do a) xs = written f a xs
effect f (instr.Send p rs) xs = f
effect f (instr.Recv p rs) xs = put_each f rs xs
effect f (instr.If g) xs = f
effect f instr.Else xs = f
effect f (instr.For r n) xs = f
effect f instr.End xs = f

-- and behind all that was done, the latest first
abbrev pub behind : Registers → List Did → Registers
behind f [] = f
behind f (d ∷ before) = effect (behind f before) d.instruction d.got

abbrev pub instructions : List Did → List Instr
instructions before = map (λ (d : Did). d.instruction) before

-- the words of the packets that were sent, the latest packet first
abbrev pub told_by : Registers → Instr → List (List ℕ)
told_by f (instr.Do a) = []
told_by f (instr.Send p rs) = words_in f rs ∷ []
told_by f (instr.Recv p rs) = []
told_by f (instr.If g) = []
told_by f instr.Else = []
told_by f (instr.For r n) = []
told_by f instr.End = []

abbrev pub told : Registers → List Did → List (List ℕ)
told f [] = []
told f (d ∷ before) = told_by (behind f before) d.instruction ++ told f before

-- each register holds a word, whenever
abbrev pub AreWords : Registers → List Did → Type 0
AreWords f before = (later earlier : List Did) → before ≡ later ++ earlier → (q : ℕ) → behind f earlier q < 2 ^ 32

-- An item is an own word, or it is a part of a dealt product and fits the part that the peer was dealt.
abbrev pub Fits : Instr → (mine theirs : List ℕ) → Type 0
Fits (instr.Do (action.Own r)) mine theirs = Unit {0}
Fits (instr.Do (action.Triple p a b c)) mine theirs =
    mul_left (nth mine 0) (nth theirs 0) (nth mine 1) (nth theirs 1) ≡ mul_right (nth mine 2) (nth theirs 2)
Fits (instr.Do (action.Bits p a b c)) mine theirs =
    and_left (nth mine 0) (nth theirs 0) (nth mine 1) (nth theirs 1) ≡ and_right (nth mine 2) (nth theirs 2)
Fits i mine theirs = ⊥

-- the registers that an item went to
abbrev pub filled : Instr → List Reg
filled (instr.Do a) = writes a
filled i = []

-- what was done, with another item in the place of one
abbrev pub with_item : (later : List Did) (item : Did) (earlier : List Did) → List ℕ → List Did
with_item later item earlier xs = later ++ (record item { got = xs }) ∷ earlier

-- and what a register then holds
abbrev pub word_with : Registers → (later : List Did) (item : Did) (earlier : List Did) → Reg → List ℕ → ℕ
word_with f later item earlier r xs = behind f (with_item later item earlier xs) r.0

-- A register's word hangs on one word of an item that shows nowhere else. With another word there, and with an item that fits whatever
-- part the peer was dealt, all that was told is as it was, and so is each register but this one and those that the item went to; and the
-- register's word can be any word, and is each for one word alone.
pub record IsHidden (f : Registers) (before : List Did) (r : Reg) : Type 0 where
  pub later : List Did
  pub item : Did
  pub earlier : List Did
  pub split : before ≡ later ++ item ∷ earlier
  pub with_word : (theirs : List ℕ) → ℕ → List ℕ
  pub fits : (theirs : List ℕ) (y : ℕ) → nth theirs 2 < 2 ^ 32 → Fits item.instruction (with_word theirs y) theirs
  pub untold : (theirs : List ℕ) (y : ℕ) → told f (with_item later item earlier (with_word theirs y)) ≡ told f before
  pub elsewhere : (theirs : List ℕ) (y : ℕ) (q : Reg) → has q (r ∷ filled item.instruction) ≡ false
      → word_with f later item earlier q (with_word theirs y) ≡ behind f before q.0
  pub every : (theirs : List ℕ) (w : ℕ) → w < 2 ^ 32
      → (y : ℕ) × (y < 2 ^ 32) × (word_with f later item earlier r (with_word theirs y) ≡ w)
  pub only : (theirs : List ℕ) (y z : ℕ) → y < 2 ^ 32 → z < 2 ^ 32
      → word_with f later item earlier r (with_word theirs y) ≡ word_with f later item earlier r (with_word theirs z)
      → y ≡ z

-- none of these reads a register or writes to it, and no block begins or ends
abbrev pub IsLeft : Reg → Instr → Type 0
IsLeft r (instr.Do a) = (has r (reads a) ≡ false) × (has r (writes a) ≡ false)
IsLeft r (instr.Send p rs) = has r rs ≡ false
IsLeft r (instr.Recv p rs) = has r rs ≡ false
IsLeft r (instr.If g) = ⊥
IsLeft r instr.Else = ⊥
IsLeft r (instr.For q n) = ⊥
IsLeft r instr.End = ⊥

abbrev pub AllLeft : Reg → List Did → Type 0
AllLeft r [] = Unit {0}
AllLeft r (d ∷ later) = IsLeft r d.instruction × AllLeft r later

-- a register holds an own word, which nothing has used but what was done between these
pub record IsUnused (later earlier : List Did) (r : Reg) : Type 0 where
  pub between : List Did
  pub drawn : Did
  pub first : List Did
  pub register : Reg
  pub split : earlier ≡ between ++ drawn ∷ first
  pub is : drawn.instruction ≡ instr.Do (action.Own register)
  pub same : r.0 ≡ register.0
  pub left : AllLeft r between
  pub unused : AllLeft r later

-- A register's word is a part of a digest, as it was made, and its nonce is eight own words that nothing else has used.
pub record IsOfDigest (f : Registers) (before : List Did) (r : Reg) : Type 0 where
  pub later : List Did
  pub made : Did
  pub earlier : List Did
  pub digest : Reg
  pub nonce : Reg
  pub value : Reg
  pub split : before ≡ later ++ made ∷ earlier
  pub is : made.instruction ≡ instr.Do (action.Hash digest nonce value)
  pub part : has r (row digest.0 8) ≡ true
  pub kept : behind f before r.0 ≡ behind f (made ∷ earlier) r.0
  pub secret : (n : Reg) → has n (row nonce.0 8) ≡ true → IsUnused later earlier n

-- what a text has before a block's instructions, the latest first: the mark with which the block begins, or that of one in it that ended
abbrev pub IsMark : Instr → Type 0
IsMark (instr.Do a) = ⊥
IsMark (instr.Send p rs) = ⊥
IsMark (instr.Recv p rs) = ⊥
IsMark (instr.If g) = Unit {0}
IsMark instr.Else = Unit {0}
IsMark (instr.For r n) = Unit {0}
IsMark instr.End = Unit {0}

abbrev pub AreMarked : List Instr → Type 0
AreMarked [] = Unit {0}
AreMarked (i ∷ is) = IsMark i

-- Whatever the registers held at the mark: a word that counts as blind is hidden, or of a digest.
abbrev pub BlindWordsHide : Type 0
BlindWordsHide = (f : Registers) (marked : List Instr) (before : List Did) (r : Reg) → AreMarked marked → AreWords f before
    → is_blind (instructions before ++ marked) r ≡ true → IsHidden f before r ⊎ IsOfDigest f before r

abbrev pub AllBlind : List Instr → List Reg → Type 0
AllBlind before [] = Unit {0}
AllBlind before (r ∷ rs) = (is_blind before r ≡ true) × AllBlind before rs

-- Where a packet need not stay, each of its words is blind where it is sent.
abbrev pub OnlyBlindPacketsGoAhead : Type 0
OnlyBlindPacketsGoAhead = (front back : List Instr) (p : HostId) (rs : List Reg)
    → stays_in (front ++ instr.Send p rs ∷ back) (Sends p.0 rs) ≡ false → AllBlind (reverse front) rs

-- So each word of a packet that may go ahead is hidden, or of a digest, where it is sent.
abbrev pub AllHide : Registers → List Did → List Reg → Type 0
AllHide f before [] = Unit {0}
AllHide f before (r ∷ rs) = (IsHidden f before r ⊎ IsOfDigest f before r) × AllHide f before rs

abbrev pub PacketsThatGoAheadHide : Type 0
PacketsThatGoAheadHide = (f : Registers) (marked : List Instr) (before : List Did) (back : List Instr) (p : HostId) (rs : List Reg)
    → AreMarked marked → AreWords f before
    → stays_in (reverse (instructions before ++ marked) ++ instr.Send p rs ∷ back) (Sends p.0 rs) ≡ false → AllHide f before rs
