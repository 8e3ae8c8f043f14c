-- A piece that is received whole, and begins with two given bytes.
use Rattle.std.specs.Prelude.{◌≡◌, ◌≢◌, ◌≤◌, ◌<◌, ◌⊎◌, ℕ, IsTrue, List, [], ◌∷◌, ◌++◌, length, Result, IfOk, IfErr, OnOk, IsErrOf}
use Rattle.vd_outside.specs.Causes.{Rose}
use Rattle.vd_outside.specs.Link.{FillsTo, LinkView}
use Rattle.vd_link.specs.declared.receiving.FrameFault.{FrameFault}
use Rattle.vd_link.specs.declared.receiving.FrameFault.TheVariants as frame_fault

-- these bytes begin with the two, as far as they reach
abbrev pub IsFront : ℕ → ℕ → List ℕ → Type 0
IsFront first second [] = Unit {0}
IsFront first second (a ∷ []) = a ≡ first
IsFront first second (a ∷ (b ∷ rest)) = (a ≡ first) × (b ≡ second)

-- the first of these bytes is this one, and not the one that should stand there
pub record IsWrongFirst (first byte : ℕ) (coming : List ℕ) : Type 0 where
  pub rest : List ℕ
  pub begins : coming ≡ byte ∷ rest
  pub wrong : byte ≢ first

-- the same of the second
pub record IsWrongSecond (first second byte : ℕ) (coming : List ℕ) : Type 0 where
  pub rest : List ℕ
  pub begins : coming ≡ first ∷ byte ∷ rest
  pub wrong : byte ≢ second

-- the first byte that is wrong of two that should stand there, with its offset: that of the first, or that of the next
abbrev pub IsBadByte : (first second at next offset byte : ℕ) → List ℕ → Type 0
IsBadByte first second at next offset byte coming =
    ((offset ≡ at) × IsWrongFirst first byte coming) ⊎ ((offset ≡ next) × IsWrongSecond first second byte coming)

-- what the fault says of these bytes
abbrev pub IsHeadFault : ℕ → ℕ → List ℕ → FrameFault → Type 0
IsHeadFault first second bytes frame_fault.Peer = ⊥
IsHeadFault first second bytes (frame_fault.First byte) = IsWrongFirst first byte bytes
IsHeadFault first second bytes (frame_fault.Second byte) = IsWrongSecond first second byte bytes
IsHeadFault first second bytes frame_fault.End = ⊥

-- what the fault says of the bytes that were to come: `whole` bytes were wanted
abbrev pub IsFrameFault : ℕ → ℕ → ℕ → List ℕ → FrameFault → Type 0
IsFrameFault first second whole coming frame_fault.Peer = Unit {0}
IsFrameFault first second whole coming (frame_fault.First byte) = IsWrongFirst first byte coming
IsFrameFault first second whole coming (frame_fault.Second byte) = IsWrongSecond first second byte coming
IsFrameFault first second whole coming frame_fault.End = (length coming < whole) × IsFront first second coming

-- the faults of a link alone
abbrev pub EndsReceive : FrameFault → Type 0
EndsReceive frame_fault.Peer = Unit {0}
EndsReceive (frame_fault.First byte) = ⊥
EndsReceive (frame_fault.Second byte) = ⊥
EndsReceive frame_fault.End = Unit {0}

pub record ReceivesAt (filled : ℕ) (old new : List ℕ) (before now : LinkView) (result : Result ℕ FrameFault) : Type 0 where
  pub later : before.faults ≤ now.faults
  pub ends : IfErr result EndsReceive
  pub failed : IsErrOf result frame_fault.Peer → Rose before.faults now.faults
  pub ended : IsErrOf result frame_fault.End → IsTrue now.ended
  pub still_told : now.told ≡ before.told
  pub sent : IsTrue now.told → now.sent ≡ before.sent
  pub more : IfOk result (λ total. filled < total)
  pub within : IfOk result (λ total. total ≤ length new)
  pub fills : IsTrue now.told → IfOk result (λ total. FillsTo filled total old new before now)
  pub none : IsTrue now.told → IsErrOf result frame_fault.End → before.coming ≡ []

-- `into` is what the piece holds afterwards
pub record Fills (first second : ℕ) (into : List ℕ) (before now : LinkView) (result : Result (Unit {0}) FrameFault) : Type 0 where
  pub later : before.faults ≤ now.faults
  pub failed : IsErrOf result frame_fault.Peer → Rose before.faults now.faults
  pub ended : IsErrOf result frame_fault.End → IsTrue now.ended
  pub still_told : now.told ≡ before.told
  pub sent : IsTrue now.told → now.sent ≡ before.sent
  pub begins : OnOk result (IsFront first second into)
  pub whole : IsTrue now.told → OnOk result (before.coming ≡ into ++ now.coming)
  pub fault : IsTrue now.told → IfErr result (IsFrameFault first second (length into) before.coming)
