-- Pieces that are received whole.
use Rattle.std.specs.Prelude.{◌≡◌, ◌≤◌, ◌<◌, ℕ, IsTrue, List, [], ◌++◌, length, Result, IfOk, IfErr, OnOk, IsErrOf}
use Rattle.vd_outside.specs.Causes.{Rose}
use Rattle.vd_outside.specs.Link.{FillsTo, LinkView}
use Rattle.vd_channel_link.specs.declared.fault.SealFault.{SealFault}
use Rattle.vd_channel_link.specs.declared.fault.SealFault.TheVariants as fault

-- the faults of a link alone
abbrev pub EndsReceive : SealFault → Type 0
EndsReceive fault.Peer = Unit {0}
EndsReceive fault.End = Unit {0}
EndsReceive fault.Version = ⊥
EndsReceive fault.Dealing = ⊥
EndsReceive fault.Host = ⊥
EndsReceive fault.Head = ⊥
EndsReceive fault.Code = ⊥

pub record ReceivesAt (filled : ℕ) (old new : List ℕ) (before now : LinkView) (result : Result ℕ SealFault) : Type 0 where
  pub later : before.faults ≤ now.faults
  pub ends : IfErr result EndsReceive
  pub failed : IsErrOf result fault.Peer → Rose before.faults now.faults
  pub ended : IsErrOf result fault.End → IsTrue now.ended
  pub still_told : now.told ≡ before.told
  pub sent : IsTrue now.told → now.sent ≡ before.sent
  pub more : IfOk result (λ total. filled < total)
  pub within : IfOk result (λ total. total ≤ length new)
  pub fills : IsTrue now.told → IfOk result (λ total. FillsTo filled total old new before now)

-- `into` is what the piece holds afterwards
pub record Fills (into : List ℕ) (before now : LinkView) (result : Result (Unit {0}) SealFault) : Type 0 where
  pub later : before.faults ≤ now.faults
  pub ends : IfErr result EndsReceive
  pub failed : IsErrOf result fault.Peer → Rose before.faults now.faults
  pub ended : IsErrOf result fault.End → IsTrue now.ended
  pub still_told : now.told ≡ before.told
  pub sent : IsTrue now.told → now.sent ≡ before.sent
  pub whole : IsTrue now.told → OnOk result (before.coming ≡ into ++ now.coming)

-- where the link ended, nothing was to come
abbrev pub EndsEmpty : {T : Type 0} → (before now : LinkView) → Result T SealFault → Type 0
EndsEmpty before now result = IsTrue now.told → IsErrOf result fault.End → before.coming ≡ []

-- where the link ended, fewer bytes were to come than the piece holds
abbrev pub EndsShort : {T : Type 0} → (into : List ℕ) → (before now : LinkView) → Result T SealFault → Type 0
EndsShort into before now result = IsTrue now.told → IsErrOf result fault.End → length before.coming < length into
