-- A record that comes.
use Rattle.std.specs.Prelude.{◌≡◌, ◌≤◌, ◌<◌, ℕ, ◌+◌, true, false, ◌&&◌, IsTrue, List, [], ◌∷◌, ◌++◌, length, slice_index, Result, IfOk, IfErr, IsErrOf}
use Rattle.vd_outside.specs.Causes.{Rose}
use Rattle.vd_outside.specs.Link.{LinkView}
use Rattle.vd_channel_crypto.specs.Records.{Direction, record_code, sealed}
use Rattle.vd_channel_crypto.specs.Streams.{key_stream, under}
use Rattle.vd_channel_link.specs.Opened.{has_code, has_tag, is_few, length_at}
use Rattle.vd_channel_link.specs.declared.fault.SealFault.{SealFault}
use Rattle.vd_channel_link.specs.declared.fault.SealFault.TheVariants as fault

-- A record with the code of this direction and number came, and these are its bytes.
pub record Carries (keys : Direction) (number : ℕ) (coming rest bytes : List ℕ) : Type 0 where
  pub covered : List ℕ
  pub came : coming ≡ (0x58 ∷ length covered ∷ []) ++ (covered ++ (record_code keys number covered ++ rest))
  pub few : length covered ≤ 128
  pub plain : bytes ≡ under covered (key_stream keys.cipher number)

-- The record of these bytes in this direction with this number came, whole, and this is behind it.
pub record Brings (keys : Direction) (number : ℕ) (coming rest bytes : List ℕ) : Type 0 where
  pub came : coming ≡ sealed keys number bytes ++ rest
  pub few : length bytes ≤ 128

-- these bytes end within a record that begins so
abbrev pub IsCut : List ℕ → Type 0
IsCut coming = length coming < 34 + slice_index coming 1

pub record TakesRecord (Came : List ℕ → Type 0) (before now : LinkView) (result : Result (List ℕ) SealFault) : Type 0 where
  pub later : before.faults ≤ now.faults
  pub failed : IsErrOf result fault.Peer → Rose before.faults now.faults
  pub ended : IsErrOf result fault.End → IsTrue now.ended
  pub still_told : now.told ≡ before.told
  pub sent : IsTrue now.told → now.sent ≡ before.sent
  pub came : IsTrue now.told → IfOk result Came

abbrev pub TakesCarried : Direction → ℕ → LinkView → LinkView → Result (List ℕ) SealFault → Type 0
TakesCarried keys number before now result = TakesRecord (Carries keys number before.coming now.coming) before now result

abbrev pub TakesSealed : Direction → ℕ → LinkView → LinkView → Result (List ℕ) SealFault → Type 0
TakesSealed keys number before now result = TakesRecord (Brings keys number before.coming now.coming) before now result

-- these bytes begin with what begins no record
abbrev pub HasNoHead : List ℕ → Type 0
HasNoHead coming = (2 ≤ length coming) × ((has_tag coming && is_few coming) ≡ false)

-- a record stands at their front whole, with another code than that of this direction and number
abbrev pub HasOtherCode : Direction → ℕ → List ℕ → Type 0
HasOtherCode keys number coming =
    ((has_tag coming && is_few coming) ≡ true) × (34 + length_at coming ≤ length coming) × (has_code keys number coming ≡ false)

-- what a fault says of the bytes that came
abbrev pub IsReason : Direction → ℕ → List ℕ → SealFault → Type 0
IsReason keys number coming fault.Peer = Unit {0}
IsReason keys number coming fault.End = IsCut coming
IsReason keys number coming fault.Version = ⊥
IsReason keys number coming fault.Dealing = ⊥
IsReason keys number coming fault.Host = ⊥
IsReason keys number coming fault.Head = HasNoHead coming
IsReason keys number coming fault.Code = HasOtherCode keys number coming

-- bytes are refused for what is wrong with them
abbrev pub Refuses : {T : Type 0} → (keys : Direction) → (number : ℕ) → (before now : LinkView) → Result T SealFault → Type 0
Refuses keys number before now result = IsTrue now.told → IfErr result (IsReason keys number before.coming)
