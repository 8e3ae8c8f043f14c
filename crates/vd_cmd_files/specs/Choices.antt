-- A printed choice tells the choice.
use Rattle.std.specs.Prelude.{◌≡◌, ◌<◌, ◌^◌, ℕ, List, length}
use Rattle.std.specs.List.{AllByRecursion}
use Rattle.vd_base.specs.declared.protocols.Proto.{Proto}
use Rattle.vd_base.specs.declared.protocols.Proto.TheVariants.{Local, Rep, Commit, Add, Xor}
use Rattle.vd_core.specs.declared.normal.NormalForm.{NormalForm}
use Rattle.vd_core.specs.Facts.{AreNames}
use Rattle.vd_report.specs.ChoiceLines.{choice_lines}

-- its hosts are among so many
abbrev pub IsAmong : ℕ → Proto → Type 0
IsAmong hosts (Local host) = host.0 < hosts
IsAmong hosts (Rep set) = set.bits < 2 ^ hosts
IsAmong hosts (Commit prover verifier) = (prover.0 < hosts) × (verifier.0 < hosts)
IsAmong hosts (Add first second) = (first.0 < hosts) × (second.0 < hosts)
IsAmong hosts (Xor first second) = (first.0 < hosts) × (second.0 < hosts)

-- a protocol for each slot, and a cost of 64 bits
pub record IsChoiceFor (program : NormalForm) (list : List Proto) (cost : ℕ) : Type 0 where
  pub whole : length list ≡ length program.slots
  pub among : AllByRecursion (IsAmong (length program.hosts)) list
  pub small : cost < 2 ^ 64

-- two choices of one program that are printed alike are one
abbrev pub ChoiceLinesTellTheChoice : Type 0
ChoiceLinesTellTheChoice = (program : NormalForm) → AreNames program.hosts → (list other : List Proto) (cost own : ℕ)
    → IsChoiceFor program list cost → IsChoiceFor program other own
    → choice_lines program list cost ≡ choice_lines program other own → (list ≡ other) × (cost ≡ own)
