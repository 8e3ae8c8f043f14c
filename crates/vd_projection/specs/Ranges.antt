-- What is proved of the code of programs.
use Rattle.std.specs.Prelude.{ℕ, ◌<◌, ◌≤◌, List, length}
use Rattle.vd_base.specs.declared.protocols.Proto.{Proto}
use Rattle.vd_core.specs.declared.normal.NormalForm.{NormalForm}
use Rattle.vd_core.specs.Facts.{IsWellMade}
use Rattle.vd_execution.specs.declared.instructions.Reg.{Reg}
use Rattle.vd_execution.specs.Code.{Code, Finished, Then, Send, Recv, Choose, Repeat}
use Rattle.vd_execution.specs.Joint.{code_of}
use Rattle.vd_execution.specs.Ranges.{IsInRange}
use Rattle.vd_backend_laws.specs.Suite.{IsOver}
use Rattle.vd_backend_laws.specs.Whole.{code_at}

-- at each protocol over the hosts of the program
abbrev pub CodeIsInRange : Type 0
CodeIsInRange = (program : NormalForm) (proto : ℕ → Proto) → IsWellMade program → ((x : ℕ) → IsOver (length program.hosts) (proto x))
    → (h : ℕ) → IsInRange (length program.hosts) (code_of h (code_at proto program))

-- a packet has one to nine words
abbrev pub IsShort : List Reg → Type 0
IsShort rs = (0 < length rs) × (length rs ≤ 9)

-- and so has each packet of a code
abbrev pub PacketsAreShort : Code → Type 0
PacketsAreShort Finished = Unit {0}
PacketsAreShort (Then a c) = PacketsAreShort c
PacketsAreShort (Send p rs c) = IsShort rs × PacketsAreShort c
PacketsAreShort (Recv p rs c) = IsShort rs × PacketsAreShort c
PacketsAreShort (Choose g first other c) = PacketsAreShort first × (PacketsAreShort other × PacketsAreShort c)
PacketsAreShort (Repeat r turn count body c) = PacketsAreShort body × PacketsAreShort c

abbrev pub CodeHasShortPackets : Type 0
CodeHasShortPackets = (program : NormalForm) (proto : ℕ → Proto) → IsWellMade program → ((x : ℕ) → IsOver (length program.hosts) (proto x))
    → (h : ℕ) → PacketsAreShort (code_of h (code_at proto program))
