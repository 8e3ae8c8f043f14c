-- The registers of an instruction are below n.
use Rattle.std.specs.Prelude.{ℕ, ◌<◌, All}
use Rattle.vd_execution.specs.declared.instructions.Instr.{Instr}
use Rattle.vd_execution.specs.declared.instructions.Instr.TheVariants as instr
use Rattle.vd_execution.specs.Ranges.{ActionFits}

abbrev pub InstrFits : ℕ → Instr → Type 0
InstrFits n (instr.Do a) = ActionFits n a
InstrFits n (instr.Send p rs) = All (λ r. r.0 < n) rs
InstrFits n (instr.Recv p rs) = All (λ r. r.0 < n) rs
InstrFits n (instr.If g) = g.0 < n
InstrFits n instr.Else = Unit {0}
InstrFits n (instr.For r count) = r.0 < n
InstrFits n instr.End = Unit {0}
