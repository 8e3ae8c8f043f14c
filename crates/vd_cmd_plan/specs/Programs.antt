-- The program of a host, as a command reads it from the bytes of a file.
use Rattle.std.specs.Prelude.{ℕ, List, Result, Ok, Err}
use Rattle.vd_hostcode.specs.declared.host_text.program.HostProgram.{HostProgram}
use Rattle.vd_hostcode.specs.Outcome.{IsOutcome}
use Rattle.vd_hostcode.specs.declared.fault.CodeFault.{CodeFault}
use Rattle.vd_hostcode.specs.declared.fault.CodeFault.TheVariants.{Text, Range, Memory}
use Rattle.vd_cmd_plan.specs.declared.status.Status.{Status}
use Rattle.vd_cmd_plan.specs.declared.status.Status.TheVariants.{Host, Memory as OutOfMemory}
use Rattle.vd_cmd_plan.specs.declared.status.HostStatus.TheVariants.{ProgramText, ProgramRange}

-- The function that picks the one outcome of each file: the program, or the first offset at which no program goes on, or the first
-- instruction that breaks a range.
pub record ProgramOutcomes : Type 0 where
  pub read : List ℕ → Result HostProgram CodeFault
  pub read_is : (bytes : List ℕ) → IsOutcome bytes (read bytes)

abbrev pub as_program : Result HostProgram CodeFault → Result HostProgram Status
as_program (Ok program) = Ok program
as_program (Err (Text offset)) = Err (Host (ProgramText offset))
as_program (Err (Range number)) = Err (Host (ProgramRange number))
as_program (Err Memory) = Err OutOfMemory

-- the program that the bytes are, or the status of their refusal
abbrev pub program_in : ProgramOutcomes → List ℕ → Result HostProgram Status
program_in programs bytes = as_program (programs.read bytes)

-- why the bytes are refused, unless memory runs out
abbrev pub IsProgramEnd : List ℕ → Status → Type 0
IsProgramEnd bytes OutOfMemory = Unit {0}
IsProgramEnd bytes (Host (ProgramText offset)) = IsOutcome bytes (Err (Text offset))
IsProgramEnd bytes (Host (ProgramRange number)) = IsOutcome bytes (Err (Range number))
IsProgramEnd bytes other = ⊥
