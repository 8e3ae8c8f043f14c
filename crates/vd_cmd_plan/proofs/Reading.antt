-- What is read of a file: the one outcome of a program's file is the one that was answered.
use Rattle.std.proofs.Common.{◌≡◌, ◌≢◌, ℕ, List, Result, Err, sym, ap}
use Rattle.vd_hostcode.specs.declared.host_text.program.HostProgram.{HostProgram}
use Rattle.vd_hostcode.specs.Outcome.{Answers}
use Rattle.vd_hostcode.specs.declared.fault.CodeFault.{CodeFault}
use Rattle.vd_hostcode.specs.declared.fault.CodeFault.TheVariants.{Memory}
use Rattle.vd_cmd_plan.specs.Programs.{ProgramOutcomes, as_program, program_in}

pub program_read : (outcomes : ProgramOutcomes) (bytes : List ℕ) (r : Result HostProgram CodeFault) → Answers bytes r → r ≢ Err Memory → program_in outcomes bytes ≡ as_program r
program_read outcomes bytes r answers some = ap as_program (sym ((answers some (outcomes.read bytes)).1 (outcomes.read_is bytes)))
