use Rattle.vd_cmd_compile.proofs.Storing.{Completes}
use Rattle.vd_cmd_compile.proofs.compile_command.files_of.Given as goal

abbrev pub invariant-loop-number : goal.invariant-loop-number
invariant-loop-number l = Completes l.prefix l.hosts l.fn.plan l.fn.codes l.codes l.number l.files
