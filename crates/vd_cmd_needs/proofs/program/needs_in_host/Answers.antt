use Rattle.std.proofs.Common.{Ok, Err, []}
use Rattle.std.proofs.lemmas.Result.{err_from_is_err_and}
use Rattle.vd_cmd_plan.specs.Plans.{answer_then, ended}
use Rattle.vd_cmd_plan.proofs.Front.{answers, check_step}
use Rattle.vd_cmd_needs.specs.Needing.{program_text}
use Rattle.vd_cmd_plan.specs.Programs.{program_in}
use Rattle.vd_cmd_needs.proofs.Told.{host_told}
use Rattle.vd_cmd_needs.proofs.program.needs_in_host.Goals as goal

pub returns-in_err-program-clause-executes : goal.returns-in_err-program-clause-executes
returns-in_err-program-clause-executes c = λ programs files.
    let p = err_from_is_err_and c.from_residual.result c.from_residual.ensures.1 in
    rw (p.1, p.2)
    (check_step (program_in programs c.args.bytes.now) files (Err c.in_err-program.field-0.0) ((c.in_err-program.ensures {u = tt}).checks programs) (λ program. answer_then (ended [] (program_text c.args.kind program))))

pub returns-clause-executes : goal.returns-clause-executes
returns-clause-executes c = λ programs files.
    check_step (program_in programs c.args.bytes.now) files (Ok c.in_ok-program.program) ((c.in_ok-program.ensures {u = tt}).checks programs) (λ program. answer_then (ended [] (program_text c.args.kind program))) files _
    (answers (ended [] (program_text c.args.kind c.in_ok-program.program)) files _ c.answer_host.ensures)

pub returns-clause-tells : goal.returns-clause-tells
returns-clause-tells c =
    let read = c.in_ok-program.ensures {u = tt} in
    host_told c.args.kind c.args.bytes.now c.in_ok-program.program _ read.given read.code c.answer_host.ensures
