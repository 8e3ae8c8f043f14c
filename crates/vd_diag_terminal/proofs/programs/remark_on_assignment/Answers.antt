use Rattle.std.proofs.lemmas.Result.{IfOk-weaker}
use Rattle.vd_diag_terminal.specs.Programs.{IsAssignmentRemark, IsSlotRemark}
use Rattle.vd_diag_terminal.proofs.Least.{least_of}
use Rattle.vd_diag_terminal.proofs.Parts.{of_branch, of_slots}
use Rattle.vd_diag_terminal.proofs.programs.remark_on_assignment.Goals as goal

pub branch_remark-requires : goal.branch_remark-requires
branch_remark-requires c = least_of c.args.found.now c.program-program.result.now c.labels-labels.result.now c.program-program.ensures c.labels-labels.ensures.same c.labels-labels.ensures.least

pub returns-in-Some : goal.returns-in-Some
returns-in-Some c =
    of_branch c.args.found.now c.program-program.result.now c.labels-labels.result.now c.program-program.ensures c.labels-labels.ensures.same c.in_ok-hidden.hidden c.in-Some.remark c.in-Some.is (c.in_ok-hidden.ensures {u = tt})

pub returns-in-None : goal.returns-in-None
returns-in-None c =
    let form = c.args.found.now in
    IfOk-weaker c.remark_on_slots.result (IsSlotRemark form) (IsAssignmentRemark form)
    (λ remark says. of_slots form c.program-program.result.now c.labels-labels.result.now c.program-program.ensures c.labels-labels.ensures.same c.in_ok-hidden.hidden remark c.in-None.is (c.in_ok-hidden.ensures {u = tt}) says)
    c.remark_on_slots.ensures
