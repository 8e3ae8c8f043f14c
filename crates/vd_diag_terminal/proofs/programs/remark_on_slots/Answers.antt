use Rattle.std.proofs.Common.{subst}
use Rattle.vd_core.specs.declared.normal.NormalForm.{NormalForm}
use Rattle.vd_diag_terminal.specs.DiagChoiceRemarks.{IsNoAssignmentRemark}
use Rattle.vd_diag_terminal.proofs.Least.{least_of}
use Rattle.vd_diag_terminal.proofs.Parts.{of_space}
use Rattle.vd_diag_terminal.proofs.programs.remark_on_slots.Goals as goal

pub space_for-requires : goal.space_for-requires
space_for-requires c = least_of c.args.found.now c.program-program.result.now c.labels-labels.result.now c.program-program.ensures c.labels-labels.ensures.same c.labels-labels.ensures.least

pub returns : goal.returns
returns c =
    let form = c.args.found.now in
    let space = c.in_ok-space.space in
    let remark = c.in_ok-remark.remark in
    of_space (IsNoAssignmentRemark form.program) form c.program-program.result.now c.labels-labels.result.now c.program-program.ensures c.labels-labels.ensures.same space remark (c.in_ok-space.ensures {u = tt})
    (subst (λ (p : NormalForm). IsNoAssignmentRemark p space remark) c.program-program.ensures (c.in_ok-remark.ensures {u = tt}))
