use Rattle.std.proofs.Common.{◌≡◌}
use Rattle.std.proofs.lemmas.Result.{IfOk-weaker}
use Rattle.vd_diag.specs.declared.remark.Remark.{Remark}
use Rattle.vd_diag_terminal.specs.DiagChoiceRemarks.{bare_remark, IsNoAssignmentRemark}
use Rattle.vd_diag_terminal.proofs.Told.{bare_is}
use Rattle.vd_diag_terminal.proofs.diag_choice.remarks.remark_on.Goals as goal

pub returns-in-Some : goal.returns-in-Some
returns-in-Some c =
    IfOk-weaker c.bare_remark.result (λ (remark : Remark). remark ≡ bare_remark c.args.form.now c.in-Some.number c.index-as_slice-number.result.label) (IsNoAssignmentRemark c.args.form.now c.args.problem.now)
    (λ remark says. bare_is c.args.form.now c.args.problem.now c.in-Some.number c.as_slice.result.now c.index-as_slice-number.result remark (c.in-Some.ensures {u = tt}) c.as_slice.ensures c.index-as_slice-number.is says) c.bare_remark.ensures
