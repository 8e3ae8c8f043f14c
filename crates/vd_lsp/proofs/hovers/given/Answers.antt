use Rattle.std.proofs.Common.{◌≡◌, subst}
use Rattle.std.proofs.lemmas.Result.{IfOk-weaker}
use Rattle.vd_cmd_plan.specs.Plans.{Checks}
use Rattle.vd_lsp.specs.Hovers.{IsNone, given}
use Rattle.vd_lsp.proofs.SlotLines.{lines_given, none_given}
use Rattle.vd_lsp.proofs.hovers.given.Goals as goal

pub returns-in-Ok : goal.returns-in-Ok
returns-in-Ok c = λ wanted checks. lines_given wanted c.in-Ok.lines (subst (λ r. Checks wanted r) c.in-Ok.is checks)

pub returns-in-Err : goal.returns-in-Err
returns-in-Err c = λ wanted checks.
    IfOk-weaker c.no_lines.result (λ lines. IsNone c.in-Err.status lines) (λ lines. lines ≡ given wanted)
    (λ lines none. none_given wanted c.in-Err.status lines (subst (λ r. Checks wanted r) c.in-Err.is checks) none.0 none.1) c.no_lines.ensures
