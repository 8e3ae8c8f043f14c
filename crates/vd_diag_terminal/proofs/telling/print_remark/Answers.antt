use Rattle.std.proofs.Common.{List, ℕ, subst, sym}
use Rattle.std.specs.Prelude.{◌≡◌, IfOk}
use Rattle.vd_diag_terminal.proofs.Others.{shown_whole}
use Rattle.vd_diag_terminal.proofs.telling.print_remark.Goals as goal

pub returns-in-InputText : goal.returns-in-InputText
returns-in-InputText c = rw c.in-InputText.is c.tell_place.ensures

pub returns-in_default : goal.returns-in_default
returns-in_default c =
    subst (λ (said : List ℕ). IfOk c.tell.result (λ text. text ≡ said)) (shown_whole c.args.status.now c.args.coloured c.args.name.now c.args.bytes.now c.args.remark.now c.in_default.not-InputText) c.tell.ensures
