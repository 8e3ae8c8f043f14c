use Rattle.std.proofs.Common.{◌≡◌, ℕ, Option, subst}
use Rattle.vd_constraints.specs.declared.labels.Labels.{Labels}
use Rattle.vd_core.specs.declared.normal.NormalForm.{NormalForm}
use Rattle.vd_noninter_protocols.specs.Difference.{view_difference as known_difference}
use Rattle.vd_excuse.proofs.Differing.{differ_at}
use Rattle.vd_excuse.proofs.Stepped.{each_ok}
use Rattle.vd_excuse.proofs.excusing.difference.Goals as goal

pub returns : goal.returns
returns c =
    each_ok c.view_difference.result
    (λ (place : Option ℕ) is (l : Labels).
    subst (λ (p : NormalForm). place ≡ known_difference p l c.args.protocols.now c.args.host c.args.first.now c.args.second.now) c.form.ensures.same
    (differ_at c.form.result.now c.new-listener.result c.args.protocols.now c.args.host c.args.first.now c.args.second.now place l is c.new-listener.ensures)) c.view_difference.ensures
