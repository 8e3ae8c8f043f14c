-- What a rewriting makes of a program, step by step.
use Rattle.std.proofs.Common.{◌≡◌, Result, Ok, Err, IfOk, sym, subst}
use Rattle.vd_core.specs.declared.normal.NormalForm.{NormalForm}
use Rattle.vd_constraints.specs.Rules.{system_of}
use Rattle.vd_constraints.specs.Satisfies.{IsLeast}
use Rattle.vd_constraints.specs.declared.labels.Labels.{Labels}
use Rattle.vd_cmd_rewrite.specs.RunPrograms.{Rewriting, IsLabelledOr, New, Old, Rewrites, Under}

module _ (change : Rewriting) (old : NormalForm) (labels : Labels) (is : IsLeast (system_of old) labels) where
  -- the new program where it has labels
  pub under_new : {E : Type 0} (new : NormalForm) (result : Result NormalForm E) → new ≡ change old labels → IfOk result (IsLabelledOr new old) → IfOk result (Rewrites change old)
  under_new new (Ok chosen) e chosen_is = Under labels is (subst (λ (z : NormalForm). IsLabelledOr z old chosen) e chosen_is)
  under_new new (Err fault) e chosen_is = tt

  -- and where it is the old one
  pub under_same : change old labels ≡ old → Rewrites change old old
  under_same e = Under labels is (New labels (subst (λ (z : NormalForm). IsLeast (system_of z) labels) (sym e) is) (sym e))
