use Rattle.std.proofs.Common.{subst}
use Rattle.vd_constraints.specs.Outcomes.{HasNoLabelling}
use Rattle.vd_constraints.specs.Satisfies.{IsLeast, Satisfies}
use Rattle.vd_constraints.specs.Systems.{Constraints}
use Rattle.vd_constraints.specs.declared.labels.Labels.{Labels}
use Rattle.vd_cmd_rewrite.proofs.program.labels_if_any.Goals as goal

pub returns-in-Ok : goal.returns-in-Ok
returns-in-Ok c =
    let least : IsLeast c.in_ok-collected.collected.system c.in-Ok.labels = rw c.in-Ok.is at c.in_ok-solved.ensures in
    subst (λ (s : Constraints). IsLeast s c.in-Ok.labels) c.in_ok-collected.ensures.system least

pub returns : goal.returns
returns c =
    let none : HasNoLabelling c.in_ok-collected.collected.system c.in-Err._check = rw c.in-Err.is at c.in_ok-solved.ensures in
    subst (λ (s : Constraints). (l : Labels) → Satisfies s l → ⊥) c.in_ok-collected.ensures.system none.none
