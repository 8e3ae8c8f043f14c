use Rattle.std.proofs.lemmas.Result.{err_from_is_err_and}
use Rattle.std.proofs.Common.{List, sym, subst}
use Rattle.vd_long.specs.declared.steps.Step.{Step}
use Rattle.vd_long.specs.Steps.{steps_in}
use Rattle.vd_rewrite.specs.Stops.{IsTooLarge}
use Rattle.vd_long.proofs.StepsGrow.{first_stops}
use Rattle.vd_long.proofs.steps.Place.+steps.Goals as goal

pub returns-in_err-add_step-in-Some-clause-stop : goal.returns-in_err-add_step-in-Some-clause-stop
returns-in_err-add_step-in-Some-clause-stop t c =
    let p = err_from_is_err_and c.from_residual.result c.from_residual.ensures.1 in
    rw (p.1, p.2)
    (λ e. subst (λ (z : List Step). IsTooLarge (steps_in c.args.self z c.args.made.now)) (sym c.in-Some.ensures.cases.0)
    (first_stops c.args.self c.in-Some.step.now c.in-Some.rest.now c.args.made.now ((c.in_err-add_step-in-Some.ensures {u = tt}).stop e)))
