use Rattle.std.proofs.Common.{◌<◌, length, subst, sym}
use Rattle.std.proofs.lemmas.Result.{err_from_is_err_and}
use Rattle.vd_space.specs.Arcs.{arcs}
use Rattle.vd_space.specs.declared.problem.Problem.{Problem}
use Rattle.vd_space.proofs.Front.{has_labels}
use Rattle.vd_cmd_choose.proofs.Statuses.{problem_refusal}
use Rattle.vd_cmd_choose.proofs.spaces.least_space.Goals as goal

pub returns-in_err-labels-clause-checks : goal.returns-in_err-labels-clause-checks
returns-in_err-labels-clause-checks c = λ least.
    let p = err_from_is_err_and c.from_residual.result c.from_residual.ensures.1 in
    rw (p.1, p.2) (record { ok = tt; err = problem_refusal c.args.program.now _ c.in_err-labels.field-0.0 ((c.in_err-labels.ensures {u = tt}).checks least).err })

pub of-requires : goal.of-requires
of-requires c = has_labels c.args.program.now c.in_ok-labels.labels (c.in_ok-labels.ensures {u = tt}).least

pub returns-clause-few_arcs : goal.returns-clause-few_arcs
returns-clause-few_arcs c =
    let labels = c.in_ok-labels.labels in
    let few = c.arcs_are_few.ensures labels (has_labels c.args.program.now labels (c.in_ok-labels.ensures {u = tt}).least) in
    subst (λ (problem : Problem). length (arcs problem) < 4294967296) (sym c.in_ok-of.ensures) few
