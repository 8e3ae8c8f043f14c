use Rattle.std.proofs.Common.{◌∙◌, refl, subst}
use Rattle.std.proofs.lemmas.Result.{err_from_is_err_and}
use Rattle.vd_space.specs.declared.problem.Problem.{Problem}
use Rattle.vd_space.specs.Spaces.{IsProblem}
use Rattle.vd_space.specs.Usual.{usual}
use Rattle.vd_search_stages.specs.Selecting.{IsOver}
use Rattle.vd_cmd_choice.proofs.Chosen.{found_by, found_is, no_memory, spent}
use Rattle.vd_space.proofs.Front.{has_labels}
use Rattle.vd_cmd_choice.proofs.choice.choice_under.Goals as goal

pub of-requires : goal.of-requires
of-requires c = has_labels c.args.program c.args.labels c.requires.least

pub returns-in_err-space-clause-searches : goal.returns-in_err-space-clause-searches
returns-in_err-space-clause-searches c =
    let p = err_from_is_err_and c.from_residual.result c.from_residual.ensures.1 in
    rw (p.1, p.2) (no_memory c.args.program c.args.labels c.args.budget)

pub returns-in-Ok-clause-searches : goal.returns-in-Ok-clause-searches
returns-in-Ok-clause-searches c =
    let same = c.problem.ensures.same ∙ c.in_ok-space.ensures {u = tt} in
    found_by c.args.program c.args.labels c.args.budget c.in-Ok.optimum (rw same at c.in-Ok.ensures.selects)

pub returns-in-Ok-clause-found : goal.returns-in-Ok-clause-found
returns-in-Ok-clause-found c =
    let spaced = c.in_ok-space.ensures {u = tt} in
    found_is c.args.program c.args.labels c.args.budget (subst IsProblem spaced c.problem.ensures.well_formed.holds) c.requires.least c.in-Ok.optimum (rw (c.problem.ensures.same ∙ spaced) at c.in-Ok.ensures.selects)

pub returns-in-Err-Spent-clause-searches : goal.returns-in-Err-Spent-clause-searches
returns-in-Err-Spent-clause-searches c =
    let spaced = c.in_ok-space.ensures {u = tt} in
    rw c.new.ensures
    (spent c.args.program c.args.labels c.args.budget (subst IsProblem spaced c.problem.ensures.well_formed.holds)
    (subst (λ (p : Problem). IsOver p (usual p) c.args.budget) (c.problem.ensures.same ∙ spaced) (c.in-Err-Spent.ensures.spent (rw c.in-Err-Spent.field-0-is refl))))
