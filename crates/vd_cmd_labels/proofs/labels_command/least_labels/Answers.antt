use Rattle.std.proofs.Common.{List, Ok, length, ap, ◌∙◌, subst}
use Rattle.vd_constraints.specs.declared.origin.Origin.{Origin}
use Rattle.vd_constraints.specs.Systems.{Constraints}
use Rattle.vd_constraints.specs.Satisfies.{IsLeast}
use Rattle.vd_cmd_labels.proofs.Labelled.{check_within, labels_found, none_found, origin_within}
use Rattle.vd_cmd_labels.proofs.labels_command.least_labels.Goals as goal

pub returns-in-None-clause-checks : goal.returns-in-None-clause-checks
returns-in-None-clause-checks c = λ least. record {
  ok = labels_found least c.args.program.now c.in_ok-collected.collected.system c.in_ok-collected.ensures.system c.checks-checks.ensures.valid c.in_ok-solution.solution c.in-None.ensures;
  err = tt;
}

pub returns-clause-checks : goal.returns-clause-checks
returns-clause-checks c = λ least. record {
  ok = tt;
  err = none_found least c.args.program.now c.in_ok-collected.collected.system c.in_ok-collected.ensures.system c.checks-checks.ensures.valid c.in-Some.number c.in_ok-solution.solution c.checks-checks.result.now c.as_slice-origins.result.now c.form.result.now
      c.in_ok-fault-in-Some.fault c.in-Some.ensures c.in_ok-solution.ensures c.checks-checks.ensures.same (c.as_slice-origins.ensures ∙ c.in_ok-collected.ensures.origins) c.form.ensures.same c.in_ok-fault-in-Some.ensures;
}

pub returns-in-None-clause-least : goal.returns-in-None-clause-least
returns-in-None-clause-least c =
    subst (λ (s : Constraints). IsLeast s c.in_ok-solution.solution) c.in_ok-collected.ensures.system c.in-None.ensures

pub flow_fault-requires-clause-check : goal.flow_fault-requires-clause-check
flow_fault-requires-clause-check c = check_within c.in_ok-collected.collected.system c.checks-checks.result.now c.in-Some.number c.checks-checks.ensures.same c.in-Some.ensures

pub flow_fault-requires-clause-origin : goal.flow_fault-requires-clause-origin
flow_fault-requires-clause-origin c =
    origin_within c.in_ok-collected.collected.system c.as_slice-origins.result.now c.in-Some.number
    (ap (λ (origins : List Origin). length origins) c.as_slice-origins.ensures ∙ c.in_ok-collected.ensures.as_many) c.in-Some.ensures
