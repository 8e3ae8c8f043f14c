use Rattle.std.proofs.Common.{Some, None, subst}
use Rattle.vd_cmd_plan.specs.Labelled.{labelled_form}
use Rattle.vd_cmd_plan.specs.Plans.{Computes}
use Rattle.vd_cmd_choice.proofs.Front.{assigned_computes, none_computes}
use Rattle.vd_cmd_draw.specs.Revealing.{revealed_answer}
use Rattle.vd_cmd_draw.proofs.reveals_command.reveals_choice.Goals as goal

pub no_assignment-requires : goal.no_assignment-requires
no_assignment-requires c = c.requires

pub returns-in-Some : goal.returns-in-Some
returns-in-Some c =
    let found = c.args.found in
    assigned_computes (labelled_form found.choice.program found.choice.labels) (revealed_answer found.text found.choice.program c.args.hosts.now) found.choice.assignment (Some c.in-Some.assignment) c.reveals_at.result c.in-Some.is
    (subst (λ text. Computes (revealed_answer text found.choice.program c.args.hosts.now c.in-Some.assignment) c.reveals_at.result) c.as_slice.ensures c.reveals_at.ensures)

pub returns : goal.returns
returns c =
    let found = c.args.found in
    assigned_computes (labelled_form found.choice.program found.choice.labels) (revealed_answer found.text found.choice.program c.args.hosts.now) found.choice.assignment None _ c.in-None.is
    (none_computes (labelled_form found.choice.program found.choice.labels) c.no_assignment.result c.no_assignment.ensures)
