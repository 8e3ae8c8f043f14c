use Rattle.std.proofs.Common.{Ok, Err}
use Rattle.std.proofs.lemmas.Result.{err_from_is_err_and}
use Rattle.vd_cmd_labels.specs.Labelling.{labels_of}
use Rattle.vd_cmd_plan.specs.Plans.{check_then}
use Rattle.vd_cmd_plan.proofs.Front.{both_steps, check_step, first_step}
use Rattle.vd_cmd_choice.specs.Choice.{chosen_in, search_then}
use Rattle.vd_cmd_choice.specs.Searching.{GaveUp, searched_by}
use Rattle.vd_cmd_choice.proofs.choice.choice_of.Goals as goal

pub choice_under-requires-clause-least : goal.choice_under-requires-clause-least
choice_under-requires-clause-least c = (c.in_ok-labels.ensures {u = tt}).least

pub returns-in_err-labels-clause-chooses : goal.returns-in_err-labels-clause-chooses
returns-in_err-labels-clause-chooses c = (
  GaveUp,
  λ certificates choices least files.
      let p = err_from_is_err_and c.from_residual.result c.from_residual.ensures.1 in
      rw (p.1, p.2)
      (first_step (check_then (labels_of least c.args.program)) (search_then choices (searched_by certificates choices GaveUp) c.args.budget c.args.program) files files c.in_err-labels.field-0.0
      (check_step (labels_of least c.args.program) files (Err c.in_err-labels.field-0.0) ((c.in_err-labels.ensures {u = tt}).checks least))),
)

pub returns-clause-chooses : goal.returns-clause-chooses
returns-clause-chooses c =
    let s = c.choice_under.ensures.searches in (
      s.0,
      λ certificates choices least files.
          both_steps (check_then (labels_of least c.args.program)) (search_then choices (searched_by certificates choices s.0) c.args.budget c.args.program) files files files c.in_ok-labels.labels (chosen_in c.choice_under.result)
          (check_step (labels_of least c.args.program) files (Ok c.in_ok-labels.labels) ((c.in_ok-labels.ensures {u = tt}).checks least)) (s.1 certificates choices files),
    )
