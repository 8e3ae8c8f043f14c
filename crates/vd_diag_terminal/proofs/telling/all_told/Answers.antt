use Rattle.std.proofs.Common.{List, ◌++◌, ap, ◌∙◌}
use Rattle.vd_diag.specs.declared.remark.Remark.{Remark}
use Rattle.vd_diag_terminal.specs.Said.{steps_told}
use Rattle.vd_diag_terminal.proofs.telling.all_told.Goals as goal

pub returns : goal.returns
returns c = record {
  first = c.in_ok-text.text;
  remark = c.in_ok-text.ensures {u = tt};
  steps = c.in_ok-steps.steps;
  are = c.in_ok-steps.ensures {u = tt};
  printed =
      (c.in_ok-add_steps.ensures {u = tt})
      ∙ ap (λ (steps : List Remark). c.in_ok-text.text ++ steps_told c.args.coloured c.args.name.now c.args.bytes.now steps) c.as_slice.ensures;
}
