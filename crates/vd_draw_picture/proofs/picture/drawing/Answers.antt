use Rattle.std.proofs.Common.{◌∙◌}
use Rattle.vd_draw_picture.proofs.Pictured.{pictured}
use Rattle.vd_draw_picture.proofs.picture.drawing.Goals as goal

pub returns : goal.returns
returns c =
    pictured c.args.name.now c.args.source.now c.args.program.now c.form-form.result.now c.args.labels.now c.args.list.now c.in_ok-labels.labels c.as_slice-rows.result.now c.as_slice-kinds.result.now
    c.picture.result c.form-form.ensures.same (c.in_ok-labels.ensures {u = tt}) (c.as_slice-rows.ensures ∙ c.in_ok-rows.ensures {u = tt}) (c.as_slice-kinds.ensures ∙ c.in_ok-kinds.ensures {u = tt}) c.picture.ensures
