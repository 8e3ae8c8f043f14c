use Rattle.std.proofs.Common.{ap, ◌∙◌, subst, List}
use Rattle.vd_cmd_plan.specs.Plans.{Checks}
use Rattle.vd_cmd_data.specs.Outputs.{outputs_count, outputs_of}
use Rattle.vd_cmd_data.specs.Readings.{readings_of}
use Rattle.vd_cmd_data.specs.declared.readings.Reading.{Reading}
use Rattle.vd_cmd_data.proofs.report_command.named_words.Goals as goal

pub returns : goal.returns
returns c =
    let same =
    ap (λ count. readings_of c.args.file.now count c.as_slice-2.result.now c.args.told.now) c.outputs_count.ensures
    ∙ ap (λ places. readings_of c.args.file.now (outputs_count c.form-form.result.now c.args.host) places c.args.told.now) (c.as_slice-2.ensures ∙ c.in_ok-places.ensures)
    ∙ ap (λ text. readings_of c.args.file.now (outputs_count c.form-form.result.now c.args.host) (outputs_of text c.form-form.result.now c.args.host) c.args.told.now) c.as_slice.ensures
    ∙ ap (λ form. readings_of c.args.file.now (outputs_count form c.args.host) (outputs_of c.args.loaded.now.text form c.args.host) c.args.told.now) c.form-form.ensures.same in
    subst (λ wanted. Checks {T = List Reading} wanted c.readings_of.result) same c.readings_of.ensures
