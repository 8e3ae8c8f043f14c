use Rattle.vd_space.proofs.Front.{few_arcs}
use Rattle.vd_space.proofs.Front.{is_labelled}
use Rattle.vd_cmd_choose.proofs.spaces.arcs_are_few.Goals as goal

pub returns : goal.returns
returns c = λ labels has. few_arcs c.args.program.now labels c.form.ensures.well_made (is_labelled c.args.program.now labels c.form.ensures.well_made has)
