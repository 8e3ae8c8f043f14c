use Rattle.vd_long.specs.Marks.{lengthen_of}
use Rattle.vd_space.proofs.Front.{has_labels}
use Rattle.vd_cmd_rewrite.proofs.Steps.{under_new, under_same}
use Rattle.vd_cmd_rewrite.proofs.program.looped.Goals as goal

pub lengthen_labelled-requires : goal.lengthen_labelled-requires
lengthen_labelled-requires c = has_labels c.args.program c.args.labels.now c.requires

pub returns-in-Some : goal.returns-in-Some
returns-in-Some c = under_new lengthen_of c.args.program c.args.labels.now c.requires c.in-Some.new c.labelled_or.result (rw c.in-Some.is at c.in_ok-long.ensures) c.labelled_or.ensures

pub returns-in-None : goal.returns-in-None
returns-in-None c = under_same lengthen_of c.args.program c.args.labels.now c.requires (rw c.in-None.is at c.in_ok-long.ensures)
