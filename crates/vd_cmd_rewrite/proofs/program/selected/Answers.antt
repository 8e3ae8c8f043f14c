use Rattle.vd_mux.specs.Hidden.{turn_of}
use Rattle.vd_cmd_rewrite.proofs.Steps.{under_new, under_same}
use Rattle.vd_cmd_rewrite.proofs.program.selected.Goals as goal

pub turn_labelled-requires : goal.turn_labelled-requires
turn_labelled-requires c = c.requires.is

pub returns-in-Some : goal.returns-in-Some
returns-in-Some c = under_new turn_of c.args.program c.args.labels.now c.requires c.in-Some.new c.labelled_or.result (rw c.in-Some.is at c.in_ok-turned.ensures) c.labelled_or.ensures

pub returns-in-None : goal.returns-in-None
returns-in-None c = under_same turn_of c.args.program c.args.labels.now c.requires (rw c.in-None.is at c.in_ok-turned.ensures)
