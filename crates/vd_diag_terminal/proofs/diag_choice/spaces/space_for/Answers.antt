use Rattle.vd_space.proofs.Front.{has_labels}
use Rattle.vd_diag_terminal.proofs.diag_choice.spaces.space_for.Goals as goal

pub of-requires : goal.of-requires
of-requires c = has_labels c.args.program.now c.args.labels.now c.requires

pub returns : goal.returns
returns c = record { least = c.requires; is = c.in_ok-space.ensures {u = tt} }
