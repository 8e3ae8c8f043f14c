use Rattle.vd_elaborate.proofs.Turns.{turns_in_loops}
use Rattle.vd_elaborate.proofs.anf_wellformed.law.turns_stand_in_loops.Goals as goal

pub returns : goal.returns
returns c = turns_in_loops
