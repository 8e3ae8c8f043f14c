use Rattle.std.proofs.Common.{refl}
use Rattle.vd_cmd_rewrite.specs.RunPrograms.{IsFound, New, Old}
use Rattle.vd_cmd_rewrite.proofs.program.labelled_or.Goals as goal

pub returns-in-Some : goal.returns-in-Some
returns-in-Some c = New c.in-Some.field-0 (rw c.in-Some.is at c.in_ok-found.ensures) refl

pub returns-in-None : goal.returns-in-None
returns-in-None c = Old (rw c.in-None.is at c.in_ok-found.ensures) refl
