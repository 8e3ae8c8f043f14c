use Rattle.vd_mux.proofs.SelectionsKept.{turning_keeps}
use Rattle.vd_mux.proofs.law.turning_keeps_outputs.Goals as goal

pub returns : goal.returns
returns c = λ hides program well inputs. turning_keeps hides program well.in_order well.made_before inputs
