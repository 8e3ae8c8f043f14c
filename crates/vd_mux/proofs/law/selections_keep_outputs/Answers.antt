use Rattle.vd_mux.proofs.SelectionsKept.{turned_keeps}
use Rattle.vd_mux.proofs.law.selections_keep_outputs.Goals as goal

pub returns : goal.returns
returns c = λ hides program well truths inputs. turned_keeps hides program well.in_order well.made_before truths inputs
