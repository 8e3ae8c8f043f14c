use Rattle.vd_long.proofs.DivisionMade.{lengthened_keeps}
use Rattle.vd_long.proofs.law.long_divisions_keep_outputs.Goals as goal

pub returns : goal.returns
returns c = λ lengthens program well numbers inputs words. lengthened_keeps lengthens program well.in_order well.made_before numbers inputs words
