use Rattle.vd_base.specs.declared.protocols.Proto.TheVariants.{Rep}
use Rattle.vd_clear.proofs.ClearLaws.{clear_laws}
use Rattle.vd_clear.proofs.ClearActs.{clear_acts}
use Rattle.vd_clear.proofs.laws.copies_are_a_back_end.Goals as goal

pub returns : goal.returns
returns c = λ set some member. (clear_laws (Rep set) tt some member, clear_acts (Rep set) tt)
