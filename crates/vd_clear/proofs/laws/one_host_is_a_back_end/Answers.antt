use Rattle.std.proofs.Common.{inl, refl}
use Rattle.vd_base.specs.declared.protocols.Proto.TheVariants.{Local}
use Rattle.vd_clear.proofs.ClearLaws.{clear_laws}
use Rattle.vd_clear.proofs.ClearActs.{clear_acts}
use Rattle.vd_clear.proofs.laws.one_host_is_a_back_end.Goals as goal

pub returns : goal.returns
returns c = λ h. (clear_laws (Local h) tt h.0 (inl refl), clear_acts (Local h) tt)
