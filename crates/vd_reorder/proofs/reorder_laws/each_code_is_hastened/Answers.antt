use Rattle.std.proofs.Common.{refl}
use Rattle.vd_reorder.proofs.ReorderLawsTesting.{sound, each_code}
use Rattle.vd_reorder.proofs.reorder_laws.each_code_is_hastened.Goals as goal

pub returns-clause-sound : goal.returns-clause-sound
returns-clause-sound c = sound

pub returns-clause-hastened : goal.returns-clause-hastened
returns-clause-hastened c = each_code

pub returns-clause-openings : goal.returns-clause-openings
returns-clause-openings c = (refl, refl)

pub returns-clause-digests : goal.returns-clause-digests
returns-clause-digests c = refl

pub returns-clause-blocks : goal.returns-clause-blocks
returns-clause-blocks c = (refl, refl)
