use Rattle.vd_convert.proofs.ToXor.{to_xor_gives}
use Rattle.vd_convert.proofs.ToAdd.{to_add_gives}
use Rattle.vd_convert.proofs.ConvertActs.{conversions_act}
use Rattle.vd_convert.proofs.laws.conversions_keep_the_word.Goals as goal

pub returns-clause-bits : goal.returns-clause-bits
returns-clause-bits c = λ a b apart t next w ready x v o. to_xor_gives a b apart t next w ready x v o

pub returns-clause-sums : goal.returns-clause-sums
returns-clause-sums c = λ a b apart t next w ready x v o. to_add_gives a b apart t next w ready x v o

pub returns-clause-acts : goal.returns-clause-acts
returns-clause-acts c = conversions_act
